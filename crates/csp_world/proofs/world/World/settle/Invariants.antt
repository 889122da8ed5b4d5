use Rattle.std.proofs.Common.{◌≡◌, ◌+◌, ◌≤◌, ◌++◌, [], length, map}
use Rattle.std.specs.List.{AllByRecursion}
use Rattle.csp_party.specs.Any.{holds, plain}
use Rattle.csp_topology.specs.Opened.{opened_as}
use Rattle.csp_topology.specs.declared.topology.TheConstants.{MAX_PARTIES}
use Rattle.csp_world.proofs.world.World.settle.Given as goal
use Rattle.csp_world.specs.Opening.{new_member}
use Rattle.csp_world.specs.Settling.{CanSettle}

-- the parties so far, then those that are still to come, are all
abbrev pub invariant-loop-party : goal.invariant-loop-party
invariant-loop-party l = record {
  decks : l.self.plain.decks ≡ l.initial.self.plain.decks;
  links : l.self.plain.links ≡ l.initial.self.plain.links;
  members : l.self.plain.members ++ map new_member (map opened_as l.parties.items) ≡ map new_member (map opened_as l.fn.parties.items);
  time : l.self.plain.time ≡ l.initial.self.plain.time;
  regions : l.self.regions ≡ l.initial.self.regions;
  can : AllByRecursion (CanSettle l.initial.self.plain.decks l.initial.self.plain.links l.initial.self.regions) l.parties.items;
  empty : AllByRecursion (λ p. holds (plain p.party) ≡ []) l.parties.items;
  few : length l.self.plain.members + length l.parties.items ≤ MAX_PARTIES;
}

abbrev pub decreases-loop-party : goal.decreases-loop-party
decreases-loop-party l = length l.parties.items
