use Rattle.std.proofs.Common.{◌≡◌, ◌≤◌, ◌+◌, ◌++◌, [], length, map, vec_len, vec_capacity}
use Rattle.std.specs.List.{AllByRecursion}
use Rattle.csp_party.specs.Any.{holds, plain}
use Rattle.csp_topology.specs.Opened.{AreParties, IsOpened, opened_as}
use Rattle.csp_topology.specs.Opening.{opening_of}
use Rattle.csp_topology.proofs.opened.open_parties.Given as goal

-- the parties so far, then those that are still to come, are all
abbrev pub invariant-loop-opening : goal.invariant-loop-opening
invariant-loop-opening l = record {
  parties : AreParties (length l.nodes) l.openings.items;
  names : map opened_as l.parties.items ++ map opening_of l.openings.items ≡ map opening_of l.fn.openings.items;
  opened : AllByRecursion (IsOpened l.nodes) l.parties.items;
  empty : AllByRecursion (λ p. holds (plain p.party) ≡ []) l.parties.items;
  room : vec_len l.parties + length l.openings.items ≤ vec_capacity l.parties;
  just : vec_capacity l.parties ≡ length l.fn.openings.items;
}

abbrev pub decreases-loop-opening : goal.decreases-loop-opening
decreases-loop-opening l = length l.openings.items
