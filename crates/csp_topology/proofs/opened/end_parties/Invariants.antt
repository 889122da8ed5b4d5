use Rattle.std.proofs.Common.{◌≡◌, [], length}
use Rattle.std.specs.List.{AllByRecursion}
use Rattle.csp_party.specs.Any.{holds, plain}
use Rattle.csp_topology.proofs.opened.end_parties.Given as goal

abbrev pub invariant-loop-party : goal.invariant-loop-party
invariant-loop-party l = AllByRecursion (λ p. holds (plain p.party) ≡ []) l.parties.items

abbrev pub decreases-loop-party : goal.decreases-loop-party
decreases-loop-party l = length l.parties.items
