use Rattle.std.proofs.Common.{◌≡◌, [], length}
use Rattle.std.specs.List.{AllByRecursion}
use Rattle.csp_party.specs.Any.{holds, plain}
use Rattle.csp_opening.proofs.unposted.leave_unposted.Given as goal

abbrev pub invariant-loop-one : goal.invariant-loop-one
invariant-loop-one l = AllByRecursion (λ s. holds (plain s.party) ≡ []) l.unposted.items

abbrev pub decreases-loop-one : goal.decreases-loop-one
decreases-loop-one l = length l.unposted.items
