use Rattle.std.proofs.Common.{◌≡◌, take, sum_by}
use Rattle.csp_report.specs.Places.{count_at}
use Rattle.csp_report.proofs.places.held_in.Given as goal

-- the count so far
abbrev pub invariant-loop-held : goal.invariant-loop-held
invariant-loop-held l = l.count ≡ sum_by (count_at l.node l.kind) (take l.held-index l.held-items)
