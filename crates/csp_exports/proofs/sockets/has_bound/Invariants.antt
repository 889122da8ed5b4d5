use Rattle.std.proofs.Common.{◌≡◌, ◌-◌, ◌≤◌, length, drop}
use Rattle.std.specs.List.{list_any}
use Rattle.csp_exports.specs.Unused.{binds}
use Rattle.csp_exports.proofs.sockets.has_bound.Given as goal

-- no step so far binds the port
abbrev pub invariant-loop-number : goal.invariant-loop-number
invariant-loop-number l = (list_any (binds l.port) (drop l.number l.steps) ≡ list_any (binds l.port) l.steps) × (l.number ≤ length l.steps)

abbrev pub decreases-loop-number : goal.decreases-loop-number
decreases-loop-number l = length l.steps - l.number
