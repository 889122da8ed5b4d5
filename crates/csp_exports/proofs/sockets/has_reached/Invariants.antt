use Rattle.std.proofs.Common.{◌≡◌, ◌-◌, ◌≤◌, length, drop}
use Rattle.std.specs.List.{list_any}
use Rattle.csp_exports.specs.Unused.{is_reaching}
use Rattle.csp_exports.proofs.sockets.has_reached.Given as goal

-- by no turn so far was it reached
abbrev pub invariant-loop-index : goal.invariant-loop-index
invariant-loop-index l = (list_any (is_reaching l.app l.port) (drop l.index l.log.entries) ≡ list_any (is_reaching l.app l.port) l.log.entries) × (l.index ≤ length l.log.entries)

abbrev pub decreases-loop-index : goal.decreases-loop-index
decreases-loop-index l = length l.log.entries - l.index
