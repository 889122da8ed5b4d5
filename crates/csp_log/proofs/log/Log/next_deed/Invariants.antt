use Rattle.std.proofs.Common.{◌-◌, ◌≤◌, length}
use Rattle.std.specs.Prelude.{All, slice_range}
use Rattle.csp_log.specs.Idling.{IsIdle}
use Rattle.csp_log.proofs.log.Log.next_deed.Given as goal

abbrev pub invariant-loop-at : goal.invariant-loop-at
invariant-loop-at l = (l.from ≤ l.at) × (l.at ≤ length l.self.entries) × All IsIdle (slice_range l.self.entries l.from l.at)

abbrev pub decreases-loop-at : goal.decreases-loop-at
decreases-loop-at l = length l.self.entries - l.at
