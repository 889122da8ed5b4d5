use Rattle.std.proofs.Common.{length}
use Rattle.csp_opening.specs.Opened.{AreUnused}
use Rattle.csp_opening.proofs.lanes.Lanes.leave.Given as goal

abbrev pub invariant-loop-lane : goal.invariant-loop-lane
invariant-loop-lane g l = AreUnused l.lanes.items l.rooms.items l.ends.items

abbrev pub decreases-loop-lane : goal.decreases-loop-lane
decreases-loop-lane g l = length l.lanes.items
