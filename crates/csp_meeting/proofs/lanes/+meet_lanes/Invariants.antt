use Rattle.std.proofs.Common.{length}
use Rattle.csp_meeting.proofs.lanes.+meet_lanes.Given as goal

abbrev pub decreases-meet_lanes : goal.decreases-meet_lanes
decreases-meet_lanes l = length l.first.now
