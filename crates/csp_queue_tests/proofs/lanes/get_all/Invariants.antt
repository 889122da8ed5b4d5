use Rattle.std.proofs.Common.{◌≡◌, None}
use Rattle.csp_lane.specs.Ends.{IsEndOf}
use Rattle.csp_queue_tests.proofs.lanes.get_all.Given as goal

abbrev pub invariant-loop : goal.invariant-loop
invariant-loop g l = IsEndOf l.lane l.consumer × (l.consumer.about ≡ None)
