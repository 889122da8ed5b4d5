use Rattle.std.proofs.Common.{◌≡◌}
use Rattle.csp_lane.specs.Ends.{IsEndOf}
use Rattle.csp_log.specs.declared.places.Carries.TheVariants.{Up}
use Rattle.csp_queue_tests.proofs.lanes.put_all.Given as goal

abbrev pub invariant-loop : goal.invariant-loop
invariant-loop g l = IsEndOf l.lane l.producer × (l.producer.carries ≡ Up)
