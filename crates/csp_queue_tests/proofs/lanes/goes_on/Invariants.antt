use Rattle.csp_queue_tests.proofs.lanes.goes_on.Given as goal

abbrev pub decreases-loop-item : goal.decreases-loop-item
decreases-loop-item l = goal.left-loop-item l
