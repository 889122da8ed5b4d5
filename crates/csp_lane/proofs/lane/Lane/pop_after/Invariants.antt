use Rattle.csp_lane.proofs.lane.Lane.pop_after.Given as goal

abbrev pub ghosts-heed : goal.ghosts-heed
ghosts-heed a b = record { limit = b.tally.now.count }
