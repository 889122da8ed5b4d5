use Rattle.csp_lane.proofs.Keeps.{gets, drained}
use Rattle.csp_lane.proofs.lane.draw.Goals as goal

pub pop_as-requires-clause-rule : goal.pop_as-requires-clause-rule
pop_as-requires-clause-rule g c = (gets _ _ c.requires.reads, drained _ _ c.requires.reads)
