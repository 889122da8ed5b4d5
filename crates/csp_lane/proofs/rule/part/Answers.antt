use Rattle.csp_lane.proofs.Keeps.{opens}
use Rattle.csp_lane.proofs.rule.part.Goals as goal

pub another-requires-clause-rule : goal.another-requires-clause-rule
another-requires-clause-rule g c = opens _ _ _ c.requires.first.1
