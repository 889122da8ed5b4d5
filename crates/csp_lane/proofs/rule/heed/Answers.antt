use Rattle.csp_lane.proofs.Keeps.{heeds}
use Rattle.csp_lane.proofs.rule.heed.Goals as goal

pub another-note-requires-clause-rule : goal.another-note-requires-clause-rule
another-note-requires-clause-rule g c = rw c.requires.limit (heeds _ _ _ c.requires.last)
