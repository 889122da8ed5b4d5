use Rattle.std.proofs.Common.{subst}
use Rattle.csp_ring.proofs.shapes.RuledRing.learn_as.Goals as goal

pub returns-clause-rule : goal.returns-clause-rule
returns-clause-rule g c = let held = c.head_to_count.ensures.1.3.4 in (held.0, subst (λ v. g.M.Lesson.fact v held.0) c.tail.ensures.1.0.0 held.2)
