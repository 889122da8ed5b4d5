use Rattle.std.proofs.Common.{arith}
use Rattle.std.proofs.lemmas.Grind.{common_steps}
use Rattle.csp_base.proofs.sequence.between.Goals as goal

pub returns-clause-indices : goal.returns-clause-indices
returns-clause-indices c = λ d e h k p q.
    let to_s = c.ahead.ensures.indices d h p in
    let to_hi = c.ahead-2.ensures.indices e k q in
    grind (arith, common_steps)
