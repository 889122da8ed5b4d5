use Rattle.std.proofs.Common.{arith}
use Rattle.std.proofs.lemmas.Grind.{common_steps}
use Rattle.csp_base.proofs.MemoryLemmas.{copied_behind}
use Rattle.csp_base.proofs.memory.copy_at.Goals as goal

pub returns-clause-copied : goal.returns-clause-copied
returns-clause-copied c =
    copied_behind _ c.copy_front.new.to _ _ c.args.at c.copy_front.result
    (grind (arith, common_steps))
    (grind (arith, common_steps, c.copy_front.ensures.count, c.copy_front.auto.to))
    c.copy_front.ensures.copied
