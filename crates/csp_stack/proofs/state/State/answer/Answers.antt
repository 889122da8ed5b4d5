use Rattle.std.proofs.Common.{[], arith}
use Rattle.csp_stack.proofs.Keeping.{ported_keeps}
use Rattle.csp_stack.proofs.state.State.answer.Goals as goal

pub returns-clause-keeps : goal.returns-clause-keeps
returns-clause-keeps c ifaces =
    rw (← c.self.view_is) (ported_keeps ifaces 1 _ c.answer.new.self.ports c.answer.new.trash.contents [] (omega arith) (omega arith) c.answer.ensures.apps c.answer.ensures.keeps)
