use Rattle.std.proofs.Common.{[], arith}
use Rattle.csp_stack.proofs.Keeping.{ported_keeps}
use Rattle.csp_stack.proofs.state.State.close.Goals as goal

pub returns-clause-keeps : goal.returns-clause-keeps
returns-clause-keeps c ifaces =
    rw (← c.self.view_is) (ported_keeps ifaces 0 _ c.close.new.self.ports c.close.new.trash.contents [] (omega arith) (omega arith) c.close.ensures.apps c.close.ensures.keeps)
