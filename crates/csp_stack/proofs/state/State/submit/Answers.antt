use Rattle.std.proofs.Common.{[], ◌∷◌, arith}
use Rattle.csp_stack.proofs.Keeping.{ported_keeps}
use Rattle.csp_stack.proofs.state.State.submit.Goals as goal

pub returns-clause-keeps : goal.returns-clause-keeps
returns-clause-keeps c ifaces =
    rw (← c.self.view_is) (ported_keeps ifaces 1 _ c.submit.new.self.ports c.submit.new.trash.contents (c.args.packet.picture.number ∷ []) (omega arith) (omega arith) c.submit.ensures.apps c.submit.ensures.keeps)
