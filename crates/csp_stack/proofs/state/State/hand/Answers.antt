use Rattle.std.proofs.Common.{[], ◌∷◌, arith}
use Rattle.csp_stack.proofs.Keeping.{ported_keeps}
use Rattle.csp_stack.proofs.state.State.hand.Goals as goal

pub returns-clause-keeps : goal.returns-clause-keeps
returns-clause-keeps c ifaces =
    rw (← c.self.view_is) (ported_keeps ifaces 1 _ c.hand.new.self.ports c.hand.new.trash.contents (c.args.packet.picture.number ∷ []) (omega arith) (omega arith) c.hand.ensures.apps c.hand.ensures.keeps)
