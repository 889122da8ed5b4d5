use Rattle.std.proofs.Common.{arith}
use Rattle.csp_stack.proofs.Keeping.{absorbing_keeps}
use Rattle.csp_stack.proofs.state.State.invite.Goals as goal

pub returns-in-Some-clause-keeps : goal.returns-in-Some-clause-keeps
returns-in-Some-clause-keeps c ifaces =
    rw (← c.self.view_is, c.add.ensures) (absorbing_keeps ifaces 1 _ c.invite.new.self.ports c.invite.new.trash.contents c.args.packet.picture (omega arith) c.invite.ensures.apps c.invite.ensures.keeps)
