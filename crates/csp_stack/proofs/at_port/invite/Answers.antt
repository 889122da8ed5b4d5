use Rattle.std.proofs.Common.{length}
use Rattle.csp_stack.proofs.Keeping.{stayed}
use Rattle.csp_stack.proofs.at_port.invite.Goals as goal

pub returns-in-Err-clause-keeps : goal.returns-in-Err-clause-keeps
returns-in-Err-clause-keeps c = rw (← c.into_buffer.ensures) (c.discard.ensures.keeps (length c.args.facts.now.ifaces))

pub returns-in-Err-invite-clause-keeps : goal.returns-in-Err-invite-clause-keeps
returns-in-Err-invite-clause-keeps c =
    let n = length c.args.facts.now.ifaces in
    rw (← c.into_buffer-buffer.ensures, ← c.in-Err-invite.ensures.back.0) (stayed c.args.state.now c.invite.new.self c.discard-in-Err-invite.new.self.state n _ c.in-Err-invite.ensures.back.1 (c.discard-in-Err-invite.ensures.keeps n))

pub returns-in_default-clause-keeps : goal.returns-in_default-clause-keeps
returns-in_default-clause-keeps c = rw (← c.into_buffer-buffer.ensures) (c.in_default.ensures.keeps (length c.args.facts.now.ifaces))
