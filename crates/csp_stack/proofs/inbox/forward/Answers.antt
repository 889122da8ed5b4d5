use Rattle.std.proofs.Common.{length, ap, ◌∙◌, Some}
use Rattle.csp_stack.proofs.Sendable.{by_row_sendable}
use Rattle.csp_stack.specs.Router.{State}
use Rattle.csp_stack.proofs.inbox.forward.Goals as goal

pub returns-else-row-packet-clause-keeps : goal.returns-else-row-packet-clause-keeps
returns-else-row-packet-clause-keeps c = rw (← c.into_buffer-else-row-packet.ensures, ← c.by_row.ensures.number) (c.leave.ensures.keeps (length c.args.facts.now.ifaces))

pub returns-then-row-packet-clause-keeps : goal.returns-then-row-packet-clause-keeps
returns-then-row-packet-clause-keeps c = rw (← c.into_buffer.ensures) (c.discard.ensures.keeps (length c.args.facts.now.ifaces))

pub returns-else-row-packet-clause-sendable : goal.returns-else-row-packet-clause-sendable
returns-else-row-packet-clause-sendable c =
    let out = ap (λ (s : State). s.out) c.leave.ensures.told.state ∙ ap Some c.by_row.ensures.packet in
    rw out (by_row_sendable c.args.facts.now c.args.row c.into_buffer-else-row-packet.result.picture c.requires.way c.by_row.ensures.mark)
