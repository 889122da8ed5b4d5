use Rattle.std.proofs.Common.{length, sym, ap, ◌∙◌}
use Rattle.csp_stack.specs.Readings.{is_here}
use Rattle.csp_stack.specs.Router.{Facts}
use Rattle.csp_stack.proofs.inbox.judge_destination.Goals as goal

pub returns-in_default-clause-told : goal.returns-in_default-clause-told
returns-in_default-clause-told c next =
    let away = ap (λ (f : Facts). is_here f.addr c.args.packet.header) (sym c.facts.view_is) ∙ sym c.is_packet_here.ensures ∙ c.if-is_packet_here.false in
    let none = rw c.destination.ensures at (sym c.route.ensures.row ∙ c.in_default.is) in
    rw (away, none, ← c.into_buffer.ensures) c.discard.ensures.told

pub returns-clause-told : goal.returns-clause-told
returns-clause-told c next =
    let away = ap (λ (f : Facts). is_here f.addr c.args.packet.header) (sym c.facts.view_is) ∙ sym c.is_packet_here.ensures ∙ c.if-is_packet_here.false in
    let row = rw c.destination.ensures at (sym c.route.ensures.row ∙ c.in-Some.is) in
    rw (away, row) c.forward.ensures.told

pub returns-in_default-clause-keeps : goal.returns-in_default-clause-keeps
returns-in_default-clause-keeps c = rw (← c.into_buffer.ensures) (c.discard.ensures.keeps (length c.args.facts.now.ifaces))

pub returns-clause-keeps : goal.returns-clause-keeps
returns-clause-keeps c = c.forward.ensures.keeps
