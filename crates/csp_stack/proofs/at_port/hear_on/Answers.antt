use Rattle.std.proofs.Common.{rules, length, ◌∙◌, sym}
use Rattle.csp_stack.proofs.at_port.hear_on.Goals as goal

pub returns-then-is_packet_reliable-clause-told : goal.returns-then-is_packet_reliable-clause-told
returns-then-is_packet_reliable-clause-told c = rw (sym c.is_packet_reliable.ensures ∙ c.if-is_packet_reliable.true) c.hear_by_machine.ensures.told

pub returns-then-is_packet_reliable-clause-sendable : goal.returns-then-is_packet_reliable-clause-sendable
returns-then-is_packet_reliable-clause-sendable c = rw c.hear_by_machine.ensures.out tt

pub returns-then-is_packet_reliable-clause-keeps : goal.returns-then-is_packet_reliable-clause-keeps
returns-then-is_packet_reliable-clause-keeps c = c.hear_by_machine.ensures.keeps

pub returns-else-is_packet_reliable-clause-told : goal.returns-else-is_packet_reliable-clause-told
returns-else-is_packet_reliable-clause-told c =
    let told = c.leave_to_slot.ensures.told in
    rw (sym c.is_packet_reliable.ensures ∙ c.if-is_packet_reliable.false) (record { state = told.state; region = told.region; events = search rules })

pub returns-else-is_packet_reliable-clause-sendable : goal.returns-else-is_packet_reliable-clause-sendable
returns-else-is_packet_reliable-clause-sendable c = c.leave_to_slot.ensures.sendable

pub returns-else-is_packet_reliable-clause-keeps : goal.returns-else-is_packet_reliable-clause-keeps
returns-else-is_packet_reliable-clause-keeps c = c.leave_to_slot.ensures.keeps (length c.args.facts.now.ifaces)
