use Rattle.std.proofs.Common.{length, ◌∙◌, sym}
use Rattle.csp_stack.proofs.at_port.hear_elsewhere.Goals as goal

pub returns-then-is_packet_reliable-clause-told : goal.returns-then-is_packet_reliable-clause-told
returns-then-is_packet_reliable-clause-told c = rw (sym c.is_packet_reliable.ensures ∙ c.if-is_packet_reliable.true, ← c.into_buffer.ensures) c.discard.ensures.told

pub returns-then-is_packet_reliable-clause-keeps : goal.returns-then-is_packet_reliable-clause-keeps
returns-then-is_packet_reliable-clause-keeps c = rw (← c.into_buffer.ensures) (c.discard.ensures.keeps (length c.args.facts.now.ifaces))

pub returns-else-is_packet_reliable-clause-told : goal.returns-else-is_packet_reliable-clause-told
returns-else-is_packet_reliable-clause-told c = rw (sym c.is_packet_reliable.ensures ∙ c.if-is_packet_reliable.false) c.judge_service.ensures.told

pub returns-else-is_packet_reliable-clause-sendable : goal.returns-else-is_packet_reliable-clause-sendable
returns-else-is_packet_reliable-clause-sendable c = c.judge_service.ensures.sendable

pub returns-else-is_packet_reliable-clause-keeps : goal.returns-else-is_packet_reliable-clause-keeps
returns-else-is_packet_reliable-clause-keeps c = c.judge_service.ensures.keeps
