use Rattle.std.proofs.Common.{[], ◌∷◌, arith}
use Rattle.csp_stack.proofs.Keeping.{ported_seen}
use Rattle.csp_stack.proofs.turn.keep_delivery.Goals as goal

pub returns-in-Some-Packet-clause-keeps : goal.returns-in-Some-Packet-clause-keeps
returns-in-Some-Packet-clause-keeps c ifaces =
    rw (c.in-Some-Packet.ensures.numbers, c.in-Some-Packet.field-0-is)
    (ported_seen c.args.state.now _ ifaces 0 c.keep_packet.new.self.ports (c.in-Some-Packet.buffer.picture.number ∷ []) c.state.view_is (omega arith) (omega arith) c.keep_packet.ensures.apps c.keep_packet.ensures.keeps)
