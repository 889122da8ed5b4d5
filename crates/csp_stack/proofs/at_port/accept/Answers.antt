use Rattle.std.proofs.Common.{[], ◌∷◌, length}
use Rattle.csp_stack.proofs.Keeping.{after_ports}
use Rattle.csp_stack.proofs.at_port.accept.Goals as goal

pub returns-in-Some-clause-keeps : goal.returns-in-Some-clause-keeps
returns-in-Some-clause-keeps c =
    rw (← c.state.view_is) (after_ports (length c.args.facts.now.ifaces) _ c.leave_to_slot.new.state.state c.accept.new.self.ports (c.args.packet.buffer.picture.number ∷ []) c.accept.ensures.apps c.accept.ensures.keeps (c.leave_to_slot.ensures.keeps (length c.args.facts.now.ifaces)))

pub returns-in-None-clause-keeps : goal.returns-in-None-clause-keeps
returns-in-None-clause-keeps c = rw (← c.state.view_is, ← c.into_buffer.ensures) (after_ports (length c.args.facts.now.ifaces) _ c.discard.new.self.state c.accept.new.self.ports (c.into_buffer.result.picture.number ∷ []) c.accept.ensures.apps c.accept.ensures.keeps (c.discard.ensures.keeps (length c.args.facts.now.ifaces)))
