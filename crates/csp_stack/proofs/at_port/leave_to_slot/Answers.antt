use Rattle.csp_stack.proofs.at_port.leave_to_slot.Goals as goal

pub returns-clause-keeps : goal.returns-clause-keeps
returns-clause-keeps c ifaces = rw (← c.into_buffer.ensures, ← c.to_slot.ensures.number) (c.leave.ensures.keeps ifaces)
