use Rattle.std.proofs.Common.{length}
use Rattle.csp_stack.proofs.at_port.hear_by_machine.Goals as goal

pub returns-in-Ok-clause-keeps : goal.returns-in-Ok-clause-keeps
returns-in-Ok-clause-keeps c = rw (← c.in-Ok.ensures.number) (c.hand.ensures.keeps (length c.args.facts.now.ifaces))

pub returns-in-Err-clause-keeps : goal.returns-in-Err-clause-keeps
returns-in-Err-clause-keeps c = rw (← c.in-Err.ensures.number) (c.discard.ensures.keeps (length c.args.facts.now.ifaces))
