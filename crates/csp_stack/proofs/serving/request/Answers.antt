use Rattle.std.proofs.Common.{length}
use Rattle.csp_stack.proofs.serving.request.Goals as goal

pub returns-in-Connect-clause-keeps : goal.returns-in-Connect-clause-keeps
returns-in-Connect-clause-keeps c = c.connect.ensures.keeps (length c.args.facts.now.ifaces)

pub returns-in-Close-clause-keeps : goal.returns-in-Close-clause-keeps
returns-in-Close-clause-keeps c = c.close.ensures.keeps (length c.args.facts.now.ifaces)
