use Rattle.std.proofs.Common.{length}
use Rattle.csp_stack.proofs.serving.serve_connection.Goals as goal

pub returns-then-are_flags_reliable-clause-keeps : goal.returns-then-are_flags_reliable-clause-keeps
returns-then-are_flags_reliable-clause-keeps c = c.submit.ensures.keeps (length c.args.facts.now.ifaces)
