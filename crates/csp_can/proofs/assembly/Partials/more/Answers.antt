use Rattle.std.proofs.Common.{sym}
use Rattle.csp_can.proofs.assembly.Partials.more.Goals as goal

pub returns-then-extend-clause-event : goal.returns-then-extend-clause-event
returns-then-extend-clause-event c = sym (((c.extend.ensures.when c.args.trace).0 c.if-extend.true).0)
