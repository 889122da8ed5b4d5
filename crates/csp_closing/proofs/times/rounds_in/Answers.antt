use Rattle.csp_closing.proofs.Timing.{rounds_by_last}
use Rattle.std.proofs.Common.{arith}
use Rattle.csp_closing.proofs.times.rounds_in.Goals as goal

pub returns-else-count-eq0 : goal.returns-else-count-eq0
returns-else-count-eq0 c = rounds_by_last c.args.log.now.entries _ c.entry.result c.entry.ensures (omega (arith, c.len-count.ensures.value, c.if-count-eq0.false)) c.requires
