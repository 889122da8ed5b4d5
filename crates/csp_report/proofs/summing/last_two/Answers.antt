use Rattle.csp_report.proofs.SummaryLemmas.{last_is}
use Rattle.csp_report.proofs.summing.last_two.Goals as goal

pub returns : goal.returns
returns c = last_is (λ line. line.now) c.args.lines.now c.saturating_sub.result c.saturating_sub.ensures
