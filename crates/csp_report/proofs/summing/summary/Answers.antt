use Rattle.std.proofs.Common.{sym, subst, arith}
use Rattle.csp_report.specs.PlacesAddUp.{PlacesAddUp}
use Rattle.csp_report.proofs.SummaryLemmas.{summary_is, summary_adds_up}
use Rattle.csp_report.proofs.summing.summary.Goals as goal

pub returns-clause-bytes : goal.returns-clause-bytes
returns-clause-bytes c = grind (arith, summary_is)

pub returns-clause-places : goal.returns-clause-places
returns-clause-places c adds = subst PlacesAddUp (sym (returns-clause-bytes c)) (summary_adds_up c.args.packets c.args.report.now adds)
