use Rattle.std.proofs.Common.{subst, sym, arith}
use Rattle.csp_report.specs.PlacesAddUp.{PlacesAddUp}
use Rattle.csp_report.proofs.ReportLemmas.{report_is, report_adds_up}
use Rattle.csp_report.proofs.text.report.Goals as goal

pub returns-clause-bytes : goal.returns-clause-bytes
returns-clause-bytes c = grind (arith, report_is)

pub returns-clause-places : goal.returns-clause-places
returns-clause-places c whole =
    subst PlacesAddUp (sym (returns-clause-bytes c)) (report_adds_up c.args.scene.now c.args.run.now c.requires whole)
