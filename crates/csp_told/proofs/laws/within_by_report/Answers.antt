use Rattle.csp_told.proofs.Told.{told_within}
use Rattle.csp_told.proofs.laws.within_by_report.Goals as goal

pub returns : goal.returns
returns c = told_within
