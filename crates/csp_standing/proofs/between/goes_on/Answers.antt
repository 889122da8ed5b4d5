use Rattle.csp_standing.proofs.Onward.{on_and_on}
use Rattle.csp_standing.proofs.between.goes_on.Goals as goal

pub returns : goal.returns
returns c = on_and_on
