use Rattle.csp_lists.proofs.Conserving.{conserved}
use Rattle.csp_lists.proofs.laws.conserves.Goals as goal

pub returns : goal.returns
returns c = conserved
