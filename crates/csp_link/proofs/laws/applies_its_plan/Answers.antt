use Rattle.csp_link.proofs.Applying.{applies}
use Rattle.csp_link.proofs.laws.applies_its_plan.Goals as goal

pub returns : goal.returns
returns c = applies
