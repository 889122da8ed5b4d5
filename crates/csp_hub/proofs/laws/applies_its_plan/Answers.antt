use Rattle.csp_hub.proofs.Applying.{applies}
use Rattle.csp_hub.proofs.laws.applies_its_plan.Goals as goal

pub returns : goal.returns
returns c = applies
