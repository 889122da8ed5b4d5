use Rattle.csp_consistent.proofs.Planned.{are_planned}
use Rattle.csp_consistent.proofs.laws.applies_plans.Goals as goal

pub returns : goal.returns
returns c = are_planned
