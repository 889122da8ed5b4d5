use Rattle.csp_consistent.proofs.Planned.{are_spread}
use Rattle.csp_consistent.proofs.laws.spreads_by_plans.Goals as goal

pub returns : goal.returns
returns c = are_spread
