use Rattle.csp_lists.proofs.Weighing.{weighs_same, long_same}
use Rattle.csp_lists.proofs.laws.weighs.Goals as goal

pub returns : goal.returns
returns c = record { weight = weighs_same; len = long_same }
