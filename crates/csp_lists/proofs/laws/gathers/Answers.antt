use Rattle.csp_lists.proofs.Counting.{gathered_all}
use Rattle.csp_lists.proofs.laws.gathers.Goals as goal

pub returns : goal.returns
returns c = gathered_all
