use Rattle.csp_sfp.proofs.Joining.{joined}
use Rattle.csp_sfp.proofs.laws.joins_data.Goals as goal

pub returns : goal.returns
returns c = joined
