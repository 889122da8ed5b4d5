use Rattle.csp_ordinary.proofs.Nothing.{apart_alone}
use Rattle.csp_ordinary.proofs.laws.apart_without_hubs.Goals as goal

pub returns : goal.returns
returns c = apart_alone
