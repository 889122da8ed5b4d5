use Rattle.csp_ordinary.proofs.Nothing.{as_sent}
use Rattle.csp_ordinary.proofs.laws.arrives_as_sent.Goals as goal

pub returns : goal.returns
returns c = as_sent
