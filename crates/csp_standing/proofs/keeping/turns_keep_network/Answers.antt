use Rattle.csp_standing.proofs.Turned.{network_turned}
use Rattle.csp_standing.proofs.keeping.turns_keep_network.Goals as goal

pub returns : goal.returns
returns c = network_turned
