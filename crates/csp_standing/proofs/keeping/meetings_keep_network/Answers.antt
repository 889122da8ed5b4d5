use Rattle.csp_standing.proofs.MetPosts.{network_met}
use Rattle.csp_standing.proofs.keeping.meetings_keep_network.Goals as goal

pub returns : goal.returns
returns c = network_met
