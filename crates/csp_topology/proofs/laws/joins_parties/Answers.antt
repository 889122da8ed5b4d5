use Rattle.csp_topology.proofs.Ends.{all_join}
use Rattle.csp_topology.proofs.laws.joins_parties.Goals as goal

pub returns : goal.returns
returns c scene is are = all_join scene are
