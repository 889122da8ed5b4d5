use Rattle.csp_topology.proofs.Ends.{all_stay}
use Rattle.csp_topology.proofs.laws.stays_home.Goals as goal

pub returns : goal.returns
returns c scene is are = all_stay scene are
