use Rattle.csp_topology.proofs.Ends.{ends_apart}
use Rattle.csp_topology.proofs.laws.names_ends_apart.Goals as goal

pub returns : goal.returns
returns c scene is are = ends_apart scene are
