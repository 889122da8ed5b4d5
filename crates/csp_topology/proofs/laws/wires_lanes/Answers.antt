use Rattle.csp_topology.proofs.AllLanes.{all_wired}
use Rattle.csp_topology.proofs.laws.wires_lanes.Goals as goal

pub returns : goal.returns
returns c scene is are = all_wired scene are
