use Rattle.csp_topology.proofs.WireOrder.{wires_ordered}
use Rattle.csp_topology.proofs.WirePlaces.{all_count}
use Rattle.csp_topology.proofs.laws.orders_wires.Goals as goal

pub returns-clause-order : goal.returns-clause-order
returns-clause-order c scene is are = wires_ordered scene are

pub returns-clause-count : goal.returns-clause-count
returns-clause-count c = all_count
