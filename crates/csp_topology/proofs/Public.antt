-- What other crates may cite of the proofs of this one.

-- what holds of all lanes of a scene holds of those of each application, interface and end of a link, and what holds of each of these holds of all
pub use Rattle.csp_topology.proofs.AllLanes.{AreHome, OfApp, OfEnd, OfIface, all_lanes, home_placed, home_ranged, of_app, of_end, of_iface}
-- how many links a node is on, how many nodes have a plan, and how many ends of links are there
pub use Rattle.csp_topology.proofs.PlanLemmas.{links_few, plans_count}
pub use Rattle.csp_topology.proofs.WireSteps.{joints_few}
-- the mark of a node's router or bridge
pub use Rattle.csp_topology.proofs.WriterLemmas.{hub_mark}
