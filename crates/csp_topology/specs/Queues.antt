-- The queues of all nodes of a scene, in the order of a record.
use Rattle.std.specs.Prelude.{ℕ, ◌+◌, List, [], ◌∷◌, ◌++◌, length, map}
use Rattle.csp_lists.specs.Order.{places_in}
use Rattle.csp_log.specs.declared.places.Place.{Place}
use Rattle.csp_scene.specs.Scene.{PlainScene}
use Rattle.csp_topology.specs.Plan.{PlainNodePlan}
use Rattle.csp_topology.specs.Topology.{topology_of}

-- places of a node
abbrev pub at_node : ℕ → List Place → List (ℕ × Place)
at_node node ps = map (λ p. (node, p)) ps

-- those of the queues of the nodes with these plans, from this place on: of each as many lanes of a kind as it has interfaces or applications, and the
-- four queues of its inbox
abbrev pub queues_from : ℕ → List PlainNodePlan → List (ℕ × Place)
queues_from node [] = []
queues_from node (n ∷ nodes) = at_node node (places_in (record { ifaces = length n.lanes; apps = n.apps })) ++ queues_from (node + 1) nodes

-- the queues of all nodes of a scene
abbrev pub queues_of : PlainScene → List (ℕ × Place)
queues_of scene = queues_from 0 (topology_of scene).nodes
