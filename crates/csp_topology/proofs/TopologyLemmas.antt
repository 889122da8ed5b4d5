-- What a topology is seen as.
use Rattle.std.proofs.Common.{◌≡◌, ◌++◌, List, map, refl}
use Rattle.csp_log.specs.declared.places.End.{End}
use Rattle.csp_scene.specs.Scene.{PlainScene}
use Rattle.csp_topology.specs.Parties.{PlainOpening, links_from, parties_from, parties_of}
use Rattle.csp_topology.specs.Lanes.{PlainLane}
use Rattle.csp_topology.specs.Plan.{PlainNodePlan, plans_from}
use Rattle.csp_topology.specs.Topology.{PlainTopology, topology_of}
use Rattle.csp_topology.specs.Wires.{wires_of}
use Rattle.csp_topology.specs.Writers.{writers_from}
use Rattle.csp_topology.specs.declared.writers.Writer.{Writer}

-- with these parts
abbrev pub of_parts : List PlainNodePlan → List (List PlainLane) → List (List Writer) → List (List End) → List PlainOpening → PlainTopology
of_parts nodes lanes writers links parties = record { nodes = nodes; lanes = lanes; writers = writers; links = links; parties = parties }

-- where its parts are those of a scene it is the scene's
pub topology_is : (nodes : List PlainNodePlan) (lanes : List (List PlainLane)) (writers : List (List Writer)) (links : List (List End)) (parties : List PlainOpening) (scene : PlainScene)
    → nodes ≡ plans_from 0 scene.nodes scene.links → lanes ≡ wires_of scene → writers ≡ writers_from 0 scene.nodes scene.links → links ≡ map (λ l. l.ends) scene.links
    → parties ≡ parties_from 0 scene.nodes scene.links ++ links_from 0 scene.links → of_parts nodes lanes writers links parties ≡ topology_of scene
unfolding parties_of
topology_is nodes lanes writers links parties scene same_nodes same_lanes same_writers same_links same_parties = rw (same_nodes, same_lanes, same_writers, same_links, same_parties) refl
