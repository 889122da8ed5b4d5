-- A scene's network.
use Rattle.std.specs.Prelude.{List, map}
use Rattle.csp_log.specs.declared.places.End.{End}
use Rattle.csp_scene.specs.Scene.{PlainScene}
use Rattle.csp_topology.specs.Lanes.{PlainLane}
use Rattle.csp_topology.specs.Opening.{opening_of}
use Rattle.csp_topology.specs.Parties.{PlainOpening, parties_of}
use Rattle.csp_topology.specs.Plan.{PlainNodePlan, plans_from}
use Rattle.csp_topology.specs.Wires.{wires_of}
use Rattle.csp_topology.specs.Wiring.{lanes_seen}
use Rattle.csp_topology.specs.Writers.{writers_from}
use Rattle.csp_topology.specs.declared.topology.Topology.{Topology}
use Rattle.csp_topology.specs.declared.writers.Writer.{Writer}

-- of each node its pool and how many queues it has and what they carry, its lanes, and who puts into its inbox under which marks; the ends of each
-- link; and the parties in their order: those of each node, then the links
pub record PlainTopology : Type 0 where
  pub nodes : List PlainNodePlan
  pub lanes : List (List PlainLane)
  pub writers : List (List Writer)
  pub links : List (List End)
  pub parties : List PlainOpening

-- that of a scene
abbrev pub topology_of : PlainScene → PlainTopology
topology_of scene = record {
  nodes = plans_from 0 scene.nodes scene.links;
  lanes = wires_of scene;
  writers = writers_from 0 scene.nodes scene.links;
  links = map (λ l. l.ends) scene.links;
  parties = parties_of scene;
}

-- what the program's topology is seen as
abbrev pub seen_topology : Topology → PlainTopology
seen_topology t = record {
  nodes = t.nodes.items;
  lanes = lanes_seen 0 (map (λ ws. ws.items) t.lanes.items);
  writers = map (λ ws. ws.items) t.writers.items;
  links = map (λ ends. ends.items) t.links.items;
  parties = map opening_of t.parties.items;
}
