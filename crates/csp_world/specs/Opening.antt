-- The world of a scene before its first turn.
use Rattle.std.specs.Prelude.{◌≡◌, ℕ, Some, List, [], map, All}
use Rattle.std.specs.Option.{option_and_then}
use Rattle.csp_link.specs.Fates.{IsFault}
use Rattle.csp_lists.specs.Order.{queue_count}
use Rattle.csp_lists.specs.PlainDeck.{PlainDeck, opening_deck, shape_of}
use Rattle.csp_log.specs.declared.places.QueueId.{QueueId}
use Rattle.csp_log.specs.declared.places.Rule.{Rule}
use Rattle.csp_nodes.specs.Fresh.{fresh_buffers}
use Rattle.csp_nodes.specs.Serving.{at_end, of_frames, rule_there}
use Rattle.csp_party.specs.Any.{uses}
use Rattle.csp_scene.specs.Scene.{PlainScene, PlainNode, PlainLink}
use Rattle.csp_topology.specs.Parties.{PlainOpening, link_party}
use Rattle.csp_topology.specs.Plan.{PlainNodePlan, plan_of}
use Rattle.csp_topology.specs.Topology.{PlainTopology, topology_of}
use Rattle.csp_world.specs.World.{PlainMember, PlainWorld}

-- the lists of a node: all its buffers are in the pool, and its queues are empty
abbrev pub deck_of : PlainNodePlan → PlainDeck
deck_of n = opening_deck (fresh_buffers n.buffers) n.inbox n.apps n.lanes

-- how many queues a node has: those of lists for so many applications and interfaces
abbrev pub queues_of : PlainNodePlan → ℕ
queues_of n = queue_count (shape_of n.apps n.lanes)

-- the lists of a node on these links
abbrev pub opened_deck : PlainNode → List PlainLink → PlainDeck
opened_deck n links = deck_of (plan_of n links)

-- a party before its first turn
abbrev pub new_member : PlainOpening → PlainMember
new_member o = record { who = o.who; party = o.party; entries = [] }

-- a link or a hub can be opened over these lists: its plan is one of faults, and the nodes at its ends have the lanes that it uses
pub record CanJoin (decks : List PlainDeck) (l : PlainLink) : Type 0 where
  pub plan : All IsFault l.plan
  pub lanes : (q : QueueId) (r : Rule) → uses (link_party l) q ≡ Some r → option_and_then of_frames (rule_there decks (at_end l.ends q)) ≡ Some r

-- the world of a network in which nothing has happened
abbrev pub opened_world : PlainTopology → PlainWorld
opened_world t = record {
  decks = map deck_of t.nodes;
  links = t.links;
  members = map new_member t.parties;
  time = 0;
}

-- the world of a scene in which nothing has happened
unfoldable pub opening : PlainScene → PlainWorld
opening scene = opened_world (topology_of scene)
