-- What the network of a scene is made of, before the end of its run.
use Rattle.std.specs.Prelude.{◌≡◌, ◌+◌, ◌*◌, ◌≤◌, ⊤, ℕ, Option, None, Some, List, [], ◌∷◌, length, map, sum_by, vec_len, vec_capacity}
use Rattle.std.specs.List.{AllByRecursion}
use Rattle.csp_lists.specs.PlainDeck.{lane_room}
use Rattle.csp_posts.specs.Seen.{SeenPost}
use Rattle.csp_log.specs.Who.{node_of}
use Rattle.csp_log.specs.declared.who.Who.{Who}
use Rattle.csp_scene.specs.Links.{node_at}
use Rattle.csp_scene.specs.Scene.{PlainNode, PlainScene}
use Rattle.csp_standing.specs.Network.{IsNetworkOf, PlainNetwork}
use Rattle.csp_standing.specs.declared.fabric.Fabric.{Fabric}
use Rattle.csp_standing.specs.declared.fabric.NodeRooms.{NodeRooms}
use Rattle.csp_standing.specs.declared.fabric.NodeStore.{NodeStore}
use Rattle.csp_topology.specs.Lanes.{PlainLane}
use Rattle.csp_topology.specs.Wires.{wires_of}
use Rattle.csp_topology.specs.Wiring.{AreWires}

-- the network: the queues of each node, and the regions of their buffers
abbrev pub network_of : Fabric → PlainNetwork
network_of f = record { nodes = f.queues; regions = map (λ (s : NodeStore). s.store.region) f.stores.items }

-- for how many buffers there is room in all queues of a node: in its pool, in the four queues of its inbox, and in its lanes
abbrev pub room_in : PlainNode → List PlainLane → ℕ
room_in n wires = n.buffers + 4 * n.inbox + sum_by (λ (l : PlainLane). lane_room l.queue) wires

-- the memory of a node of a scene: nothing came back yet, and there is room for all that may
pub record IsStoreOf (n : PlainNode) (wires : List PlainLane) (s : NodeStore) : Type 0 where
  pub count : s.store.count ≡ n.buffers
  pub none : s.store.numbers ≡ []
  pub room : room_in n wires ≤ s.store.room
  pub unnoted : s.numbers.items ≡ []
  pub numbers : n.buffers ≤ vec_capacity s.numbers

-- so is that of each node
abbrev pub AreStoresOf : List PlainNode → List (List PlainLane) → List NodeStore → Type 0
AreStoresOf [] [] [] = ⊤
AreStoresOf (n ∷ nodes) (lanes ∷ wires) (s ∷ stores) = IsStoreOf n lanes s × AreStoresOf nodes wires stores
AreStoresOf _ _ _ = ⊥

-- the room of a node of a scene: for each priority of its inbox, and for each lane
pub record IsRoomOf (n : PlainNode) (wires : List PlainLane) (r : NodeRooms) : Type 0 where
  pub inbox : r.inbox ≡ n.inbox
  pub lanes : r.lanes.items ≡ map (λ (l : PlainLane). lane_room l.queue) wires

-- so is that of each node
abbrev pub AreRoomsOf : List PlainNode → List (List PlainLane) → List NodeRooms → Type 0
AreRoomsOf [] [] [] = ⊤
AreRoomsOf (n ∷ nodes) (lanes ∷ wires) (r ∷ rooms) = IsRoomOf n lanes r × AreRoomsOf nodes wires rooms
AreRoomsOf _ _ _ = ⊥

-- how many queues a record of a scene speaks of: the lanes of each node, and the four queues of its inbox
abbrev pub queues_in : PlainScene → ℕ
queues_in scene = sum_by (λ (lanes : List PlainLane). length lanes + 4) (wires_of scene)

-- how many buffers the node of a party has: a link has none
abbrev pub buffers_at : PlainScene → Option ℕ → ℕ
buffers_at scene None = 0
buffers_at scene (Some node) = (node_at scene.nodes node).buffers

-- a party can note the numbers of all buffers of its node
abbrev pub CanNote : PlainScene → SeenPost → Type 0
CanNote scene s = buffers_at scene (node_of s.plain.who) ≤ s.room

-- a fabric and posts are the network of a scene, before its first turn and after every list of turns and meetings; nothing of its end is noted yet,
-- and there is room for all that will be
pub record IsFabricOf (scene : PlainScene) (f : Fabric) (posts : List SeenPost) : Type 0 where
  pub network : IsNetworkOf scene (network_of f) (map (λ (s : SeenPost). s.plain) posts)
  pub wires : AreWires scene (map (λ ws. ws.items) f.wires.items)
  pub stores : AreStoresOf scene.nodes (wires_of scene) f.stores.items
  pub rooms : AreRoomsOf scene.nodes (wires_of scene) f.rooms.items
  pub unleft : f.notes.left ≡ []
  pub unheld : f.notes.held ≡ []
  pub queues : queues_in scene ≤ f.notes.queues
  pub others : length posts + length scene.nodes ≤ f.notes.others
  pub unlogged : f.logs.items ≡ []
  pub logs : length posts ≤ vec_capacity f.logs
  pub none : f.retired.items ≡ []
  pub retired : length posts ≤ vec_capacity f.retired
  pub numbers : AllByRecursion (CanNote scene) posts
