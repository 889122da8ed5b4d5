-- What the opening of a network takes memory for, and how it is put together.
use Rattle.std.specs.Prelude.{◌≡◌, ◌+◌, ◌<◌, ◌≤◌, ℕ, List, [], length, map, vec_len, vec_capacity}
use Rattle.std.specs.Global.{Vec}
use Rattle.std.specs.List.{AllByRecursion, sum_by}
use Rattle.csp_ends.specs.Ends.{PlainNodeQueues, PlainSide}
use Rattle.csp_opening.specs.Handed.{HaveRoom, IsAmong, ends_among, handed_from, list_at, room_at}
use Rattle.csp_opening.specs.Opened.{ends_in, lead_in, queues_in}
use Rattle.csp_opening.specs.Parted.{AreLeadsOf, CanPartAll, IsOpening, part_homes, parts_left}
use Rattle.csp_opening.specs.Posted.{CanPostFrom, posts_from}
use Rattle.csp_opening.specs.declared.hands.Hands.{Hands}
use Rattle.csp_opening.specs.declared.homes.Lead.{Lead}
use Rattle.csp_opening.specs.declared.lanes.Pair.{Pair}
use Rattle.csp_opening.specs.declared.lists.Blanks.{Blanks}
use Rattle.csp_opening.specs.declared.lists.Lists.{Lists}
use Rattle.csp_opening.specs.declared.nodes.Node.{Node}
use Rattle.csp_opening.specs.declared.parting.Parts.{Parts}
use Rattle.csp_opening.specs.declared.unposted.Unposted.{Unposted}
use Rattle.csp_posts.specs.Seen.{SeenPost}
use Rattle.csp_log.specs.declared.who.Who.{Who}
use Rattle.csp_standing.specs.declared.fabric.NodeRooms.{NodeRooms}
use Rattle.csp_standing.specs.declared.fabric.NodeStore.{NodeStore}
use Rattle.csp_topology.specs.declared.wire.Wire.{Wire}

-- its memory
abbrev pub store_in : Node → NodeStore
store_in x = record { store = x.base.store; numbers = x.numbers; first = 0; last = 0 }

-- its rooms for the end
abbrev pub rooms_in : Node → NodeRooms
rooms_in x = record { inbox = x.mail.room; lanes = x.lanes.rooms }

-- how many queues a record speaks of where nodes have these wires
abbrev pub queue_count : List (Vec Wire) → ℕ
queue_count wires = sum_by (λ (ws : Vec Wire). length ws.items + 4) wires

-- the lists of what may be let go are empty, and have just the room for so many parties and nodes
pub record AreBlanks (parties nodes : ℕ) (wires : List (Vec Wire)) (b : Blanks) : Type 0 where
  pub count : length b.sides.items ≡ parties
  pub sides_room : vec_capacity b.sides ≡ parties
  pub sides : (p : ℕ) → list_at b.sides.items p ≡ []
  pub side_rooms : (p : ℕ) → p < parties → sum_by (λ (ws : Vec Wire). ends_among p ws.items) wires ≤ room_at b.sides.items p
  pub homes : b.homes.items ≡ []
  pub homes_room : vec_capacity b.homes ≡ parties
  pub leads : b.leads.items ≡ []
  pub leads_room : vec_capacity b.leads ≡ nodes
  pub ends : b.ends.items ≡ []
  pub ends_room : vec_capacity b.ends ≡ nodes
  pub notes : b.notes ≡ record { left = []; held = []; queues = queue_count wires; others = parties + nodes }
  pub logs : b.logs.items ≡ []
  pub logs_room : vec_capacity b.logs ≡ parties

-- so are the lists of what must be spent
pub record AreLists (parties nodes : ℕ) (l : Lists) : Type 0 where
  pub posts : l.posts.items ≡ []
  pub posts_room : vec_capacity l.posts ≡ parties
  pub retired : l.retired.items ≡ []
  pub retired_room : vec_capacity l.retired ≡ parties
  pub queues : l.queues.items ≡ []
  pub queues_room : vec_capacity l.queues ≡ nodes
  pub stores : l.stores.items ≡ []
  pub stores_room : vec_capacity l.stores ≡ nodes
  pub rooms : l.rooms.items ≡ []
  pub rooms_room : vec_capacity l.rooms ≡ nodes

-- there is room for so many more nodes
pub record HavePartRoom (more : ℕ) (p : Parts) : Type 0 where
  pub queues : vec_len p.queues + more ≤ vec_capacity p.queues
  pub stores : vec_len p.stores + more ≤ vec_capacity p.stores
  pub rooms : vec_len p.rooms + more ≤ vec_capacity p.rooms
  pub leads : vec_len p.leads + more ≤ vec_capacity p.leads
  pub ends : vec_len p.ends + more ≤ vec_capacity p.ends

-- who these parties are
abbrev pub whos : List Unposted → List Who
whos unposted = map (λ (s : Unposted). s.who) unposted

-- parties as posts, where these are the ends of the lanes of nodes, and the passes that opened their pools and inboxes
abbrev pub posts_among : List (List Pair) → List Lead → List Unposted → List SeenPost
posts_among ends leads unposted = posts_from 0 ends (parts_left leads (whos unposted)) unposted (part_homes leads (whos unposted))

-- the parties of these nodes as posts
abbrev pub posts_of : List Node → List Unposted → List SeenPost
posts_of nodes unposted = posts_among (map ends_in nodes) (map lead_in nodes) unposted

-- these ends and passes can be handed out: each party may have what it is handed, and there is room for it
pub record CanShare (sides : List (Vec PlainSide)) (ends : List (List Pair)) (nodes : List PlainNodeQueues) (leads : List Lead) (unposted : List Unposted) : Type 0 where
  pub count : length sides ≡ length unposted
  pub blank : (p : ℕ) → list_at sides p ≡ []
  pub low : length ends < 256
  pub few : AllByRecursion (λ (pairs : List Pair). length pairs < 256) ends
  pub among : AllByRecursion (λ (pairs : List Pair). AllByRecursion (IsAmong (length sides)) pairs) ends
  pub room : HaveRoom sides (λ p. length (handed_from p 0 ends))
  pub lead : AreLeadsOf nodes leads
  pub part : CanPartAll leads (whos unposted)
  pub opening : AllByRecursion IsOpening (parts_left leads (whos unposted))
  pub post : CanPostFrom 0 ends (parts_left leads (whos unposted)) unposted (part_homes leads (whos unposted))

-- so can those in these hands, with no home in the list of homes yet
pub record CanHandOut (h : Hands) (nodes : List PlainNodeQueues) (unposted : List Unposted) : Type 0 where
  pub share : CanShare h.sides.items (map (λ (pairs : Vec Pair). pairs.items) h.ends.items) nodes h.leads.items unposted
  pub homes : h.homes.items ≡ []
  pub homes_room : length unposted ≤ vec_capacity h.homes

-- so can those of these nodes
abbrev pub CanAssemble : List (Vec PlainSide) → List Node → List Unposted → Type 0
CanAssemble sides nodes unposted = CanShare sides (map ends_in nodes) (map queues_in nodes) (map lead_in nodes) unposted
