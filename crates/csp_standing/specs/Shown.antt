-- What ties the posts of a threaded run to its scene and to its record.
use Rattle.std.specs.Prelude.{◌≡◌, ◌≤◌, ℕ, true, Option, None, Some, List, length, slice_get}
use Rattle.std.specs.List.{AllByRecursion, AllZip}
use Rattle.std.specs.Option.{option_map}
use Rattle.csp_base.specs.declared.priority.Prio.{Prio}
use Rattle.csp_ends.specs.Ends.{PlainSide, PlainHome, PlainNodeQueues}
use Rattle.csp_ends.specs.Moves.{room_among}
use Rattle.csp_inbox.specs.Passes as inbox
use Rattle.csp_lists.specs.PlainDeck.{lane_room}
use Rattle.csp_log.specs.declared.places.TheConstants.{UNMARKED}
use Rattle.csp_posts.specs.Between.{AreJoined, all_put, all_taken, over_home}
use Rattle.csp_posts.specs.Posts.{PlainPost}
use Rattle.csp_record.specs.Record.{PlainPartyLog}
use Rattle.csp_log.specs.Who.{node_of}
use Rattle.csp_log.specs.declared.who.Who.{Who}
use Rattle.csp_log.specs.declared.who.Who.TheVariants as who
use Rattle.csp_scene.specs.Scene.{PlainNode, PlainScene}
use Rattle.csp_topology.specs.Lanes.{PlainLane, leader_of}
use Rattle.csp_topology.specs.Wires.{lanes_of}

-- two of the posts have the ends of a lane: its producer the one that puts, its consumer the one that gets, by the names that they call it
pub record IsWiredAt (posts : List PlainPost) (l : PlainLane) : Type 0 where
  pub i : ℕ
  pub j : ℕ
  pub s : PlainPost
  pub t : PlainPost
  pub x : PlainSide
  pub y : PlainSide
  pub joined : AreJoined posts i j s x t y
  pub from : s.who ≡ l.from.who
  pub to : t.who ≡ l.to.who
  pub called_from : x.queue ≡ l.from.queue
  pub called_to : y.queue ≡ l.to.queue
  pub room : x.end.room ≡ lane_room l.queue

-- a party has a pass of the inbox of the node at this place, with this mark and this room
pub record HasPassAt (s : PlainPost) (place mark room : ℕ) : Type 0 where
  pub home : PlainHome
  pub there : s.ends.home ≡ Some home
  pub node : home.node ≡ place
  pub pass : inbox.PlainPass
  pub inbox : home.inbox ≡ Some pass
  pub marked : pass.role.mark ≡ mark
  pub roomy : pass.role.room ≡ room

-- one of the posts is this party, which reads the inbox of the node at this place
pub record IsReadAt (posts : List PlainPost) (w : Who) (place room : ℕ) : Type 0 where
  pub at : ℕ
  pub post : PlainPost
  pub there : slice_get posts at ≡ Some post
  pub who : post.who ≡ w
  pub has : HasPassAt post place UNMARKED room
  pub reads : has.pass.role.reads ≡ true

-- the posts over these queues have the ends and passes of a scene: of each lane both ends, of each inbox a reading pass for the router or bridge and
-- one with its mark for each interface; and each is at the node of its party
pub record AreOfScene (scene : PlainScene) (nodes : List PlainNodeQueues) (posts : List PlainPost) : Type 0 where
  pub lanes : AllByRecursion (IsWiredAt posts) (lanes_of scene)
  pub hubs : (node : ℕ) (n : PlainNode) → slice_get scene.nodes node ≡ Some n → IsReadAt posts (leader_of node n.addr) node n.inbox
  pub ifaces : (node : ℕ) (n : PlainNode) → slice_get scene.nodes node ≡ Some n → (i k : ℕ) (s : PlainPost) → slice_get posts i ≡ Some s → s.who ≡ who.Iface node k → HasPassAt s node k n.inbox
  pub rooms : (node : ℕ) (n : PlainNode) → slice_get scene.nodes node ≡ Some n → room_among (slice_get nodes node) ≡ n.buffers
  pub homes : AllByRecursion (λ s. option_map (λ h. h.node) s.ends.home ≡ node_of s.who) posts

-- how many packets of a priority a pass put into an inbox
abbrev pub kept_in : Prio → Option inbox.PlainPass → ℕ
kept_in p None = 0
kept_in p (Some x) = length (inbox.mail_at x p).kept

-- how many a party put there
abbrev pub kept_by : Prio → Option PlainHome → ℕ
kept_by p None = 0
kept_by p (Some h) = kept_in p h.inbox

-- how many all parties of a node put there
abbrev pub all_kept : ℕ → Prio → List PlainPost → ℕ
all_kept node p posts = over_home node (λ s. kept_by p s.ends.home) posts

-- what all takes and puts of a pool, and all puts of each priority of an inbox, must come to for a party, they have come to: so a close finds
pub record AreReached (posts : List PlainPost) : Type 0 where
  pub takes : (i : ℕ) (s : PlainPost) (h : PlainHome) → slice_get posts i ≡ Some s → s.ends.home ≡ Some h → h.pool.hand.takes.floor ≤ all_taken h.node posts
  pub puts : (i : ℕ) (s : PlainPost) (h : PlainHome) → slice_get posts i ≡ Some s → s.ends.home ≡ Some h → h.pool.hand.puts.floor ≤ all_put h.node posts
  pub inboxes : (i : ℕ) (s : PlainPost) (h : PlainHome) (x : inbox.PlainPass) (p : Prio) → slice_get posts i ≡ Some s → s.ends.home ≡ Some h → h.inbox ≡ Some x → (inbox.mail_at x p).puts_floor ≤ all_kept h.node p posts

-- the log is that of a post
pub record IsLoggedBy (s : PlainPost) (log : PlainPartyLog) : Type 0 where
  pub who : log.who ≡ s.who
  pub entries : log.entries ≡ s.entries

-- the logs of a record are those of the posts, in their order
abbrev pub AreLoggedBy : List PlainPost → List PlainPartyLog → Type 0
AreLoggedBy posts logs = AllZip IsLoggedBy posts logs
