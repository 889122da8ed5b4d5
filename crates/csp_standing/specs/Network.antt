-- What holds of the posts and the queues of a scene's network, before the first turn and after every list of turns and meetings.
use Rattle.std.specs.Prelude.{◌≡◌, ◌+◌, ◌<◌, ◌==◌, ◌^◌, ℕ, ⊤, Bool, true, false, Option, None, Some, List, [], ◌∷◌, ◌++◌, length, map, IfSome, if◌then◌else◌, slice_get}
use Rattle.std.specs.List.{AllByRecursion, count_by, range_with_len}
use Rattle.std.specs.Option.{option_map}
use Rattle.csp_arena.specs.Cells.{RegionName}
use Rattle.csp_consistent.specs.Reading.{gets}
use Rattle.csp_deck.specs.Carried.{IsCarried}
use Rattle.csp_ends.specs.Ends.{PlainNodeQueues, PlainSide, PlainHome}
use Rattle.csp_inbox.specs.Marks.{is_in}
use Rattle.csp_inbox.specs.Passes as inbox
use Rattle.csp_lists.specs.PlainDeck.{lane_room}
use Rattle.csp_log.specs.declared.places.Carries.{Carries}
use Rattle.csp_log.specs.declared.places.QueueId.{QueueId}
use Rattle.csp_log.specs.declared.places.QueueId.TheVariants as queue
use Rattle.csp_log.specs.declared.places.Rule.TheVariants as rule
use Rattle.csp_log.specs.declared.places.TheConstants.{UNMARKED}
use Rattle.csp_posts.specs.Between.{is_home}
use Rattle.csp_posts.specs.Posts.{PlainPost}
use Rattle.csp_posts.specs.Still.{IsPostFrom}
use Rattle.csp_posts.specs.Through.{IsThrough, WasCrammed}
use Rattle.csp_log.specs.Who.{node_of, is_who}
use Rattle.csp_log.specs.declared.who.Who.{Who}
use Rattle.csp_log.specs.declared.who.Who.TheVariants as who
use Rattle.csp_scene.specs.Links.{links_at, node_at}
use Rattle.csp_scene.specs.Scene.{PlainScene, PlainNode}
use Rattle.csp_topology.specs.Lanes.{PlainLane}
use Rattle.csp_topology.specs.Parties.{PlainOpening, parties_of}
use Rattle.csp_topology.specs.Wires.{wires_of}
use Rattle.csp_topology.specs.Wired.{is_leader}
use Rattle.csp_topology.specs.Writers.{mark_for}

-- a network: the queues of each node, and the region of each node's buffers
pub record PlainNetwork : Type 0 where
  pub nodes : List PlainNodeQueues
  pub regions : List RegionName

-- what a party calls an end of a lane, which lane of which node it is, whether the party puts there, and what the lane carries
pub record SideName : Type 0 where
  pub queue : QueueId
  pub node : ℕ
  pub lane : ℕ
  pub puts : Bool
  pub carries : Carries

-- the name of an end
abbrev pub name_of : PlainSide → SideName
name_of s = record { queue = s.queue; node = s.node; lane = s.lane; puts = s.puts; carries = s.end.carries }

-- the ends of one lane, of this node and this place there, that a party has
abbrev pub sides_at : Who → ℕ → ℕ → PlainLane → List SideName
sides_at w node place l =
    (if is_who w l.from.who then record { queue = l.from.queue; node = node; lane = place; puts = true; carries = l.carries } ∷ [] else [])
    ++ (if is_who w l.to.who then record { queue = l.to.queue; node = node; lane = place; puts = false; carries = l.carries } ∷ [] else [])

-- those of these lanes of a node, from this place on
abbrev pub sides_among : Who → ℕ → ℕ → List PlainLane → List SideName
sides_among w node place [] = []
sides_among w node place (l ∷ lanes) = sides_at w node place l ++ sides_among w node (place + 1) lanes

-- those of the lanes of all nodes, from this node on
abbrev pub sides_from : Who → ℕ → List (List PlainLane) → List SideName
sides_from w node [] = []
sides_from w node (lanes ∷ nodes) = sides_among w node 0 lanes ++ sides_from w (node + 1) nodes

-- the ends that a party of a scene has: of each lane that which it uses, in the order of the lanes
abbrev pub sides_of : PlainScene → Who → List SideName
sides_of scene w = sides_from w 0 (wires_of scene)

-- the numbers that a party's pass had put into the pool at the opening: the leader's all of the node
abbrev pub opened_by : Who → ℕ → List ℕ
opened_by w buffers = (if is_leader w then range_with_len 0 buffers else [])

-- the numbers that its pass had put into the pool of a scene's node at the opening
abbrev pub opened_at : PlainScene → Who → Option ℕ → List ℕ
opened_at scene w None = []
opened_at scene w (Some node) = opened_by w (node_at scene.nodes node).buffers

-- those of a party
abbrev pub opened_in : PlainScene → Who → List ℕ
opened_in scene w = opened_at scene w (node_of w)

-- a party's passes of its node: the leader has the opening ones, any other has passes that were split off, of the inbox under its mark
pub record IsHomeIn (w : Who) (h : PlainHome) : Type 0 where
  pub opens : h.pool.hand.opens ≡ (if is_leader w then 1 else 0)
  pub part : h.pool.hand.part ≡ (if is_leader w then 0 else 1)
  pub mark : option_map (λ x. x.role.mark) h.inbox ≡ mark_for w
  pub roles : IfSome h.inbox (λ x. (x.role.reads ≡ is_leader w) × (x.role.writes ≡ true))

-- its passes are of its node, whose buffers are of this region; a link has none
pub record IsHomeAmong (regions : List RegionName) (w : Who) (home : Option PlainHome) : Type 0 where
  pub node : option_map (λ h. h.node) home ≡ node_of w
  pub passes : IfSome home (IsHomeIn w)
  pub region : IfSome home (λ h. slice_get regions h.node ≡ Some h.pool.hand.region)

-- what goes through an end is of the region of the lane's node
abbrev pub IsSideAmong : List RegionName → PlainSide → Type 0
IsSideAmong regions x = slice_get regions x.node ≡ Some x.end.region

-- a post is one of a scene: it is of the party that opens so, and its log is a run of that party; what it has in hand are the passes of its node
-- and the ends that the party uses, which tell what the log says; all that it got from an inbox is what an inbox carries, and all that went through an end what its
-- lane does; a push was refused only where there was no room; its turns were early; and no buffer was lost or made
pub record IsPostOf (scene : PlainScene) (n : PlainNetwork) (o : PlainOpening) (s : PlainPost) : Type 0 where
  pub who : s.who ≡ o.who
  pub from : IsPostFrom n.nodes o.party (opened_in scene o.who) s
  pub home : IsHomeAmong n.regions o.who s.ends.home
  pub sides : map name_of s.ends.sides ≡ sides_of scene o.who
  pub regions : AllByRecursion (IsSideAmong n.regions) s.ends.sides
  pub got : AllByRecursion (IsCarried rule.Inbox) (gets queue.Inbox s.entries)
  pub through : AllByRecursion IsThrough s.ends.sides
  pub full : AllByRecursion (WasCrammed s.entries) s.ends.sides
  pub early : AllByRecursion (λ e. e.time < 2 ^ 62) s.entries

-- the posts are those of these parties, one for each, in their order
abbrev pub ArePostsOf : PlainScene → PlainNetwork → List PlainOpening → List PlainPost → Type 0
ArePostsOf scene n [] [] = ⊤
ArePostsOf scene n (o ∷ os) (s ∷ posts) = IsPostOf scene n o s × ArePostsOf scene n os posts
ArePostsOf _ _ _ _ = ⊥

-- the queues of a node are those that a scene states: a pool for its buffers, an inbox with its room, and its lanes with theirs
pub record AreQueuesOf (m : PlainNode) (wires : List PlainLane) (q : PlainNodeQueues) : Type 0 where
  pub pool : q.pool.capacity ≡ m.buffers
  pub inbox : q.inbox.room ≡ m.inbox
  pub lanes : map (λ l. l.room) q.lanes ≡ map (λ l. lane_room l.queue) wires

-- so are those of each node
abbrev pub AreNodesOf : List PlainNode → List (List PlainLane) → List PlainNodeQueues → Type 0
AreNodesOf [] [] [] = ⊤
AreNodesOf (m ∷ ms) (lanes ∷ wires) (q ∷ nodes) = AreQueuesOf m lanes q × AreNodesOf ms wires nodes
AreNodesOf _ _ _ = ⊥

-- the passes of a leader that other parties have: of the pool one for each other party of its node, of the inbox marks of its interfaces
pub record IsShared (scene : PlainScene) (posts : List PlainPost) (h : PlainHome) : Type 0 where
  pub pool : h.pool.hand.out + 1 ≡ count_by (λ s. is_home h.node s.ends.home) posts
  pub inbox : (x : inbox.PlainPass) (m : ℕ) → h.inbox ≡ Some x → is_in x.role.out m ≡ true → m < length (links_at h.node scene.links)

-- the network and the posts of a scene, before the first turn and after every list of turns and meetings
pub record IsNetworkOf (scene : PlainScene) (n : PlainNetwork) (posts : List PlainPost) : Type 0 where
  pub nodes : AreNodesOf scene.nodes (wires_of scene) n.nodes
  pub regions : length n.regions ≡ length n.nodes
  pub parties : ArePostsOf scene n (parties_of scene) posts
  pub shared : (k : ℕ) (s : PlainPost) (h : PlainHome) → slice_get posts k ≡ Some s → is_leader s.who ≡ true → s.ends.home ≡ Some h → IsShared scene posts h
