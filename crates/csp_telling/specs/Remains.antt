-- What was left in the queues of a network when its run ended, and what that is to its posts.
use Rattle.std.specs.Prelude.{◌≡◌, ◌+◌, ◌≤◌, ◌++◌, ℕ, true, Option, None, Some, List, [], length, map, if◌then◌else◌, slice_get}
use Rattle.std.specs.List.{AllByRecursion, flat_map}
use Rattle.csp_base.specs.declared.priority.Prio.{Prio}
use Rattle.csp_base.specs.declared.priority.Prio.TheVariants.{Critical, High, Normal, Low}
use Rattle.csp_consistent.specs.Promises.{IsLaneKept}
use Rattle.csp_deck.specs.Carried.{IsCarried}
use Rattle.csp_deck.specs.Step.{times}
use Rattle.csp_ends.specs.Ends.{PlainSide, PlainHome}
use Rattle.csp_inbox.specs.Marks.{with_mark}
use Rattle.csp_inbox.specs.Passes as inbox
use Rattle.csp_lane.specs.Marks.{AreHeeded}
use Rattle.csp_lists.specs.PlainDeck.{numbers_of}
use Rattle.csp_log.specs.declared.places.Rule.TheVariants as rule
use Rattle.csp_log.specs.declared.shown.ItemShown.{ItemShown}
use Rattle.csp_party.specs.Any.{holds}
use Rattle.csp_posts.specs.Between.{AreJoined, all_put, all_taken, is_home}
use Rattle.csp_posts.specs.Posts.{PlainPost}
use Rattle.csp_scene.specs.Scene.{PlainScene}
use Rattle.csp_standing.specs.Shown.{all_kept}
use Rattle.csp_topology.specs.Wires.{wires_of}

-- what was left in the queues of a node: in each of its lanes, in their order; in its inbox, of each priority; and in its pool
pub record PlainRemains : Type 0 where
  pub lanes : List (List ItemShown)
  pub inbox : Prio → List ItemShown
  pub pool : List ℕ

-- what a pass put into an inbox, of a priority
abbrev pub kept_by : Prio → Option inbox.PlainPass → List ItemShown
kept_by p None = []
kept_by p (Some x) = (inbox.mail_at x p).kept

-- what a party put there
abbrev pub kept_from : Prio → Option PlainHome → List ItemShown
kept_from p None = []
kept_from p (Some h) = kept_by p h.inbox

-- what all parties of a node put into its inbox, of a priority, party by party
abbrev pub kept_at : ℕ → Prio → List PlainPost → List ItemShown
kept_at node p posts = flat_map (λ s. if is_home node s.ends.home then kept_from p s.ends.home else []) posts

-- the numbers that a party put into its pool, those of the opening among them
abbrev pub put_from : Option PlainHome → List ℕ
put_from None = []
put_from (Some h) = h.pool.hand.put

-- those that it took
abbrev pub taken_from : Option PlainHome → List ℕ
taken_from None = []
taken_from (Some h) = h.pool.hand.taken

-- the numbers that all parties of a node put into its pool, party by party
abbrev pub put_at : ℕ → List PlainPost → List ℕ
put_at node posts = flat_map (λ s. if is_home node s.ends.home then put_from s.ends.home else []) posts

-- those that they took
abbrev pub taken_at : ℕ → List PlainPost → List ℕ
taken_at node posts = flat_map (λ s. if is_home node s.ends.home then taken_from s.ends.home else []) posts

-- what was left in a lane of a node: two posts have its ends, of what the one put and the other got the lane kept its promise, it carries what was left,
-- and the marks of what was got keep to their bounds
pub record IsLaneLeft (posts : List PlainPost) (node lane : ℕ) (left : List ItemShown) : Type 0 where
  pub i : ℕ
  pub j : ℕ
  pub s : PlainPost
  pub t : PlainPost
  pub x : PlainSide
  pub y : PlainSide
  pub joined : AreJoined posts i j s x t y
  pub node_is : x.node ≡ node
  pub lane_is : x.lane ≡ lane
  pub kept : IsLaneKept x.end.room x.end.items y.end.items left
  pub carried : AllByRecursion (IsCarried (rule.Lane x.end.carries)) left
  pub heeded : AreHeeded x.end.marks y.end.marks

-- what was left in the inbox of a node, of a priority: under each mark, what the parties put is what its reader got and then what was left; all that
-- was left is of this priority; and there were as many puts as any pass was told that there must be
pub record IsInboxLeft (posts : List PlainPost) (node : ℕ) (p : Prio) (left : List ItemShown) : Type 0 where
  pub sorted : (i : ℕ) (hub : PlainPost) (h : PlainHome) (x : inbox.PlainPass) → slice_get posts i ≡ Some hub → hub.ends.home ≡ Some h → h.node ≡ node → h.inbox ≡ Some x → x.role.reads ≡ true
      → (m : ℕ) → with_mark m (kept_at node p posts) ≡ with_mark m ((inbox.mail_at x p).got ++ left)
  pub carried : AllByRecursion (IsCarried (rule.Priority p)) left
  pub reached : (i : ℕ) (s : PlainPost) (h : PlainHome) (x : inbox.PlainPass) → slice_get posts i ≡ Some s → s.ends.home ≡ Some h → h.node ≡ node → h.inbox ≡ Some x
      → (inbox.mail_at x p).puts_floor ≤ all_kept node p posts

-- what was left in the pool of a node: what its parties put is, as a multiset, what they took and what was left; and there were as many takes and puts as
-- any pass was told that there must be
pub record IsPoolLeft (posts : List PlainPost) (node : ℕ) (left : List ℕ) : Type 0 where
  pub whole : (k : ℕ) → times k (put_at node posts) ≡ times k (taken_at node posts) + times k left
  pub takes : (i : ℕ) (s : PlainPost) (h : PlainHome) → slice_get posts i ≡ Some s → s.ends.home ≡ Some h → h.node ≡ node → h.pool.hand.takes.floor ≤ all_taken node posts
  pub puts : (i : ℕ) (s : PlainPost) (h : PlainHome) → slice_get posts i ≡ Some s → s.ends.home ≡ Some h → h.node ≡ node → h.pool.hand.puts.floor ≤ all_put node posts

-- what was left in the queues of a node
pub record AreLeftAt (posts : List PlainPost) (node : ℕ) (m : PlainRemains) : Type 0 where
  pub lanes : (k : ℕ) (left : List ItemShown) → slice_get m.lanes k ≡ Some left → IsLaneLeft posts node k left
  pub inbox : (p : Prio) → IsInboxLeft posts node p (m.inbox p)
  pub pool : IsPoolLeft posts node m.pool

-- what was left in the queues of each node of a scene
pub record AreRemains (scene : PlainScene) (posts : List PlainPost) (all : List PlainRemains) : Type 0 where
  pub nodes : length all ≡ length scene.nodes
  pub lanes : map (λ (m : PlainRemains). length m.lanes) all ≡ map (λ lanes. length lanes) (wires_of scene)
  pub each : (node : ℕ) (m : PlainRemains) → slice_get all node ≡ Some m → AreLeftAt posts node m

-- the numbers of the buffers that were left in the inbox of a node
abbrev pub inbox_numbers : PlainRemains → List ℕ
inbox_numbers m = numbers_of (m.inbox Critical ++ m.inbox High ++ m.inbox Normal ++ m.inbox Low)

-- those that the parties of a node hold, party by party
abbrev pub held_at : ℕ → List PlainPost → List ℕ
held_at node posts = flat_map (λ s. if is_home node s.ends.home then holds s.party else []) posts

-- all buffers of a node: those left in its pool, its lanes and its inbox, and those that its parties hold
abbrev pub returned : ℕ → PlainRemains → List PlainPost → List ℕ
returned node m posts = m.pool ++ (flat_map numbers_of m.lanes ++ (inbox_numbers m ++ held_at node posts))
