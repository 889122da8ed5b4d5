-- The record of a network's run.
use Rattle.std.specs.Prelude.{◌≡◌, ◌+◌, ◌++◌, ℕ, List, [], ◌∷◌, map, max}
use Rattle.std.specs.List.{flat_map}
use Rattle.std.specs.Option.{option_map, option_to_list}
use Rattle.csp_base.specs.declared.priority.Prio.{Prio}
use Rattle.csp_base.specs.declared.priority.Prio.TheVariants.{Critical, High, Normal, Low}
use Rattle.csp_consistent.specs.Pools.{held_by, left_held, pools_held}
use Rattle.csp_ending.specs.Notes.{left_note}
use Rattle.csp_log.specs.Remains.{PlainHeld, PlainLeft}
use Rattle.csp_log.specs.declared.entry.Entry.{Entry}
use Rattle.csp_log.specs.declared.places.QueueId.TheVariants as queue
use Rattle.csp_log.specs.declared.shown.ItemShown.{ItemShown}
use Rattle.csp_party.specs.Any.{holds, present_step}
use Rattle.csp_posts.specs.Posts.{PlainPost}
use Rattle.csp_record.specs.Record.{PlainPartyLog, PlainRecord}
use Rattle.csp_log.specs.Who.{home_of}
use Rattle.csp_scene.specs.Scene.{PlainScene}
use Rattle.csp_standing.specs.Played.{are_done}
use Rattle.csp_telling.specs.Remains.{AreRemains, PlainRemains}
use Rattle.csp_topology.specs.Lanes.{PlainLane}
use Rattle.csp_topology.specs.Wires.{wires_of}

-- a party's log
abbrev pub log_of : PlainPost → PlainPartyLog
log_of s = record { who = s.who; entries = s.entries; step = present_step s.party }

-- what is said of the lanes of a node: what was left in each
abbrev pub lane_notes : ℕ → List PlainLane → List (List ItemShown) → List PlainLeft
lane_notes node [] lefts = []
lane_notes node (l ∷ lanes) [] = []
lane_notes node (l ∷ lanes) (items ∷ lefts) = left_note node l.queue 0 items ∷ lane_notes node lanes lefts

-- of its inbox: what was left of each priority
abbrev pub inbox_notes : ℕ → (Prio → List ItemShown) → List PlainLeft
inbox_notes node left = left_note node queue.Inbox 0 (left Critical) ∷ left_note node queue.Inbox 1 (left High) ∷ left_note node queue.Inbox 2 (left Normal) ∷ left_note node queue.Inbox 3 (left Low) ∷ []

-- of all its queues
abbrev pub node_notes : ℕ → List PlainLane → PlainRemains → List PlainLeft
node_notes node lanes m = lane_notes node lanes m.lanes ++ inbox_notes node m.inbox

-- of those of all nodes, from this node on
abbrev pub all_notes : ℕ → List (List PlainLane) → List PlainRemains → List PlainLeft
all_notes node [] all = []
all_notes node (lanes ∷ wires) [] = []
all_notes node (lanes ∷ wires) (m ∷ all) = node_notes node lanes m ++ all_notes (node + 1) wires all

-- what a party held, where it has a place: a link has none
abbrev pub post_held : PlainPost → List PlainHeld
post_held s = option_to_list (option_map (held_by (holds s.party)) (home_of s.who))

-- one more than the greatest time of these entries, and 0 where there are none
abbrev pub rounds_in : List Entry → ℕ
rounds_in [] = 0
rounds_in (e ∷ es) = max (e.time + 1) (rounds_in es)

-- of all these parties
abbrev pub rounds_of : List PlainPost → ℕ
rounds_of [] = 0
rounds_of (s ∷ posts) = max (rounds_in s.entries) (rounds_of posts)

-- the record of posts in whose queues these were left: it has their logs; of each queue what was left there; of each place what it held, the queues
-- first, then the parties, then the pools; the rounds that they made, and whether every application had ended
pub record IsRecordOf (scene : PlainScene) (posts : List PlainPost) (all : List PlainRemains) (r : PlainRecord) : Type 0 where
  pub parties : r.parties ≡ map log_of posts
  pub left : r.left ≡ all_notes 0 (wires_of scene) all
  pub held : r.held ≡ map left_held r.left ++ (flat_map post_held posts ++ pools_held 0 (map (λ (m : PlainRemains). m.pool) all))
  pub rounds : r.rounds ≡ rounds_of posts
  pub finished : r.finished ≡ are_done posts

-- it is the record of these posts, with what was left in the queues of each node
pub record IsClosed (scene : PlainScene) (posts : List PlainPost) (r : PlainRecord) : Type 0 where
  pub all : List PlainRemains
  pub remains : AreRemains scene posts all
  pub told : IsRecordOf scene posts all r
