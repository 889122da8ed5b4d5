-- Consistent, part 2: what the consumer of a lane got, followed by what was left, is what its producer put.
use Rattle.std.specs.Prelude.{◌≡◌, ℕ, ◌≤◌, true, List, ◌∷◌, ◌++◌, length}
use Rattle.std.specs.List.{AllByRecursion}
use Rattle.csp_lists.specs.PlainDeck.{lane_room}
use Rattle.csp_log.specs.declared.entry.Entry.{Entry}
use Rattle.csp_log.specs.declared.places.QueueId.{QueueId}
use Rattle.csp_log.specs.declared.shown.AnswerShown.{AnswerShown}
use Rattle.csp_log.specs.declared.shown.AnswerShown.TheVariants as answer
use Rattle.csp_log.specs.declared.shown.OpShown.{OpShown}
use Rattle.csp_log.specs.declared.shown.OpShown.TheVariants as op
use Rattle.csp_record.specs.Record.{PlainRecord}
use Rattle.csp_scene.specs.Scene.{PlainScene}
use Rattle.csp_topology.specs.Lanes.{PlainLane}
use Rattle.csp_topology.specs.Wires.{lanes_of}
use Rattle.csp_consistent.specs.Promises.{IsLaneKept}
use Rattle.csp_consistent.specs.Reading.{entries_of, gets, is_queue, left_in, puts}

-- a push to this queue was answered Full
abbrev pub IsRefused : QueueId → OpShown → AnswerShown → Type 0
IsRefused q (op.Push other _) (answer.Full _) = is_queue q other ≡ true
IsRefused q _ _ = ⊥

-- each push of an entry that was refused came after at least so many puts
abbrev pub IsFullAfter : ℕ → QueueId → List Entry → Type 0
IsFullAfter room q es = (before after : List Entry) (e : Entry) → es ≡ before ++ e ∷ after → IsRefused q e.op e.answer → room ≤ length (puts q before)

-- the lane is in order: it kept its promise of what the logs of its parties put and got and what the record says was left; and a push was answered
-- Full only after as many puts as it has room for
pub record IsInOrder (r : PlainRecord) (l : PlainLane) : Type 0 where
  pub kept : IsLaneKept (lane_room l.queue) (puts l.from.queue (entries_of r l.from.who)) (gets l.to.queue (entries_of r l.to.who)) (left_in r l.node l.queue 0)
  pub full : IsFullAfter (lane_room l.queue) l.from.queue (entries_of r l.from.who)

-- each lane of the scene is in order
abbrev pub AreInOrder : PlainScene → PlainRecord → Type 0
AreInOrder scene r = AllByRecursion (IsInOrder r) (lanes_of scene)
