-- What is noted at the end of a run: what was left in each queue, and which buffers each place held.
use Rattle.std.specs.Prelude.{ℕ, List, [], ◌∷◌, ◌++◌}
use Rattle.csp_lists.specs.PlainDeck.{numbers_of}
use Rattle.csp_log.specs.Remains.{PlainLeft, PlainHeld}
use Rattle.csp_log.specs.declared.places.Place.{Place}
use Rattle.csp_log.specs.declared.places.QueueId.{QueueId}
use Rattle.csp_log.specs.declared.shown.ItemShown.{ItemShown}

-- the notes so far, and room for how many more of queues, and of other places
pub record PlainNotes : Type 0 where
  pub left : List PlainLeft
  pub held : List PlainHeld
  pub queues : ℕ
  pub others : ℕ

-- that these items were left in a queue of a node
abbrev pub left_note : ℕ → QueueId → ℕ → List ItemShown → PlainLeft
left_note node queue prio items = record { node = node; queue = queue; prio = prio; items = items }

-- that a place of a node held buffers of these numbers
abbrev pub held_note : ℕ → Place → List ℕ → PlainHeld
held_note node place numbers = record { node = node; place = place; numbers = numbers }

-- the notes with one more of a queue: what was left in it, and which buffers it held
abbrev pub with_queue : PlainNotes → ℕ → QueueId → ℕ → Place → List ItemShown → ℕ → PlainNotes
with_queue n node queue prio place items queues =
    record { left = n.left ++ left_note node queue prio items ∷ []; held = n.held ++ held_note node place (numbers_of items) ∷ []; queues = queues; others = n.others }

-- with one more of another place
abbrev pub with_place : PlainNotes → ℕ → Place → List ℕ → ℕ → PlainNotes
with_place n node place numbers others = record { left = n.left; held = n.held ++ held_note node place numbers ∷ []; queues = n.queues; others = others }
