-- How the program keeps these, and what is true of it.
use Rattle.std.specs.Prelude.{◌≡◌, ◌+◌, ◌≤◌, vec_len, vec_capacity}
use Rattle.csp_buffer.specs.Memory.{AreAllOf}
use Rattle.csp_ending.specs.Notes.{PlainNotes}
use Rattle.csp_ending.specs.Slates.{PlainSlate}
use Rattle.csp_ending.specs.Stores.{PlainStore}
use Rattle.csp_ending.specs.declared.notes.Notes.TheInside as notes
use Rattle.csp_ending.specs.declared.slate.Slate.TheInside as slate
use Rattle.csp_ending.specs.declared.store.Store.TheInside as store
use Rattle.csp_lists.specs.PlainDeck.{numbers_of}
use Rattle.csp_pool.specs.PlainPool.{numbers}

-- a store is seen as its memory, the numbers of the buffers that are back, and its room
abbrev pub plain_store : store.Inside → PlainStore
plain_store s = record { region = s.memory.region; count = s.memory.count; numbers = numbers s.back.items; room = vec_capacity s.back }

-- all its buffers are of its region
abbrev pub IsStore : store.Inside → Type 0
IsStore s = AreAllOf s.memory.region s.back.items

-- a slate is seen as what was noted, and the room that is left
abbrev pub plain_slate : slate.Inside → PlainSlate
plain_slate s = record { items = s.shown.items; spare = s.spare }

-- it has the numbers of what was noted, and just the room for as many more as it says
pub record IsSlate (s : slate.Inside) : Type 0 where
  pub numbers : s.numbers.items ≡ numbers_of s.shown.items
  pub few : vec_len s.numbers ≤ vec_len s.shown
  pub shown_room : vec_capacity s.shown ≡ vec_len s.shown + s.spare
  pub numbers_room : vec_capacity s.numbers ≡ vec_len s.shown + s.spare

-- notes are seen as the lists that they are, and the room that is left
abbrev pub plain_notes : notes.Inside → PlainNotes
plain_notes n = record { left = n.left.items; held = n.held.items; queues = n.queues; others = n.others }

-- there is just the room for as many more as they say
pub record AreNotes (n : notes.Inside) : Type 0 where
  pub left_room : vec_capacity n.left ≡ vec_len n.left + n.queues
  pub held_room : vec_capacity n.held ≡ vec_len n.held + n.queues + n.others
