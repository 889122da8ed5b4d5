-- what an application knows of its slots
use Rattle.std.specs.Prelude.{ℕ, ◌+◌, ◌-◌, ◌∷◌, [], true, false, List, slice_index_or, slice_set, sum_by}
use Rattle.csp_app.specs.Collecting.{Collectors, answer_of, blobs_told, collector_at, counts}
use Rattle.csp_app.specs.declared.slot.KnownSlot.{KnownSlot}
use Rattle.csp_log.specs.declared.event.Event.{Event}
use Rattle.csp_log.specs.declared.event.Event.TheVariants as event
use Rattle.csp_log.specs.declared.shown.ItemShown.{ItemShown}
use Rattle.csp_log.specs.declared.shown.ItemShown.TheVariants as item
use Rattle.csp_log.specs.declared.note.Note.{Note}
use Rattle.csp_log.specs.declared.note.Note.TheVariants as note

-- a slot before anything came for it
abbrev pub fresh : KnownSlot
fresh = record { ordinal = 0; unused = 0; down = false }

-- the slot of this number
abbrev pub slot_at : List KnownSlot → ℕ → KnownSlot
slot_at slots k = slice_index_or slots k fresh

-- so many more packets, or blobs, of this slot are there
abbrev pub taken_on : (k more : ℕ) → List KnownSlot → List KnownSlot
taken_on k more slots = slice_set slots k (record (slot_at slots k) { unused = (slot_at slots k).unused + more })

-- a slot of which so many packets or blobs that were taken are used
abbrev pub used_on : ℕ → ℕ → List KnownSlot → List KnownSlot
used_on k count slots = slice_set slots k (record (slot_at slots k) { unused = (slot_at slots k).unused - count })

-- this slot is free again: its next connection is the next in order, and is not down
abbrev pub closed_on : ℕ → List KnownSlot → List KnownSlot
closed_on k slots = slice_set slots k (record (slot_at slots k) { ordinal = (slot_at slots k).ordinal + 1; down = false })

-- this slot's connection is down
abbrev pub down_on : ℕ → List KnownSlot → List KnownSlot
down_on k slots = slice_set slots k (record (slot_at slots k) { down = true })

-- what a note that was popped says of its slot; one of another kind changes nothing there
abbrev pub noted : Note → List KnownSlot → List KnownSlot
noted (note.Closed k) slots = closed_on k slots
noted (note.Down k) slots = down_on k slots
noted (note.Bind _ _) slots = slots
noted (note.Connect _ _ _ _ _ _) slots = slots
noted (note.Close _) slots = slots
noted note.Bound slots = slots
noted (note.Connected _) slots = slots
noted (note.Refused _) slots = slots

-- the slots after an item was popped: a packet counts for itself, and on a slot that collects by the blob that is whole by it
abbrev pub slots_after : ItemShown → Collectors → List KnownSlot → List KnownSlot
slots_after (item.Packet k b) collectors slots = taken_on k (counts (answer_of (collector_at collectors k) b.payload)) slots
slots_after (item.Note n) collectors slots = noted n slots
slots_after (item.Frame _) collectors slots = slots

-- what is reported of an item that was popped: a packet is taken on its slot's present connection, and goes to the slot's collector
abbrev pub took : ItemShown → Collectors → List KnownSlot → List Event
took (item.Packet k b) collectors slots = event.Took k (slot_at slots k).ordinal ∷ blobs_told k (slot_at slots k).ordinal (collector_at collectors k) b.payload
took (item.Note _) collectors slots = []
took (item.Frame _) collectors slots = []

-- the numbers that turns raise, added up
abbrev pub slots_count : List KnownSlot → ℕ
slots_count slots = sum_by (λ s. s.ordinal + s.unused) slots
