-- what an application sent, and what it took, on each of its connections
use Rattle.std.specs.Prelude.{ℕ, ◌==◌, Bool, false, if◌then◌else◌, Option, None, Some, List, [], ◌∷◌}
use Rattle.std.specs.List.{flat_map}
use Rattle.csp_base.specs.declared.seat.Seat.{Seat}
use Rattle.csp_log.specs.Moving.{moved_in}
use Rattle.csp_log.specs.declared.entry.Entry.{Entry}
use Rattle.csp_log.specs.declared.event.Event.{Event}
use Rattle.csp_log.specs.declared.event.Event.TheVariants as event
use Rattle.csp_log.specs.declared.moved.Moved.{Moved}
use Rattle.csp_log.specs.declared.moved.Moved.TheVariants as moved
use Rattle.csp_log.specs.declared.places.QueueId.{QueueId}
use Rattle.csp_log.specs.declared.places.QueueId.TheVariants as queue
use Rattle.csp_record.specs.Ordinals.{entries_on}
use Rattle.csp_record.specs.declared.payloads.Transfer.{Transfer}
use Rattle.csp_record.specs.declared.payloads.Transfer.TheVariants as way

-- whether payloads go this way through a queue: from this application by its `Up`, and to it by its `Down`
abbrev pub leads : Transfer → (app : ℕ) → QueueId → Bool
leads way.Sent app (queue.Up number) = number == app
leads way.Took app (queue.Down number) = number == app
leads _ app _ = false

-- the payload that was popped from that queue
abbrev pub carried : Transfer → (app : ℕ) → Moved → Option (List ℕ)
carried which app (moved.Popped from packet) = (if leads which app from then Some packet.payload else None)
carried which app _ = None

-- whether an event tells that a payload was sent, or taken, on this slot
abbrev pub is_on : Transfer → (slot : ℕ) → Event → Bool
is_on way.Sent slot (event.Sent s told) = s == slot
is_on way.Took slot (event.Took s told) = s == slot
is_on _ slot _ = false

-- the payload that a turn moved, once for each of its events that tells so
abbrev pub told_on : Transfer → (slot : ℕ) → List Event → Option (List ℕ) → List (List ℕ)
told_on which slot events None = []
told_on which slot events (Some payload) = flat_map (λ e. if is_on which slot e then payload ∷ [] else []) events

-- what an entry tells to be sent, or taken, on a slot
abbrev pub payloads_in : Transfer → Seat → Entry → List (List ℕ)
payloads_in which seat e = told_on which seat.slot e.events.items (carried which seat.app (moved_in e))

-- the payloads of a slot and an ordinal: what the entries tell at which the slot has this ordinal, in order of time
abbrev pub payloads : Transfer → Seat → (ordinal : ℕ) → List Entry → List (List ℕ)
payloads which seat ordinal entries = flat_map (payloads_in which seat) (entries_on which seat ordinal entries)

-- what was sent on a connection of this seat, by the whole log of its router
abbrev pub sent : Seat → (ordinal : ℕ) → List Entry → List (List ℕ)
sent seat ordinal entries = payloads way.Sent seat ordinal entries

-- what was taken from it, by the whole log of the application
abbrev pub took : Seat → (ordinal : ℕ) → List Entry → List (List ℕ)
took seat ordinal entries = payloads way.Took seat ordinal entries
