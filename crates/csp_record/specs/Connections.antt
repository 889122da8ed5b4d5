-- what the log of a router tells of the connections of an application that became open
use Rattle.std.specs.Prelude.{ℕ, Bool, true, false, ◌==◌, if◌then◌else◌, List, [], ◌∷◌}
use Rattle.std.specs.List.{enumerate_from, flat_map}
use Rattle.csp_base.specs.Seat.{seat}
use Rattle.csp_log.specs.declared.entry.Entry.{Entry}
use Rattle.csp_log.specs.declared.event.Event.{Event}
use Rattle.csp_log.specs.declared.event.Event.TheVariants as event
use Rattle.csp_record.specs.declared.connections.Opening.{Opening}
use Rattle.csp_record.specs.Ordinals.{ordinal_at}
use Rattle.csp_record.specs.declared.payloads.Transfer.TheVariants as way

-- whether an event tells that a connection became open, of whichever application
abbrev pub is_opened : Event → Bool
is_opened (event.Opened number slot nth peer) = true
is_opened _ = false

-- the connection of this application that an event tells to be open, where its slots have these ordinals
abbrev pub opened_by : (app : ℕ) → (ordinals : ℕ → ℕ) → Event → List Opening
opened_by app ordinals (event.Opened number slot nth peer) = (if number == app then record { slot = slot; ordinal = ordinals slot; nth = nth; peer = peer } ∷ [] else [])
opened_by app ordinals _ = []

-- the openings of an application, in order of time, by the whole log of its router: each entry tells of them with the ordinals that the slots have there
abbrev pub openings : (app : ℕ) → List Entry → List Opening
openings app entries = flat_map (λ e. flat_map (opened_by app (λ slot. ordinal_at way.Sent (seat app slot) entries e.0)) e.1.events.items) (enumerate_from 0 entries)
