-- the ordinal of a slot, by which its connections are told apart: the number of Closed answers for the slot so far
use Rattle.std.specs.Prelude.{ℕ, ◌==◌, ◌&&◌, Bool, false, List, map, take}
use Rattle.std.specs.List.{count_by, enumerate_from, filter}
use Rattle.csp_base.specs.declared.seat.Seat.{Seat}
use Rattle.csp_log.specs.Noting.{noted_in}
use Rattle.csp_log.specs.declared.entry.Entry.{Entry}
use Rattle.csp_log.specs.declared.note.Note.TheVariants as note
use Rattle.csp_log.specs.declared.noted.Noted.{Noted}
use Rattle.csp_log.specs.declared.noted.Noted.TheVariants as noted
use Rattle.csp_log.specs.declared.places.QueueId.TheVariants as queue
use Rattle.csp_record.specs.declared.payloads.Transfer.{Transfer}
use Rattle.csp_record.specs.declared.payloads.Transfer.TheVariants as way

-- whether a turn frees a seat, which a Closed answer does: for what is sent one that the router pushed, for what is taken one that the application popped
abbrev pub frees : Transfer → Seat → Noted → Bool
frees way.Sent seat (noted.Pushed (queue.Down number) (note.Closed freed)) = number == seat.app && freed == seat.slot
frees way.Took seat (noted.Popped (queue.Down number) (note.Closed freed)) = number == seat.app && freed == seat.slot
frees _ seat _ = false

-- the ordinal of a slot at an entry of a log: how often the slot was freed before it
abbrev pub ordinal_at : Transfer → Seat → List Entry → (place : ℕ) → ℕ
ordinal_at which seat entries place = count_by (λ e. frees which seat (noted_in e)) (take place entries)

-- the entries of a log at which the slot has this ordinal
abbrev pub entries_on : Transfer → Seat → (ordinal : ℕ) → List Entry → List Entry
entries_on which seat ordinal entries = map (λ e. e.1) (filter (λ e. ordinal_at which seat entries e.0 == ordinal) (enumerate_from 0 entries))
