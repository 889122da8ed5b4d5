use Rattle.std.specs.Prelude.{ℕ, ◌-◌, List, [], ◌∷◌, ◌++◌}
use Rattle.std.specs.List.{flat_map}
use Rattle.csp_log.specs.PlainDraft.{PlainDraft}
use Rattle.csp_log.specs.declared.entry.Entry.{Entry}
use Rattle.csp_log.specs.declared.event.Event.{Event}

-- what a log is: its entries, the oldest first, and for how many more it has room
pub record PlainLog : Type 0 where
  pub entries : List Entry
  pub spare : ℕ

-- the log with one entry more
abbrev pub with_entry : PlainLog → Entry → PlainLog
with_entry l e = record { entries = l.entries ++ e ∷ []; spare = l.spare - 1 }

-- the entry of a turn at this time, with this draft and these events
abbrev pub entry_with : ℕ → PlainDraft → List Event → Entry
entry_with time draft events = record { time = time; op = draft.op; answer = draft.answer; events = record { items = events } }

-- the events of these entries, in order of time
abbrev pub all_events : List Entry → List Event
all_events entries = flat_map (λ entry. entry.events.items) entries
