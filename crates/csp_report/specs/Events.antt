-- What the report tells of events: the discards of a router, what its node was asked to do, and what an application reported.
use Rattle.std.specs.Prelude.{ℕ, Bool, true, false, List, [], ◌∷◌, count_by, codes, slice_get}
use Rattle.std.specs.List.{flat_map}
use Rattle.std.specs.Option.{option_map_or}
use Rattle.std.specs.Fmt.{decimal}
use Rattle.csp_log.specs.declared.entry.Entry.{Entry}
use Rattle.csp_log.specs.declared.event.Discard.{Discard}
use Rattle.csp_log.specs.declared.event.Discard.TheVariants as discard
use Rattle.csp_log.specs.declared.event.Event.{Event}
use Rattle.csp_log.specs.declared.event.Event.TheVariants as event
use Rattle.csp_log.specs.declared.note.Why.{Why}
use Rattle.csp_log.specs.declared.note.Why.TheVariants as why
use Rattle.csp_report.specs.Lines.{Line}

-- whether two reasons are the same
abbrev pub is_same : Discard → Discard → Bool
is_same discard.NoRoute discard.NoRoute = true
is_same discard.BackOut discard.BackOut = true
is_same discard.Refused discard.Refused = true
is_same discard.CrcWrong discard.CrcWrong = true
is_same discard.NoSocket discard.NoSocket = true
is_same discard.NoSlot discard.NoSlot = true
is_same discard.Required discard.Required = true
is_same discard.Malformed discard.Malformed = true
is_same discard.Mixed discard.Mixed = true
is_same discard.NoConn discard.NoConn = true
is_same discard.Stray discard.Stray = true
is_same discard.Full discard.Full = true
is_same _ _ = false

-- whether an event is a discard for this reason
abbrev pub is_discard : Discard → Event → Bool
is_discard reason (event.Discarded other) = is_same other reason
is_discard reason _ = false

-- the reasons, in the order in which a router's line has them
abbrev pub all_discards : List Discard
all_discards = discard.NoRoute ∷ discard.BackOut ∷ discard.Refused ∷ discard.CrcWrong ∷ discard.NoSocket ∷ discard.NoSlot ∷ discard.Required ∷ discard.Malformed ∷ discard.Mixed ∷ discard.NoConn ∷ discard.Stray ∷ discard.Full ∷ []

-- the word of a reason
abbrev pub word_of : Discard → List ℕ
word_of discard.NoRoute = codes "noroute"
word_of discard.BackOut = codes "backout"
word_of discard.Refused = codes "refused"
word_of discard.CrcWrong = codes "crc"
word_of discard.NoSocket = codes "nosocket"
word_of discard.NoSlot = codes "noslot"
word_of discard.Required = codes "required"
word_of discard.Malformed = codes "malformed"
word_of discard.Mixed = codes "mixed"
word_of discard.NoConn = codes "noconn"
word_of discard.Stray = codes "stray"
word_of discard.Full = codes "full"

-- each of these reasons with the number of these events that are discards for it
abbrev pub discard_words : List Event → List Discard → Line
discard_words events reasons = flat_map (λ reason. word_of reason ∷ decimal (count_by (is_discard reason) events) ∷ []) reasons

-- `event NODE WORD ROUND`
abbrev pub asked_line : List ℕ → List ℕ → ℕ → Line
asked_line word node round = codes "event" ∷ node ∷ word ∷ decimal round ∷ []

-- the lines of what a node was asked to do in this round; of the other events a report tells nothing here
abbrev pub asked_lines : List ℕ → ℕ → Event → List Line
asked_lines node round event.Reboot = asked_line (codes "reboot") node round ∷ []
asked_lines node round event.Shutdown = asked_line (codes "shutdown") node round ∷ []
asked_lines node round (event.TookEmpty step) = []
asked_lines node round (event.Sent slot ordinal) = []
asked_lines node round (event.Took slot ordinal) = []
asked_lines node round (event.BlobTook slot ordinal len crc) = []
asked_lines node round (event.BlobRefused slot ordinal reason) = []
asked_lines node round (event.Refused step reason) = []
asked_lines node round (event.GaveUp step) = []
asked_lines node round (event.SlotDown step) = []
asked_lines node round (event.Discarded reason) = []
asked_lines node round (event.Handed nth peer tag cur una) = []
asked_lines node round (event.Opened number slot nth peer) = []
asked_lines node round (event.Transmitted serial) = []
asked_lines node round (event.Bad count) = []
asked_lines node round event.Starved = []
asked_lines node round event.InboxFull = []
asked_lines node round event.TooBig = []

-- those of an entry of its router, whose round is the entry's time: the first round is 0
abbrev pub entry_lines : List ℕ → Entry → List Line
entry_lines node entry = flat_map (asked_lines node entry.time) entry.events.items

-- the round of the entry with this index
abbrev pub round_at : List Entry → ℕ → ℕ
round_at entries index = option_map_or (λ entry. entry.time) (slice_get entries index) 0

-- the word of why a request was refused
abbrev pub word_of_refusal : Why → List ℕ
word_of_refusal why.InUse = codes "inuse"
word_of_refusal why.NotBindable = codes "notbindable"
word_of_refusal why.Busy = codes "busy"
word_of_refusal why.PortBusy = codes "portbusy"
word_of_refusal why.Timeout = codes "timeout"
word_of_refusal why.Reset = codes "reset"

-- `WORD NODE APP K`: what became of the step K
abbrev pub step_line : List ℕ → List ℕ → List ℕ → ℕ → Line
step_line word node app step = word ∷ node ∷ app ∷ decimal step ∷ []

-- `refused NODE APP K WHY`
abbrev pub refused_line : List ℕ → List ℕ → ℕ → Why → Line
refused_line node app step reason = codes "refused" ∷ node ∷ app ∷ decimal step ∷ word_of_refusal reason ∷ []

-- the lines of what an application reports; of the other events a report tells nothing here
abbrev pub event_lines : List ℕ → List ℕ → Event → List Line
event_lines node app (event.TookEmpty step) = step_line (codes "empty") node app step ∷ []
event_lines node app (event.Refused step reason) = refused_line node app step reason ∷ []
event_lines node app (event.GaveUp step) = step_line (codes "gaveup") node app step ∷ []
event_lines node app (event.SlotDown step) = step_line (codes "down") node app step ∷ []
event_lines node app (event.Sent slot ordinal) = []
event_lines node app (event.Took slot ordinal) = []
event_lines node app (event.BlobTook slot ordinal len crc) = []
event_lines node app (event.BlobRefused slot ordinal reason) = []
event_lines node app (event.Discarded reason) = []
event_lines node app (event.Handed nth peer tag cur una) = []
event_lines node app (event.Opened number slot nth peer) = []
event_lines node app (event.Transmitted serial) = []
event_lines node app (event.Bad count) = []
event_lines node app event.Starved = []
event_lines node app event.InboxFull = []
event_lines node app event.TooBig = []
event_lines node app event.Reboot = []
event_lines node app event.Shutdown = []
