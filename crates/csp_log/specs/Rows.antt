-- how a log keeps its entries: a line each, and where there is more to it a row, which points into one list of bytes and one of events
use Rattle.std.specs.Prelude.{◌≡◌, ℕ, Bool, true, false, ◌+◌, ◌^◌, ◌<◌, ◌≤◌, List, [], ◌++◌, Option, Some, None, ⊤, All, length, slice_get, slice_range}
use Rattle.csp_base.specs.declared.limits.TheConstants.{MAX_PAYLOAD, MAX_FRAME}
use Rattle.csp_base.specs.Trace.{no_trace}
use Rattle.csp_base.specs.declared.traces.Trace.{Trace}
use Rattle.csp_buffer.specs.Content.{Content}
use Rattle.csp_buffer.specs.Trails.{trace_of}
use Rattle.csp_log.specs.PlainDraft.{PlainDraft}
use Rattle.csp_log.specs.PlainLog.{entry_with}
use Rattle.csp_log.specs.declared.entry.Entry.{Entry}
use Rattle.csp_log.specs.declared.event.Event.{Event}
use Rattle.csp_log.specs.declared.event.TheConstants.{MAX_EVENTS}
use Rattle.csp_log.specs.declared.frame.Frame.{Frame}
use Rattle.csp_log.specs.declared.row.PacketHead.{PacketHead}
use Rattle.csp_log.specs.declared.row.ItemHead.{ItemHead}
use Rattle.csp_log.specs.declared.row.ItemHead.TheVariants as head
use Rattle.csp_log.specs.declared.row.Deed.{Deed}
use Rattle.csp_log.specs.declared.row.Deed.TheVariants as deed
use Rattle.csp_log.specs.declared.row.Line.{Line}
use Rattle.csp_log.specs.declared.row.Line.TheVariants as line
use Rattle.csp_log.specs.declared.row.LogRow.{LogRow}
use Rattle.csp_log.specs.declared.shown.ItemShown.{ItemShown}
use Rattle.csp_log.specs.declared.shown.ItemShown.TheVariants as item_shown
use Rattle.csp_log.specs.declared.shown.OpShown.{OpShown}
use Rattle.csp_log.specs.declared.shown.OpShown.TheVariants as op_shown
use Rattle.csp_log.specs.declared.shown.AnswerShown.{AnswerShown}
use Rattle.csp_log.specs.declared.shown.AnswerShown.TheVariants as answer_shown

-- the packet and the frame with these bytes and this trace
abbrev pub packet_of : List ℕ → Trace → PacketHead → Content
packet_of bytes trace p = record { number = p.number; header = p.header; payload = bytes; trace = trace }

-- the frame with these bytes, this trace and this CAN identifier, if it has one
abbrev pub frame_of : List ℕ → Trace → Option ℕ → Frame
frame_of bytes trace can = record { can = can; bytes = record { items = bytes }; trace = trace }

-- the item with these bytes and this trace
abbrev pub item_of : List ℕ → Trace → ItemHead → ItemShown
item_of bytes trace (head.Packet mark p) = item_shown.Packet mark (packet_of bytes trace p)
item_of bytes trace (head.Frame can) = item_shown.Frame (frame_of bytes trace can)
item_of bytes trace (head.Note n) = item_shown.Note n

-- the operation of a deed, with these bytes and this trace
abbrev pub op_of : List ℕ → Trace → Deed → OpShown
op_of bytes trace deed.Rested = op_shown.Nothing
op_of bytes trace (deed.Took p) = op_shown.Take
op_of bytes trace deed.FoundNoBuffer = op_shown.Take
op_of bytes trace (deed.Gave p) = op_shown.Give (packet_of bytes trace p)
op_of bytes trace (deed.FoundPoolFull p) = op_shown.Give (packet_of bytes trace p)
op_of bytes trace (deed.Pushed q i) = op_shown.Push q (item_of bytes trace i)
op_of bytes trace (deed.FoundFull q i) = op_shown.Push q (item_of bytes trace i)
op_of bytes trace (deed.Popped q i) = op_shown.Pop q
op_of bytes trace (deed.FoundEmpty q) = op_shown.Pop q

-- the answer of a deed with these bytes
abbrev pub answer_of : List ℕ → Trace → Deed → AnswerShown
answer_of bytes trace deed.Rested = answer_shown.Nothing
answer_of bytes trace (deed.Took p) = answer_shown.Taken (packet_of bytes trace p)
answer_of bytes trace deed.FoundNoBuffer = answer_shown.NoBuffer
answer_of bytes trace (deed.Gave p) = answer_shown.Given
answer_of bytes trace (deed.FoundPoolFull p) = answer_shown.PoolFull (packet_of bytes trace p)
answer_of bytes trace (deed.Pushed q i) = answer_shown.Pushed
answer_of bytes trace (deed.FoundFull q i) = answer_shown.Full (item_of bytes trace i)
answer_of bytes trace (deed.Popped q i) = answer_shown.Popped (item_of bytes trace i)
answer_of bytes trace (deed.FoundEmpty q) = answer_shown.Empty

-- a deed's operation and answer
abbrev pub draft_of : List ℕ → Trace → Deed → PlainDraft
draft_of bytes trace d = record { op = op_of bytes trace d; answer = answer_of bytes trace d }

-- the deed of which what was handed in comes back
abbrev pub turned_back : Deed → Deed
turned_back (deed.Gave p) = deed.FoundPoolFull p
turned_back (deed.Pushed q i) = deed.FoundFull q i
turned_back d = d

-- so many bytes are no more than a payload has, or a frame, where the item is one
abbrev pub IsItemLong : ℕ → ItemHead → Type 0
IsItemLong n (head.Packet mark p) = n ≤ MAX_PAYLOAD
IsItemLong n (head.Frame can) = n ≤ MAX_FRAME
IsItemLong n (head.Note _) = ⊤

-- where the deed carries one
abbrev pub IsDeedLong : ℕ → Deed → Type 0
IsDeedLong n deed.Rested = ⊤
IsDeedLong n (deed.Took p) = n ≤ MAX_PAYLOAD
IsDeedLong n deed.FoundNoBuffer = ⊤
IsDeedLong n (deed.Gave p) = n ≤ MAX_PAYLOAD
IsDeedLong n (deed.FoundPoolFull p) = n ≤ MAX_PAYLOAD
IsDeedLong n (deed.Pushed q i) = IsItemLong n i
IsDeedLong n (deed.FoundFull q i) = IsItemLong n i
IsDeedLong n (deed.Popped q i) = IsItemLong n i
IsDeedLong n (deed.FoundEmpty q) = ⊤

-- the header that is kept of a packet is a word of 32 bits
abbrev pub IsHeadWord : PacketHead → Type 0
IsHeadWord p = p.header < 2 ^ 32

-- of an item, where it is a packet
abbrev pub IsItemWord : ItemHead → Type 0
IsItemWord (head.Packet mark p) = IsHeadWord p
IsItemWord (head.Frame can) = ⊤
IsItemWord (head.Note _) = ⊤

-- of a deed, where a packet was moved or stayed
abbrev pub IsDeedWord : Deed → Type 0
IsDeedWord deed.Rested = ⊤
IsDeedWord (deed.Took p) = IsHeadWord p
IsDeedWord deed.FoundNoBuffer = ⊤
IsDeedWord (deed.Gave p) = IsHeadWord p
IsDeedWord (deed.FoundPoolFull p) = IsHeadWord p
IsDeedWord (deed.Pushed q i) = IsItemWord i
IsDeedWord (deed.FoundFull q i) = IsItemWord i
IsDeedWord (deed.Popped q i) = IsItemWord i
IsDeedWord (deed.FoundEmpty q) = ⊤

-- the bytes and the events of a row
abbrev pub bytes_in : List ℕ → LogRow → List ℕ
bytes_in bytes r = slice_range bytes r.first_byte (r.first_byte + r.bytes)

-- the events of a row, in the list that it points into
abbrev pub events_in : List Event → LogRow → List Event
events_in events r = slice_range events r.first_event (r.first_event + r.events)

-- the entry of a row
abbrev pub row_entry : List ℕ → List Event → LogRow → Entry
row_entry bytes events r = entry_with r.time (draft_of (bytes_in bytes r) (trace_of r.trail) r.deed) (events_in events r)

-- the entry of a turn that carried and reported nothing
abbrev pub idle_entry : ℕ → Deed → Entry
idle_entry time d = entry_with time (draft_of [] no_trace d) []

-- the entry of a row, and an idle one where there is none
abbrev pub kept_entry : List ℕ → List Event → Option LogRow → Entry
kept_entry bytes events None = idle_entry 0 deed.Rested
kept_entry bytes events (Some r) = row_entry bytes events r

-- the entry of a line: of what it says, or of its row
abbrev pub entry_at : List LogRow → List ℕ → List Event → Line → Entry
entry_at rows bytes events (line.Rested time) = idle_entry time deed.Rested
entry_at rows bytes events (line.FoundNoBuffer time) = idle_entry time deed.FoundNoBuffer
entry_at rows bytes events (line.FoundEmpty q time) = idle_entry time (deed.FoundEmpty q)
entry_at rows bytes events (line.Kept k) = kept_entry bytes events (slice_get rows k)

-- what a line says of a deed by itself: where nothing was told besides, that nothing was done or found
abbrev pub spoken_of : (quiet : Bool) → ℕ → Deed → Option Line
spoken_of false time d = None
spoken_of true time deed.Rested = Some (line.Rested time)
spoken_of true time deed.FoundNoBuffer = Some (line.FoundNoBuffer time)
spoken_of true time (deed.FoundEmpty q) = Some (line.FoundEmpty q time)
spoken_of true time _ = None

-- a row's bytes and events stand in the lists, and its header is a word
pub record IsRowIn (bytes events : ℕ) (r : LogRow) : Type 0 where
  pub bytes_in : r.first_byte + r.bytes ≤ bytes
  pub fits : IsDeedLong r.bytes r.deed
  pub word : IsDeedWord r.deed
  pub short : r.bytes ≤ MAX_FRAME
  pub events_in : r.first_event + r.events ≤ events
  pub few : r.events ≤ MAX_EVENTS

-- a list has these bytes from there on: those that it had before, and more only at its end, none where it ended with them
pub record IsKeptIn (before after carried : List ℕ) (first : ℕ) : Type 0 where
  pub more : List ℕ
  pub after_is : after ≡ before ++ more
  pub inside : first + length carried ≤ length after
  pub there : slice_range after first (first + length carried) ≡ carried
  pub once : (front : List ℕ) → before ≡ front ++ carried → after ≡ before

-- a line's row stands in the list
abbrev pub IsLineIn : ℕ → Line → Type 0
IsLineIn rows (line.Rested _) = ⊤
IsLineIn rows (line.FoundNoBuffer _) = ⊤
IsLineIn rows (line.FoundEmpty _ _) = ⊤
IsLineIn rows (line.Kept k) = k < rows

-- the line of a turn shows it, with the rows, bytes and events that were kept for it at the ends of the lists; bytes with which the
-- list ended are not kept again
pub record Says (rows : List LogRow) (bytes : List ℕ) (events : List Event) (time : ℕ) (carried : List ℕ) (draft : PlainDraft) (told : List Event) (said : Line) (rows_after : List LogRow) (bytes_after : List ℕ) (events_after : List Event) : Type 0 where
  pub rows_more : List LogRow
  pub bytes_more : List ℕ
  pub events_more : List Event
  pub rows_are : rows_after ≡ rows ++ rows_more
  pub bytes_are : bytes_after ≡ bytes ++ bytes_more
  pub events_are : events_after ≡ events ++ events_more
  pub told_are : events_more ≡ told
  pub once : (front : List ℕ) → bytes ≡ front ++ carried → bytes_after ≡ bytes
  pub few : length rows_more ≤ 1
  pub inside : All (IsRowIn (length bytes_after) (length events_after)) rows_more
  pub said_in : IsLineIn (length rows_after) said
  pub shows : entry_at rows_after bytes_after events_after said ≡ entry_with time draft told
