-- What happened in a run, in the order of rounds, and in a round in the order of the parties and of their turns.
use Rattle.std.specs.Prelude.{ℕ, ◌+◌, ◌-◌, ◌%◌, ◌==◌, ◌&&◌, Bool, true, false, if◌then◌else◌, Option, Some, None, List, [], ◌∷◌, ◌++◌, length, map, filter, take, count_by, max, slice_get}
use Rattle.std.specs.List.{flat_map, fold, list_any, range_with_len}
use Rattle.std.specs.Option.{option_map_or, option_and_then}
use Rattle.csp_base.specs.declared.traces.Tag.{Tag}
use Rattle.csp_buffer.specs.Content.{Content}
use Rattle.csp_link.specs.Fates.{fate_of}
use Rattle.csp_link.specs.declared.fates.Fate.{Fate}
use Rattle.csp_link.specs.declared.fault.Fault.{Fault}
use Rattle.csp_log.specs.Moving.{moved_in}
use Rattle.csp_log.specs.Noting.{noted_in}
use Rattle.csp_log.specs.declared.entry.Entry.{Entry}
use Rattle.csp_log.specs.declared.event.Event.{Event}
use Rattle.csp_log.specs.declared.event.Event.TheVariants as event
use Rattle.csp_log.specs.declared.moved.Moved.{Moved}
use Rattle.csp_log.specs.declared.moved.Moved.TheVariants as moved
use Rattle.csp_log.specs.declared.noted.Noted.{Noted}
use Rattle.csp_log.specs.declared.noted.Noted.TheVariants as noted
use Rattle.csp_log.specs.declared.places.QueueId.{QueueId}
use Rattle.csp_log.specs.declared.places.QueueId.TheVariants as queue
use Rattle.csp_rdp_header.specs.Head.{has_flag, parted}
use Rattle.csp_rdp_header.specs.declared.head.RdpHead.{RdpHead}
use Rattle.csp_rdp_header.specs.declared.head.TheConstants.{RST, EAK, SYN}
use Rattle.csp_record.specs.Record.{PlainPartyLog, PlainRecord}
use Rattle.csp_log.specs.declared.who.Who.{Who}
use Rattle.csp_log.specs.declared.who.Who.TheVariants as who
use Rattle.csp_scene.specs.Scene.{PlainScene}
use Rattle.csp_log.specs.Framing.{framed_in, marked_in}
use Rattle.csp_log.specs.declared.framed.Framed.{Framed}
use Rattle.csp_log.specs.declared.framed.Framed.TheVariants as framed
use Rattle.csp_happenings.specs.declared.kinds.Happening.{Happening}
use Rattle.csp_happenings.specs.declared.kinds.Kind.{Kind}
use Rattle.csp_happenings.specs.declared.kinds.Kind.TheVariants as kind
use Rattle.csp_happenings.specs.declared.kinds.Parcel.{Parcel}
use Rattle.csp_happenings.specs.declared.kinds.What.{What}
use Rattle.csp_happenings.specs.declared.kinds.What.TheVariants as what

-- ---- packets and frames

-- what a packet with this head, and these bytes before it, is: by the first of these flags that stands, and where none does by whether there are bytes
abbrev pub kind_in : List ℕ → RdpHead → Kind
kind_in before head =
    if has_flag head SYN then kind.Syn
    else if has_flag head RST then kind.Rst
    else if has_flag head EAK then kind.Eak
    else if length before == 0 then kind.Ack
    else kind.Data

-- a payload without the four bytes of its checksum, where the header's lowest bit says that it has one
abbrev pub without_crc : ℕ → List ℕ → List ℕ
without_crc header payload = if header % 2 == 1 then take (length payload - 4) payload else payload

-- what a packet is to its reliable connection, by the head at the end of its payload
abbrev pub kind_of : ℕ → List ℕ → Kind
kind_of header payload = option_map_or (λ read. kind_in read.0 read.1) (parted (without_crc header payload)) kind.Short

-- between an application and its router a packet has no head, and is data
abbrev pub kind_at : QueueId → ℕ → List ℕ → Kind
kind_at (queue.Up n) header payload = kind.Data
kind_at (queue.Down n) header payload = kind.Data
kind_at queue.Inbox header payload = kind_of header payload
kind_at (queue.Out n) header payload = kind_of header payload
kind_at (queue.Tx n) header payload = kind_of header payload
kind_at (queue.Rx n) header payload = kind_of header payload

-- what is told of a packet in a queue
abbrev pub parcel_of : QueueId → Content → Parcel
parcel_of q p = record { header = p.header; len = length p.payload; kind = kind_at q p.header p.payload; trace = p.trace }

-- what is told of the packet that a turn moved, if it moved one
abbrev pub parcel_in : Moved → Option Parcel
parcel_in (moved.Pushed q p) = Some (parcel_of q p)
parcel_in (moved.Popped q p) = Some (parcel_of q p)
parcel_in moved.NoPacket = None

-- ---- what each kind of party does

-- an application asks its router, and is told
abbrev pub asked_or_told : Noted → List What
asked_or_told (noted.Pushed (queue.Up n) note) = what.Asked note ∷ []
asked_or_told (noted.Popped (queue.Down n) note) = what.Told note ∷ []
asked_or_told _ = []

-- it sends packets, and takes them
abbrev pub sent_or_took : (mark : Option ℕ) → Moved → List What
sent_or_took (Some mark) (moved.Pushed (queue.Up n) p) = what.Sent mark (parcel_of (queue.Up n) p) ∷ []
sent_or_took (Some mark) (moved.Popped (queue.Down n) p) = what.Took mark (parcel_of (queue.Down n) p) ∷ []
sent_or_took _ _ = []

-- a router answers and tells its applications
abbrev pub answered : Noted → List What
answered (noted.Pushed (queue.Down app) note) = what.Answered app note ∷ []
answered _ = []

-- an interface accepts packets
abbrev pub accepted : Moved → List What
accepted (moved.Pushed queue.Inbox p) = what.Accepted (parcel_of queue.Inbox p) ∷ []
accepted _ = []

-- a turn took a frame from this end of a link
abbrev pub is_taken : (end : ℕ) → Framed → Bool
is_taken end (framed.Popped (queue.Tx from) f) = from == end
is_taken end _ = false

-- how many frames these entries took from an end
abbrev pub taken : (end : ℕ) → List Entry → ℕ
taken end entries = count_by (λ e. is_taken end (framed_in e)) entries

-- a link or a hub takes frames, from each end the next in number with its fate, and hands frames on to its ends
abbrev pub moved_frame : (before : ℕ → ℕ) → (fate : ℕ → ℕ → Fate) → Framed → List What
moved_frame before fate (framed.Popped (queue.Tx end) f) = what.Carried end (before end + 1) (fate end (before end + 1)) f ∷ []
moved_frame before fate (framed.Pushed (queue.Rx end) f) = what.HandedOn end f ∷ []
moved_frame before fate _ = []

-- ---- transmissions

-- the packets that take a number in their flow: the one that opens it, and data
abbrev pub takes_number : Kind → Bool
takes_number kind.Syn = true
takes_number kind.Data = true
takes_number kind.Rst = false
takes_number kind.Eak = false
takes_number kind.Ack = false
takes_number kind.Short = false

-- the flow and the number that a tag names, where it is of this node
abbrev pub number_by : ℕ → Tag → Option (ℕ × ℕ)
number_by node tag = if tag.node == node then Some (tag.nth, tag.index) else None

-- the flow of this node and the number in it which a packet takes, if it takes one
abbrev pub number_of : ℕ → Parcel → Option (ℕ × ℕ)
number_of node p = if takes_number p.kind then option_and_then (number_by node) p.trace.tag else None

-- an event tells that a transmission began
abbrev pub is_beginning : Event → Bool
is_beginning (event.Transmitted serial) = true
is_beginning _ = false

-- the number that the packet takes of which an entry tells that its transmission began
abbrev pub number_in : ℕ → Entry → Option (ℕ × ℕ)
number_in node e = if list_any is_beginning e.events.items then option_and_then (number_of node) (parcel_in (moved_in e)) else None

-- two numbers of flows are the same
abbrev pub is_same : ℕ × ℕ → ℕ × ℕ → Bool
is_same n m = n.0 == m.0 && n.1 == m.1

-- some of these entries tell that a packet with this number was transmitted
abbrev pub was_sent : ℕ → List Entry → ℕ × ℕ → Bool
was_sent node entries n = list_any (λ e. option_map_or (is_same n) (number_in node e) false) entries

-- the packet of an entry is transmitted again: it takes a number with which one was transmitted before
abbrev pub is_again : ℕ → (before : List Entry) → Option Parcel → Bool
is_again node before packet = option_map_or (was_sent node before) (option_and_then (number_of node) packet) false

-- ---- what is reported

-- an event, with the packet that its turn moved; what an application sent and took is told of its own turns, and so is the packet by which a blob is whole, or which is no next piece of one
abbrev pub reported_by : (again : Bool) → Option Parcel → Event → List What
reported_by again packet (event.Transmitted serial) = what.Transmitted serial again packet ∷ []
reported_by again packet (event.Sent slot ordinal) = []
reported_by again packet (event.Took slot ordinal) = []
reported_by again packet (event.BlobTook slot ordinal len crc) = what.Reported (event.BlobTook slot ordinal len crc) None ∷ []
reported_by again packet (event.BlobRefused slot ordinal reason) = what.Reported (event.BlobRefused slot ordinal reason) None ∷ []
reported_by again packet e = what.Reported e packet ∷ []

-- events, each put so
abbrev pub reported : (What → Happening) → (again : Bool) → Option Parcel → List Event → List Happening
reported at again packet events = flat_map (λ e. map at (reported_by again packet e)) events

-- ---- all together

-- at this time, in a turn of this party
abbrev pub at : ℕ → Who → What → Happening
at time party w = record { time = time; who = party; what = w }

-- the plan of the link in a place
abbrev pub plan_of : PlainScene → ℕ → List Fault
plan_of scene place = option_map_or (λ link. link.plan) (slice_get scene.links place) []

-- the plan of a party, where it is a link
abbrev pub plan_at : PlainScene → Who → List Fault
plan_at scene (who.Link place) = plan_of scene place
plan_at scene (who.App node n) = []
plan_at scene (who.Router node) = []
plan_at scene (who.Bridge node) = []
plan_at scene (who.Iface node n) = []

-- what an application's turn was
abbrev pub app_told : (What → Happening) → Noted → (mark : Option ℕ) → Moved → List Event → List Happening
app_told at noted mark moved events = map at (asked_or_told noted) ++ (map at (sent_or_took mark moved) ++ reported at false (parcel_in moved) events)

-- what an interface's turn was
abbrev pub iface_told : (What → Happening) → (again : Bool) → Moved → List Event → List Happening
iface_told at again moved events = map at (accepted moved) ++ reported at again (parcel_in moved) events

-- what a router's turn was
abbrev pub router_told : (What → Happening) → Noted → Moved → List Event → List Happening
router_told at noted moved events = map at (answered noted) ++ reported at false (parcel_in moved) events

-- what a turn of this party was, by its entry and the entries before it: a row for each kind of party
abbrev pub told : PlainScene → (before : List Entry) → Entry → (What → Happening) → Who → List Happening
told scene before e at (who.App node n) = app_told at (noted_in e) (marked_in e) (moved_in e) e.events.items
told scene before e at (who.Router node) = router_told at (noted_in e) (moved_in e) e.events.items
told scene before e at (who.Bridge node) = reported at false (parcel_in (moved_in e)) e.events.items
told scene before e at (who.Iface node n) = iface_told at (is_again node before (parcel_in (moved_in e))) (moved_in e) e.events.items
told scene before e at (who.Link place) = map at (moved_frame (λ end. taken end before) (λ end n. fate_of end n (plan_of scene place)) (framed_in e))

-- what happened in the turn of an entry of this party
abbrev pub happened : PlainScene → Who → (before : List Entry) → Entry → List Happening
happened scene party before e = told scene before e (at e.time party) party

-- what the entries of a list tell one after the other, where these came before
unfoldable pub along_from : {X : Type 0} → (List Entry → Entry → List X) → (before : List Entry) → List Entry → List X
along_from tells before [] = []
along_from tells before (e ∷ entries) = tells before e ++ along_from tells (before ++ e ∷ []) entries

-- what happened in the turns of a party
abbrev pub happenings_of : PlainScene → PlainPartyLog → List Happening
happenings_of scene party = along_from (happened scene party.who) [] party.entries

-- the last time of these
abbrev pub latest : List Happening → ℕ
latest happenings = fold (λ last h. max last h.time) 0 happenings

-- round by round, and those of a round as they stand
abbrev pub in_rounds : List Happening → List Happening
in_rounds happenings = flat_map (λ round. filter (λ h. h.time == round) happenings) (range_with_len 0 (latest happenings + 1))

-- what happened in a run
abbrev pub happenings : PlainScene → PlainRecord → List Happening
happenings scene r = in_rounds (flat_map (happenings_of scene) r.parties)
