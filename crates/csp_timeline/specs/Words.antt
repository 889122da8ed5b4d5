-- The words of a line: each with a space before it.
use Rattle.std.specs.Prelude.{ℕ, ◌==◌, if◌then◌else◌, Option, Some, None, List, [], ◌∷◌, ◌++◌, codes}
use Rattle.std.specs.Fmt.{decimal}
use Rattle.std.specs.Int.{w32, to_be_bytes}
use Rattle.hex.specs.Hex.{encode_lower}
use Rattle.csp_base.specs.Priority.{prio_number}
use Rattle.csp_base.specs.declared.priority.Prio.{Prio}
use Rattle.csp_base.specs.declared.traces.Origin.{Origin}
use Rattle.csp_base.specs.declared.traces.Tag.{Tag}
use Rattle.csp_happenings.specs.declared.kinds.Kind.{Kind}
use Rattle.csp_happenings.specs.declared.kinds.Kind.TheVariants as kind
use Rattle.csp_happenings.specs.declared.kinds.Parcel.{Parcel}
use Rattle.csp_log.specs.declared.framed.Piece.{Piece}
use Rattle.csp_header.specs.Word.{header_at}
use Rattle.csp_header.specs.declared.word.Header.{Header}
use Rattle.csp_link.specs.declared.fates.Fate.{Fate}
use Rattle.csp_log.specs.declared.event.Event.{Event}
use Rattle.csp_log.specs.declared.event.Event.TheVariants as event
use Rattle.csp_log.specs.declared.note.Note.{Note}
use Rattle.csp_log.specs.declared.note.Note.TheVariants as note
use Rattle.csp_log.specs.declared.note.Why.{Why}
use Rattle.csp_log.specs.declared.places.TheConstants.{UNMARKED}
use Rattle.csp_report.specs.Blobs.{crc_word, word_of_bad_piece}
use Rattle.csp_report.specs.Events.{word_of, word_of_refusal}
use Rattle.csp_scene.specs.Scene.{PlainScene}
use Rattle.csp_sfp.specs.declared.errors.SfpError.{SfpError}
use Rattle.csp_timeline.specs.Labels.{node_name, iface_label, app_name}

-- a word
abbrev pub word : List ℕ → List ℕ
word w = 32 ∷ w

-- a number, by its name
abbrev pub numbered : List ℕ → ℕ → List ℕ
numbered w n = 32 ∷ (w ++ 32 ∷ decimal n)

-- eight bits, in two hexadecimal digits, by their name
abbrev pub hex_pair : List ℕ → ℕ → List ℕ
hex_pair w byte = 32 ∷ (w ++ 32 ∷ encode_lower (byte ∷ []))

-- ---- packets and frames

-- an address and a port: `ADDR:PORT`
abbrev pub end_word : (addr port : ℕ) → List ℕ
end_word addr port = decimal addr ++ 58 ∷ decimal port

-- who sends a packet to whom: ` SRC:SPORT>DST:DPORT`
abbrev pub ends_words : Header → List ℕ
ends_words h = 32 ∷ (end_word h.src h.sport ++ 62 ∷ end_word h.dst h.dport)

-- a header: ` SRC:SPORT>DST:DPORT pri P flags FF`
abbrev pub header_words : Header → List ℕ
header_words h = ends_words h ++ (numbered (codes "pri") (prio_number h.prio) ++ hex_pair (codes "flags") h.flags.0)

-- the transmission that it came by: ` from NODE/LINK SERIAL`
abbrev pub origin_words : PlainScene → Option Origin → List ℕ
origin_words scene None = []
origin_words scene (Some o) = word (codes "from") ++ (word (iface_label scene o.node o.iface) ++ word (decimal o.serial))

-- what a packet is to its reliable connection
abbrev pub kind_word : Kind → List ℕ
kind_word kind.Syn = codes "syn"
kind_word kind.Rst = codes "rst"
kind_word kind.Eak = codes "eak"
kind_word kind.Ack = codes "ack"
kind_word kind.Data = codes "data"
kind_word kind.Short = codes "short"

-- its flow, and its numbers there: ` rdp NODE NTH KIND INDEX upto ACK`
abbrev pub tag_words : PlainScene → List ℕ → Option Tag → List ℕ
tag_words scene which None = []
tag_words scene which (Some t) =
    word (codes "rdp") ++ (numbered (node_name scene t.node) t.nth ++ (numbered which t.index ++ numbered (codes "upto") t.ack))

-- a packet
abbrev pub packet_words : PlainScene → Parcel → List ℕ
packet_words scene p =
    header_words (header_at p.header)
    ++ (numbered (codes "len") p.len ++ (origin_words scene p.trace.origin ++ tag_words scene (kind_word p.kind) p.trace.tag))

-- a packet, if there is one
abbrev pub some_packet_words : PlainScene → Option Parcel → List ℕ
some_packet_words scene None = []
some_packet_words scene (Some p) = packet_words scene p

-- the identifier of a frame of a CAN link, in eight hexadecimal digits
abbrev pub can_words : Option ℕ → List ℕ
can_words None = []
can_words (Some id) = word (codes "id") ++ word (encode_lower (to_be_bytes w32 id))

-- a frame
abbrev pub frame_words : PlainScene → Piece → List ℕ
frame_words scene f =
    numbered (codes "len") f.len
    ++ (can_words f.can ++ (origin_words scene f.trace.origin ++ tag_words scene (codes "index") f.trace.tag))

-- a number that is not 0, by its name
abbrev pub some_words : List ℕ → ℕ → List ℕ
some_words w n = if n == 0 then [] else numbered w n

-- the bit that was changed
abbrev pub flip_words : Option ℕ → List ℕ
flip_words None = []
flip_words (Some bit) = numbered (codes "flipped") bit

-- what becomes of a frame: nothing else is told of one that is lost
abbrev pub fate_words : Fate → List ℕ
fate_words fate =
    if fate.lost then word (codes "lost")
    else some_words (codes "repeated") fate.repeats ++ (some_words (codes "delayed") fate.delay ++ flip_words fate.flip)

-- ---- notes and events

-- the own port that is asked for
abbrev pub from_words : Option ℕ → List ℕ
from_words None = []
from_words (Some port) = numbered (codes "from") port

-- the node and the port that a connection is asked for to
abbrev pub dest_words : (dest port : ℕ) → List ℕ
dest_words dest port = numbered (codes "to") dest ++ numbered (codes "port") port

-- a word, and a slot
abbrev pub slotted : List ℕ → (slot : ℕ) → List ℕ
slotted w slot = word w ++ numbered (codes "slot") slot

-- a connection that is asked for, on which slot and where to
abbrev pub target_words : (slot dest port : ℕ) → List ℕ
target_words slot dest port = slotted (codes "connect") slot ++ dest_words dest port

-- its priority, its flags, and the own port that is asked for
abbrev pub terms_words : Prio → (flags : ℕ) → Option ℕ → List ℕ
terms_words prio flags from = numbered (codes "pri") (prio_number prio) ++ (hex_pair (codes "flags") flags ++ from_words from)

-- what is asked, or answered
abbrev pub note_words : Note → List ℕ
note_words (note.Bind port need) = numbered (codes "bind") port ++ hex_pair (codes "flags") need
note_words (note.Connect slot dest port prio flags from) = target_words slot dest port ++ terms_words prio flags from
note_words (note.Close slot) = numbered (codes "close") slot
note_words note.Bound = word (codes "bound")
note_words (note.Connected slot) = numbered (codes "connected") slot
note_words (note.Refused why) = word (codes "refused") ++ word (word_of_refusal why)
note_words (note.Closed slot) = numbered (codes "closed") slot
note_words (note.Down slot) = numbered (codes "down") slot

-- a packet that an application sends: on a slot, where its header is yet to be written, or as it is
abbrev pub sent_words : PlainScene → ℕ → Parcel → List ℕ
sent_words scene mark p =
    if mark == UNMARKED then word (codes "raw") ++ packet_words scene p
    else numbered (codes "slot") mark ++ numbered (codes "len") p.len

-- the peer's flow: ` peer NODE NTH`
abbrev pub peer_words : PlainScene → Option (ℕ × ℕ) → List ℕ
peer_words scene None = []
peer_words scene (Some flow) = word (codes "peer") ++ numbered (node_name scene flow.0) flow.1

-- what kind of connection is open
abbrev pub opened_words : PlainScene → Option ℕ → Option (ℕ × ℕ) → List ℕ
opened_words scene None peer = word (codes "plain")
opened_words scene (Some nth) peer = numbered (codes "rdp") nth ++ peer_words scene peer

-- a connection of an application of this node, by its slot
abbrev pub opens_words : PlainScene → (app : ℕ × ℕ) → (slot : ℕ) → Option ℕ → Option (ℕ × ℕ) → List ℕ
opens_words scene app slot nth peer = codes "opens" ++ (numbered (app_name scene app.0 app.1) slot ++ opened_words scene nth peer)

-- a reliable connection that is handed a packet: the last index that it delivered, and the least that is not acknowledged
abbrev pub hands_words : (nth cur una : ℕ) → List ℕ
hands_words nth cur una = codes "hands" ++ (numbered (codes "rdp") nth ++ (numbered (codes "at") cur ++ numbered (codes "una") una))

-- what became of a step
abbrev pub step_words : (verb : List ℕ) → ℕ → List ℕ
step_words verb step = verb ++ numbered (codes "step") step

-- what became of a packet of a slot
abbrev pub slot_words : (verb : List ℕ) → ℕ → List ℕ
slot_words verb slot = verb ++ numbered (codes "slot") slot

-- a verb and a number
abbrev pub number_words : (verb : List ℕ) → ℕ → List ℕ
number_words verb n = verb ++ word (decimal n)

-- a step whose request was refused
abbrev pub refused_words : (step : ℕ) → Why → List ℕ
refused_words step why = step_words (codes "refused") step ++ word (word_of_refusal why)

-- a blob of a slot that is whole: its length in bytes, and its CRC-32C in eight hexadecimal digits
abbrev pub blob_words : (slot len crc : ℕ) → List ℕ
blob_words slot len crc = slot_words (codes "blob") slot ++ (numbered (codes "len") len ++ (word (codes "crc") ++ word (crc_word crc)))

-- a piece of a blob that was refused on a slot
abbrev pub bad_piece_words : (slot : ℕ) → SfpError → List ℕ
bad_piece_words slot reason = slot_words (codes "badblob") slot ++ word (word_of_bad_piece reason)

-- what a party of the node in this place reports
abbrev pub event_words : PlainScene → (node : ℕ) → Event → List ℕ
event_words scene node (event.TookEmpty step) = step_words (codes "empty") step
event_words scene node (event.Sent slot ordinal) = slot_words (codes "sent") slot
event_words scene node (event.Took slot ordinal) = slot_words (codes "took") slot
event_words scene node (event.BlobTook slot ordinal len crc) = blob_words slot len crc
event_words scene node (event.BlobRefused slot ordinal reason) = bad_piece_words slot reason
event_words scene node (event.Refused step why) = refused_words step why
event_words scene node (event.GaveUp step) = step_words (codes "gaveup") step
event_words scene node (event.SlotDown step) = step_words (codes "slotdown") step
event_words scene node (event.Discarded why) = codes "discards" ++ word (word_of why)
event_words scene node (event.Handed nth peer tag cur una) = hands_words nth cur una
event_words scene node (event.Opened app slot nth peer) = opens_words scene (node, app) slot nth peer
event_words scene node (event.Transmitted serial) = number_words (codes "transmits") serial
event_words scene node (event.Bad count) = number_words (codes "bad") count
event_words scene node event.Starved = codes "starved"
event_words scene node event.InboxFull = codes "inboxfull"
event_words scene node event.TooBig = codes "toobig"
event_words scene node event.Reboot = codes "reboot"
event_words scene node event.Shutdown = codes "shutdown"
