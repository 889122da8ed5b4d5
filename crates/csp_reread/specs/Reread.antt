-- What an end of a KISS link sent, and what is read of the bytes that it put there.
use Rattle.std.specs.Prelude.{◌≡◌, ℕ, ◌^◌, ◌<◌, ◌≤◌, Bool, true, false, if◌then◌else◌, Option, Some, None, List, [], ◌∷◌, ◌++◌, length, map}
use Rattle.std.specs.List.{flat_map, list_any}
use Rattle.csp_base.specs.declared.limits.TheConstants.{MAX_PAYLOAD}
use Rattle.csp_buffer.specs.Content.{Content}
use Rattle.csp_exports.specs.Unused.{is_transmission}
use Rattle.csp_kiss.specs.Stream.{events}
use Rattle.csp_kiss.specs.declared.event.KissEvent.{KissEvent}
use Rattle.csp_kiss.specs.declared.event.KissEvent.TheVariants as event
use Rattle.csp_kiss.specs.declared.progress.KissPacket.{KissPacket}
use Rattle.csp_log.specs.Moving.{moved_in}
use Rattle.csp_log.specs.declared.entry.Entry.{Entry}
use Rattle.csp_log.specs.declared.places.End.{End}
use Rattle.csp_log.specs.declared.places.LinkKind.{LinkKind}
use Rattle.csp_log.specs.declared.places.LinkKind.TheVariants as link
use Rattle.csp_record.specs.Record.{PlainRecord}
use Rattle.csp_record.specs.Transmissions.{fetched, iface_entries}

-- whether the CRC of a KISS link's frames covers the header; a CAN bus has no such frames
abbrev pub covers : LinkKind → Option Bool
covers link.Kiss = Some false
covers link.KissHeader = Some true
covers link.Can = None

-- a packet as it is read of a stream: its header and its payload
abbrev pub read_as : Content → KissPacket
read_as b = record { header = b.header; payload = record { items = b.payload } }

-- that of a turn which took one
abbrev pub read_of : Option Content → List KissPacket
read_of None = []
read_of (Some b) = read_as b ∷ []

-- the packet whose transmission a turn began: it was popped from an `Out`, and told to be transmitted
abbrev pub begun_by : Entry → Option Content
begun_by e = if list_any is_transmission e.events.items then fetched (moved_in e) else None

-- the packets whose transmissions these turns began, in order
abbrev pub sent_in : List Entry → List KissPacket
sent_in entries = flat_map (λ e. read_of (begun_by e)) entries

-- the packets that the interface at an end sent
abbrev pub sent_by : PlainRecord → End → List KissPacket
sent_by r end = sent_in (iface_entries r.parties end.node end.iface)

-- a packet's header is a word
abbrev pub HasWord : KissPacket → Type 0
HasWord p = p.header < 2 ^ 32

-- the event of a packet
abbrev pub packet_event : KissPacket → KissEvent
packet_event p = event.Packet p.header p.payload

-- of this stream just these packets are read, in order, and nothing else, but perhaps the last: its frame was not yet put on the link
pub record ReadsAs (cover : Bool) (stream : List ℕ) (sent : List KissPacket) : Type 0 where
  pub shown : List KissPacket
  pub waiting : List KissPacket
  pub whole : sent ≡ shown ++ waiting
  pub few : length waiting ≤ 1
  pub read : events cover MAX_PAYLOAD stream ≡ map packet_event shown
