-- The lines of events.
use Rattle.std.specs.Prelude.{ℕ, ◌+◌, ◌==◌, Bool, true, false, nat_lt, if◌then◌else◌, is_some, Option, Some, None, List, [], ◌∷◌, ◌++◌, length, codes}
use Rattle.std.specs.Fmt.{decimal}
use Rattle.std.specs.Int.{w32, to_be_bytes}
use Rattle.std.specs.Int.RustNames.{bit_and}
use Rattle.hex.specs.Hex.{encode_lower}
use Rattle.csp_base.specs.Priority.{prio_number}
use Rattle.csp_crc.specs.Check.{payload_of}
use Rattle.csp_header.specs.Word.{header_at}
use Rattle.csp_header.specs.declared.word.Header.{Header}
use Rattle.csp_kiss.specs.declared.event.KissEvent.{KissEvent}
use Rattle.csp_kiss.specs.declared.event.KissEvent.TheVariants.{Packet, TooLong, Short, BadCrc}
use Rattle.csp_rdp_header.specs.Head.{parted, seq_bytes}
use Rattle.csp_rdp_header.specs.declared.head.RdpHead.{RdpHead}
use Rattle.csp_tap.specs.Words.{words, line}

-- a number of 32 bits in eight hexadecimal digits
abbrev pub hex_word : ℕ → List ℕ
hex_word number = encode_lower (to_be_bytes w32 number)

-- bytes in hexadecimal digits, and `-` for none
abbrev pub hex_bytes : List ℕ → List ℕ
hex_bytes [] = codes "-"
hex_bytes (byte ∷ bytes) = encode_lower (byte ∷ bytes)

-- a header's priority, source and destination by their names
abbrev pub node_words : Header → List (List ℕ)
node_words h = codes "pri" ∷ decimal (prio_number h.prio) ∷ codes "src" ∷ decimal h.src ∷ codes "dst" ∷ decimal h.dst ∷ []

-- its ports and its flags
abbrev pub port_words : Header → List (List ℕ)
port_words h = codes "dport" ∷ decimal h.dport ∷ codes "sport" ∷ decimal h.sport ∷ codes "flags" ∷ encode_lower (h.flags.0 ∷ []) ∷ []

-- all its fields
abbrev pub header_words : Header → List ℕ
header_words h = words (node_words h) ++ words (port_words h)

-- a packet's length and bytes
abbrev pub payload_words : List ℕ → List (List ℕ)
payload_words payload = codes "len" ∷ decimal (length payload) ∷ hex_bytes payload ∷ []

-- a header has this flag
abbrev pub has_flag : ℕ → Header → Bool
has_flag flag h = bit_and h.flags.0 flag == flag

-- what a CRC at the end of some bytes is found to be
abbrev pub crc_word : List ℕ → List ℕ
crc_word payload = if is_some (payload_of payload) then codes "ok" else if nat_lt (length payload) 4 then codes "short" else codes "wrong"

-- the same of a packet, where the flag says that it has a CRC of its own
abbrev pub crc_words : (flag : Bool) (payload : List ℕ) → List (List ℕ)
crc_words false payload = []
crc_words true payload = codes "crc" ∷ crc_word payload ∷ []

-- the bytes before a packet's own CRC; none where that doesn't stand
abbrev pub before_crc : (flag : Bool) (payload : List ℕ) → Option (List ℕ)
before_crc false payload = Some payload
before_crc true payload = payload_of payload

-- the fields of a head of the reliable transport
abbrev pub field_words : RdpHead → List (List ℕ)
field_words head = encode_lower (head.flags ∷ []) ∷ encode_lower (seq_bytes head.seq) ∷ encode_lower (seq_bytes head.ack) ∷ []

-- the same, where bytes have a head at their end
abbrev pub head_words : Option (List ℕ × RdpHead) → List (List ℕ)
head_words None = codes "short" ∷ []
head_words (Some (before, head)) = field_words head

-- the head at the end of these bytes, where the flag says that there is one
abbrev pub rdp_words : (flag : Bool) → Option (List ℕ) → List (List ℕ)
rdp_words flag None = []
rdp_words false (Some bytes) = []
rdp_words true (Some bytes) = codes "rdp" ∷ head_words (parted bytes)

-- what the flags say of a payload: 0x01 that it ends with a CRC of its own, and 0x02 that it is of the reliable transport
abbrev pub layer_words : Header → List ℕ → List ℕ
layer_words h payload =
    let crc = has_flag 0x01 h in
    words (crc_words crc payload) ++ words (rdp_words (has_flag 0x02 h) (before_crc crc payload))

-- how the line of a packet begins
abbrev pub packet_start : (number header : ℕ) → List ℕ
packet_start number header = codes "packet" ++ words (decimal number ∷ hex_word header ∷ [])

-- the line of a packet
abbrev pub packet_line : (number header : ℕ) (payload : List ℕ) → List ℕ
packet_line number header payload =
    let h = header_at header in
    packet_start number header ++ (header_words h ++ (words (payload_words payload) ++ (layer_words h payload ++ 10 ∷ [])))

-- the line of the event of this number
abbrev pub event_line : (number : ℕ) → KissEvent → List ℕ
event_line number (Packet header payload) = packet_line number header payload.items
event_line number TooLong = line (codes "toolong") (decimal number ∷ [])
event_line number Short = line (codes "short") (decimal number ∷ [])
event_line number (BadCrc found wanted) = line (codes "badcrc") (decimal number ∷ hex_word found ∷ hex_word wanted ∷ [])

-- the lines of events that are numbered from this number on
unfoldable pub event_lines : (number : ℕ) → List KissEvent → List ℕ
event_lines number [] = []
event_lines number (event ∷ events) = event_line number event ++ event_lines (number + 1) events
