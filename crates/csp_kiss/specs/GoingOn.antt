-- How far a reader goes on in bytes that came together: up to the first packet.
use Rattle.std.specs.Prelude.{◌≡◌, ℕ, ⊤, List, [], ◌∷◌, ◌++◌, length, take, drop, slice_get, Option, Some, None}
use Rattle.std.specs.List.{AllByRecursion, filter_map, fold, position_or_len, range_with_len}
use Rattle.std.specs.Option.{is_some}
use Rattle.csp_kiss.specs.declared.event.KissEvent.{KissEvent}
use Rattle.csp_kiss.specs.declared.event.KissEvent.TheVariants.{Packet, TooLong, Short, BadCrc}
use Rattle.csp_kiss.specs.declared.progress.KissPacket.{KissPacket}
use Rattle.csp_kiss.specs.Reading.{Reading, after, answers}

-- the packet that an event brings: none where a piece is refused
abbrev pub packet_of : KissEvent → Option KissPacket
packet_of (Packet header payload) = Some (record { header = header; payload = payload })
packet_of TooLong = None
packet_of Short = None
packet_of (BadCrc _ _) = None

-- the packets among all that a reader answers to some bytes
abbrev pub packets_in : Reading → List ℕ → List KissPacket
packets_in reading bytes = filter_map packet_of (answers reading bytes)

-- how many of some bytes come up to the first packet: the fewest that are answered with one, or all where none of fewer are
abbrev pub bytes_to_packet : Reading → List ℕ → ℕ
bytes_to_packet reading bytes = position_or_len (λ count. is_some (slice_get (packets_in reading (take count bytes)) 0)) (range_with_len 0 (length bytes))

-- how far some bytes were read
pub record Progress : Type 0 where
  -- how many pieces are refused on the way
  pub refused : ℕ
  -- the packet that is whole, where one is
  pub packet : Option KissPacket
  -- what is kept of the stream
  pub reading : Reading
  -- the bytes after the packet, which are not read
  pub left : List ℕ

-- some bytes are read up to the first packet, or to their end
unfoldable pub read_on : Reading → List ℕ → Progress
read_on reading bytes =
    let used = bytes_to_packet reading bytes in
    record {
      refused = position_or_len (λ event. is_some (packet_of event)) (answers reading bytes);
      packet = slice_get (packets_in reading bytes) 0;
      reading = fold after reading (take used bytes);
      left = drop used bytes;
    }

-- a piece is refused
abbrev pub IsRefusal : KissEvent → Type 0
IsRefusal (Packet _ _) = ⊥
IsRefusal TooLong = ⊤
IsRefusal Short = ⊤
IsRefusal (BadCrc _ _) = ⊤

-- the event of a packet
abbrev pub event_for : Option KissPacket → List KissEvent
event_for None = []
event_for (Some p) = Packet p.header p.payload ∷ []

-- the events gain so many refused pieces, and then this packet, where there is one
pub record Gains (before after : List KissEvent) (refused : ℕ) (packet : Option KissPacket) : Type 0 where
  pub refusals : List KissEvent
  pub counted : length refusals ≡ refused
  pub are_refused : AllByRecursion IsRefusal refusals
  pub gained : after ≡ before ++ (refusals ++ event_for packet)
