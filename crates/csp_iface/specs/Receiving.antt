-- what an interface makes of a frame that it popped, and of what it reads on
use Rattle.std.specs.Prelude.{ℕ, ◌+◌, ◌==◌, if◌then◌else◌, Option, Some, None, unwrap_or}
use Rattle.std.specs.Option.{option_map}
use Rattle.csp_base.specs.declared.traces.Trace.{Trace}
use Rattle.csp_can.specs.Identifiers.{identifier_of}
use Rattle.csp_can.specs.Listening.{Listening, answered, listened}
use Rattle.csp_can.specs.Rules.{Arrival, arrival}
use Rattle.csp_can.specs.declared.answers.CanEvent.{CanEvent}
use Rattle.csp_can.specs.declared.answers.CanEvent.TheVariants as can
use Rattle.csp_iface.specs.Keeping.{PlainStream}
use Rattle.csp_iface.specs.declared.packet.WholePacket.{WholePacket}
use Rattle.csp_iface.specs.declared.receiver.Receiver.{Receiver}
use Rattle.csp_iface.specs.declared.receiver.Receiver.TheVariants as by
use Rattle.csp_iface.specs.declared.receiver.TheConstants.{MAX_HOPS}
use Rattle.csp_kiss.specs.GoingOn.{read_on, Progress}
use Rattle.csp_kiss.specs.declared.progress.KissPacket.{KissPacket}
use Rattle.csp_log.specs.declared.frame.Frame.{Frame}

-- the trace of what came in a frame: the frame's origin and tag, and one hop more
abbrev pub arrived : Trace → Trace
arrived t = record { origin = t.origin; hops = t.hops + 1; tag = t.tag }

-- what hearing comes to: what is kept from then on, the packet that is whole, and how many pieces or frames are refused
pub record Heard : Type 0 where
  pub receiver : Receiver
  pub whole : Option WholePacket
  pub refused : ℕ

-- a frame on a KISS link is in hand, and nothing of it is read yet
abbrev pub in_hand : PlainStream → Frame → Heard
in_hand s f = record { receiver = by.Kiss (record { reading = s.reading; rest = f.bytes.items; trace = arrived f.trace }); whole = None; refused = 0 }

-- the packet that a frame of a CAN bus made whole, with the trace of its BEGIN frame
abbrev pub packet_of : CanEvent → Option WholePacket
packet_of (can.Whole header payload trace) = Some (record { header = header; payload = payload; trace = trace })
packet_of can.Part = None
packet_of can.NoBegin = None
packet_of can.ShortBegin = None
packet_of can.BadRemain = None
packet_of can.TooMuch = None
packet_of can.TooLong = None
packet_of can.NoRoom = None

-- whether it was refused
abbrev pub refused_by : CanEvent → ℕ
refused_by (can.Whole _ _ _) = 0
refused_by can.Part = 0
refused_by can.NoBegin = 1
refused_by can.ShortBegin = 1
refused_by can.BadRemain = 1
refused_by can.TooMuch = 1
refused_by can.TooLong = 1
refused_by can.NoRoom = 1

-- a frame of a CAN bus comes to its partial packet
abbrev pub reassembled : Listening → Arrival → Heard
reassembled l a = record { receiver = by.Can (listened l a); whole = packet_of (answered l a).event; refused = refused_by (answered l a).event }

-- a frame that was popped, by the kind of the link
abbrev pub frame_read : ℕ → Receiver → Frame → Heard
frame_read now (by.Kiss s) f = in_hand s f
frame_read now (by.Can l) f = reassembled l (arrival (identifier_of (unwrap_or f.can 0)) f.bytes.items (arrived f.trace) now)

-- a frame at the last hop number is used up at once, as one that is refused
abbrev pub frame_heard : ℕ → Receiver → Frame → Heard
frame_heard now r f = if f.trace.hops == MAX_HOPS then record { receiver = r; whole = None; refused = 1 } else frame_read now r f

-- a packet of a stream, with its trace
abbrev pub traced : Trace → KissPacket → WholePacket
traced trace p = record { header = p.header; payload = p.payload; trace = trace }

-- what a stream gives where it is read on to its next packet
abbrev pub followed : Trace → Progress → Heard
followed trace p = record { receiver = by.Kiss (record { reading = p.reading; rest = p.left; trace = trace }); whole = option_map (traced trace) p.packet; refused = p.refused }

-- the frame in hand is read on, until a packet is whole or the frame is used up; of a CAN bus no frame is ever in hand
abbrev pub read_further : Receiver → Heard
read_further (by.Kiss s) = followed s.trace (read_on s.reading s.rest)
read_further (by.Can l) = record { receiver = by.Can l; whole = None; refused = 0 }
