-- the frames of a transmission
use Rattle.std.specs.Prelude.{ℕ, ◌%◌, ◌==◌, Bool, true, false, if◌then◌else◌, List, [], ◌∷◌, map, Some, None}
use Rattle.csp_base.specs.declared.traces.Trace.{Trace}
use Rattle.csp_buffer.specs.Content.{Content}
use Rattle.csp_can.specs.Fragments.{fragments_of}
use Rattle.csp_can.specs.Frames.{written}
use Rattle.csp_can.specs.declared.frames.CanFrame.{CanFrame}
use Rattle.csp_header.specs.Word.{header_at}
use Rattle.csp_iface.specs.declared.sender.TheConstants.{IDS}
use Rattle.csp_kiss.specs.Frame.{frame}
use Rattle.csp_log.specs.declared.frame.Frame.{Frame}
use Rattle.csp_log.specs.declared.places.LinkKind.{LinkKind}
use Rattle.csp_log.specs.declared.places.LinkKind.TheVariants as link
use Rattle.csp_log.specs.declared.places.TheConstants.{UNMARKED}

-- the trace of each frame of the transmission with this number: where it began, and the packet's own hops and tag
abbrev pub sent_trace : (node number serial : ℕ) → Trace → Trace
sent_trace node number serial t = record { origin = Some (record { node = node; iface = number; serial = serial }); hops = t.hops; tag = t.tag }

-- the node that is to have a packet next: the next hop that its mark names, else its own destination
abbrev pub next_node : (mark header : ℕ) → ℕ
next_node mark header = if mark == UNMARKED then (header_at header).dst else mark

-- the one frame of a packet on a KISS link, whose CRC covers the header or not
abbrev pub kiss_frame : (cover : Bool) → Content → Trace → Frame
kiss_frame cover b trace = record { can = None; bytes = record { items = frame cover b.header b.payload }; trace = trace }

-- a frame of a CAN bus, with its trace
abbrev pub can_frame : Trace → CanFrame → Frame
can_frame trace f = record { can = Some f.id; bytes = record { items = f.bytes.items }; trace = trace }

-- the frames of a packet by the kind of the link: on a CAN bus its fragments, with the transmission's number modulo IDS
abbrev pub frames_of : LinkKind → (serial next : ℕ) → Content → Trace → List Frame
frames_of link.Kiss serial next b trace = kiss_frame false b trace ∷ []
frames_of link.KissHeader serial next b trace = kiss_frame true b trace ∷ []
frames_of link.Can serial next b trace = map (can_frame trace) (map written (fragments_of b.header b.payload next (serial % IDS)))
