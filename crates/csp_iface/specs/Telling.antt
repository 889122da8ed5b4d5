-- what an interface becomes when it is told its answer, and what it reports
use Rattle.std.specs.Prelude.{ℕ, ◌+◌, ◌==◌, ◌||◌, Bool, true, false, nat_lt, if◌then◌else◌, Option, Some, None, List, [], ◌∷◌, ◌++◌, length}
use Rattle.std.specs.Option.{is_some}
use Rattle.csp_buffer.specs.Content.{Content}
use Rattle.csp_iface.specs.Heeding.{is_for}
use Rattle.csp_iface.specs.PlainIface.{PlainIface}
use Rattle.csp_iface.specs.Receiving.{Heard, frame_heard, read_further}
use Rattle.csp_iface.specs.Sending.{sent_trace, next_node, frames_of}
use Rattle.csp_iface.specs.declared.packet.WholePacket.{WholePacket}
use Rattle.csp_iface.specs.declared.plan.IfacePlan.{IfacePlan}
use Rattle.csp_iface.specs.declared.plan.IfacePlan.TheVariants as plan
use Rattle.csp_log.specs.declared.event.Event.{Event}
use Rattle.csp_log.specs.declared.event.Event.TheVariants as event
use Rattle.csp_log.specs.declared.frame.Frame.{Frame}
use Rattle.csp_log.specs.declared.shown.ItemShown.{ItemShown}
use Rattle.csp_log.specs.declared.shown.ItemShown.TheVariants as item
use Rattle.csp_log.specs.declared.shown.AnswerShown.{AnswerShown}
use Rattle.csp_log.specs.declared.shown.AnswerShown.TheVariants as answer

-- what an answer makes of an interface, what it reports, and how many pieces or frames it refused
pub record Outcome : Type 0 where
  pub iface : PlainIface
  pub events : List Event
  pub refused : ℕ

-- nothing is reported
abbrev pub quiet : PlainIface → Outcome
quiet s = record { iface = s; events = []; refused = 0 }

-- this is reported
abbrev pub reports : Event → PlainIface → Outcome
reports e s = record { iface = s; events = e ∷ []; refused = 0 }

-- the buffer in an item
abbrev pub packet_in : ItemShown → Option Content
packet_in (item.Packet _ b) = Some b
packet_in (item.Frame _) = None
packet_in (item.Note _) = None

-- the whole packet in a cleared buffer
abbrev pub filled : Option WholePacket → Content → Content
filled (Some p) b = record { number = b.number; header = p.header; payload = p.payload.items; trace = p.trace }
filled None b = b

-- a frame was pushed: after the last, the buffer is to be given back
abbrev pub pushed : List Frame → PlainIface → PlainIface
pushed [] s = record s { back = s.sending; sending = None }
pushed (_ ∷ _) s = s

-- a frame comes back
abbrev pub kept : ItemShown → PlainIface → PlainIface
kept (item.Frame f) s = record s { frames = f ∷ s.frames }
kept (item.Packet _ _) s = s
kept (item.Note _) s = s

-- the transmission of a packet begins: its frames are those of this link, and its number is the next
abbrev pub begun : ℕ → Content → PlainIface → PlainIface
begun mark b s = record s {
  sending = Some b;
  frames = frames_of s.kind s.serial (next_node mark b.header) b (sent_trace s.node s.number s.serial b.trace);
  serial = s.serial + 1;
}

-- a packet has a longer payload than its link takes
abbrev pub is_too_big : PlainIface → Content → Bool
is_too_big s b = nat_lt s.mtu (length b.payload)

-- a packet that is to be sent: its transmission begins; one that is too big makes no frame and no transmission, and its buffer is to be given back
abbrev pub taken_up : (too_big : Bool) → ℕ → Content → PlainIface → Outcome
taken_up true mark b s = reports event.TooBig (record s { back = Some b })
taken_up false mark b s = reports (event.Transmitted s.serial) (begun mark b s)

-- an item of `Out`
abbrev pub fetched : ItemShown → PlainIface → Outcome
fetched (item.Packet mark b) s = taken_up (is_too_big s b) mark b s
fetched (item.Frame _) s = quiet s
fetched (item.Note _) s = quiet s

-- what was heard is kept
abbrev pub hearing : Heard → PlainIface → Outcome
hearing h s = record { iface = record s { receiver = h.receiver; whole = h.whole }; events = []; refused = h.refused }

-- nothing was heard
abbrev pub unmoved : PlainIface → Heard
unmoved s = record { receiver = s.receiver; whole = s.whole; refused = 0 }

-- an item of `Rx`: a frame for the interface is heard, and one for another node of a hub is used up at once
abbrev pub caught : ℕ → ItemShown → PlainIface → Outcome
caught now (item.Frame f) s = hearing (if is_for s.heeds f then frame_heard now s.receiver f else unmoved s) s
caught now (item.Packet _ _) s = quiet s
caught now (item.Note _) s = quiet s

-- what each answer makes of it
abbrev pub after_answer : PlainIface → ℕ → IfacePlan → AnswerShown → Outcome
-- 1. a buffer is given back; from a full pool it comes back, and is still to be given
after_answer s now plan.Return answer.Given = quiet s
after_answer s now plan.Return (answer.PoolFull b) = quiet (record s { back = Some b })
-- 2. an accepted packet is pushed; at a full inbox its buffer is to be given back
after_answer s now plan.Deliver answer.Pushed = quiet s
after_answer s now plan.Deliver (answer.Full i) = reports event.InboxFull (record s { back = packet_in i })
-- 3. a whole packet takes a buffer; without one it is dropped
after_answer s now plan.Take (answer.Taken b) = quiet (record s { accepted = Some (filled s.whole b); whole = None })
after_answer s now plan.Take answer.NoBuffer = reports event.Starved (record s { whole = None })
-- 4. a frame is pushed, or kept
after_answer s now plan.Transmit answer.Pushed = quiet (pushed s.frames s)
after_answer s now plan.Transmit (answer.Full i) = quiet (kept i s)
-- 4. the next packet is fetched
after_answer s now plan.Fetch (answer.Popped i) = fetched i s
after_answer s now plan.Fetch answer.Empty = quiet s
-- 4. a frame is popped
after_answer s now plan.Receive (answer.Popped i) = caught now i s
after_answer s now plan.Receive answer.Empty = quiet s
-- no other answer comes
after_answer s now _ _ = quiet s

-- a packet is in hand, until its push, its Full or its NoBuffer
abbrev pub has_packet : PlainIface → Bool
has_packet s = is_some s.whole || is_some s.accepted

-- after its operation an interface reads on in the frame in hand, but nothing while a packet is in hand
abbrev pub going_on : Bool → PlainIface → Heard
going_on true s = unmoved s
going_on false s = read_further s.receiver

-- the interface once it has read on, to the next packet or the frame's end
abbrev pub read_after : PlainIface → Heard
read_after s = going_on (has_packet s) s

-- what was read on is kept, and adds to what was refused
abbrev pub adding : Heard → Outcome → Outcome
adding h o = record { iface = record o.iface { receiver = h.receiver; whole = h.whole }; events = o.events; refused = o.refused + h.refused }

-- the turn's operation is over
abbrev pub resting : PlainIface → PlainIface
resting s = record s { doing = plan.Rest }

-- what an answer comes to, before any reading
abbrev pub answered : PlainIface → ℕ → AnswerShown → Outcome
answered s now a = after_answer (resting s) now s.doing a

-- what it comes to with the reading after it
abbrev pub concluded : PlainIface → ℕ → AnswerShown → Outcome
concluded s now a = adding (read_after (answered s now a).iface) (answered s now a)

-- the interface after an answer
abbrev pub tells : PlainIface → ℕ → AnswerShown → PlainIface
tells s now a = (concluded s now a).iface

-- all that was refused in one turn is one event with its number
abbrev pub bad : ℕ → List Event
bad n = if n == 0 then [] else event.Bad n ∷ []

-- what an interface reports of an answer: its events, and how much it refused
abbrev pub events : PlainIface → ℕ → AnswerShown → List Event
events s now a = (concluded s now a).events ++ bad (concluded s now a).refused
