-- An interface's turn keeps it light.
use Rattle.std.proofs.Common.{◌≡◌, ℕ, ◌≤◌, Bool, true, false, List, [], ◌∷◌, length, slice_get, Option, None, Some, refl, arith}
use Rattle.std.proofs.lemmas.Bool.{ltb-false}
use Rattle.std.proofs.lemmas.List.Elements.{All-cons, All-drop, All-head, All-nil}
use Rattle.std.specs.List.{All}
use Rattle.std.specs.Option.{option_map}
use Rattle.std.specs.Prelude.{unwrap_or, ◌==◌, ◌%◌, IfSome, if◌then◌else◌, nat_lt}
use Rattle.csp_base.specs.declared.traces.Trace.{Trace}
use Rattle.csp_buffer.specs.Content.{Content}
use Rattle.csp_can.specs.Identifiers.{identifier_of}
use Rattle.csp_can.specs.Listening.{Listening}
use Rattle.csp_can.specs.Rules.{Arrival, arrival}
use Rattle.csp_iface.specs.Asking.{asked, asks, delivered, given, handed, op_of, transmitted}
use Rattle.csp_iface.specs.Heeding.{is_for}
use Rattle.csp_iface.specs.Links.{receiver_for}
use Rattle.csp_iface.specs.PlainIface.{PlainIface, opening}
use Rattle.csp_iface.specs.Planning.{plan_of}
use Rattle.csp_iface.specs.Receiving.{Heard, arrived, followed, frame_heard, frame_read, read_further, reassembled, traced}
use Rattle.csp_iface.specs.Sending.{frames_of, kiss_frame, next_node, sent_trace}
use Rattle.csp_iface.specs.Telling as telling
use Rattle.csp_iface.specs.Telling.{tells}
use Rattle.csp_iface.specs.declared.packet.WholePacket.{WholePacket}
use Rattle.csp_iface.specs.declared.plan.IfacePlan.TheVariants as plan
use Rattle.csp_iface.specs.declared.plan.IfacePlan.{IfacePlan}
use Rattle.csp_iface.specs.declared.receiver.Receiver.TheVariants as by
use Rattle.csp_iface.specs.declared.receiver.Receiver.{Receiver}
use Rattle.csp_iface.specs.declared.receiver.TheConstants.{MAX_HOPS}
use Rattle.csp_iface.specs.declared.sender.TheConstants.{IDS}
use Rattle.csp_kiss.specs.GoingOn.{Progress, read_on}
use Rattle.csp_kiss.specs.declared.progress.KissPacket.{KissPacket}
use Rattle.csp_log.specs.Weights.{item_bytes}
use Rattle.csp_log.specs.declared.frame.Frame.{Frame}
use Rattle.csp_log.specs.declared.places.LinkKind.TheVariants as link
use Rattle.csp_log.specs.declared.places.LinkKind.{LinkKind}
use Rattle.csp_log.specs.declared.shown.AnswerShown.TheVariants as answer
use Rattle.csp_log.specs.declared.shown.AnswerShown.{AnswerShown}
use Rattle.csp_log.specs.declared.shown.ItemShown.TheVariants as item
use Rattle.csp_log.specs.declared.shown.ItemShown.{ItemShown}
use Rattle.csp_sizes.proofs.LightAnswers.{any_came, buffer_came}
use Rattle.csp_sizes.proofs.LightFragments.{answered_short, frames_light, listened_short}
use Rattle.csp_sizes.proofs.LightStreams.{IsRead, all_read, frame_short}
use Rattle.csp_sizes.specs.Light.{IsLight, IsLightAnswer, IsLightFrame, IsLightIface, IsLightOp, IsLightReceiver}
use Rattle.csp_stack.specs.Readings.{buffer_in, item_in}

-- ---- what it asks

given_light : (o : Option Content) → IfSome o IsLight → IsLightOp (given o)
given_light None h = tt
given_light (Some b) h = h

delivered_op : (number : ℕ) (o : Option Content) → IfSome o IsLight → IsLightOp (delivered number o)
delivered_op number None h = tt
delivered_op number (Some b) h = h

transmitted_op : (number : ℕ) (fs : List Frame) → All IsLightFrame fs → IsLightOp (transmitted number (slice_get fs 0))
transmitted_op number [] all = tt
transmitted_op number (f ∷ fs) all = All-head IsLightFrame f fs all

op_light : (s : PlainIface) (p : IfacePlan) → IsLightIface s → IsLightOp (op_of s p)
op_light s plan.Rest h = tt
op_light s plan.Return h = given_light s.back h.back
op_light s plan.Deliver h = delivered_op s.number s.accepted h.accepted
op_light s plan.Take h = tt
op_light s plan.Transmit h = transmitted_op s.number s.frames h.frames
op_light s plan.Fetch h = tt
op_light s plan.Receive h = tt

pub asks_light : (s : PlainIface) (time : ℕ) → IsLightIface s → IsLightOp (asks s time)
asks_light s time h = op_light s (plan_of s) h

-- and what it is then
handed_iface : (s : PlainIface) (p : IfacePlan) → IsLightIface s → IsLightIface (handed s p)
handed_iface s plan.Rest h = h
handed_iface s plan.Return h = record { mtu = h.mtu; back = tt; sending = h.sending; frames = h.frames; receiver = h.receiver; whole = h.whole; accepted = h.accepted }
handed_iface s plan.Deliver h = record { mtu = h.mtu; back = h.back; sending = h.sending; frames = h.frames; receiver = h.receiver; whole = h.whole; accepted = tt }
handed_iface s plan.Take h = h
handed_iface s plan.Transmit h = record { mtu = h.mtu; back = h.back; sending = h.sending; frames = All-drop IsLightFrame 1 s.frames h.frames; receiver = h.receiver; whole = h.whole; accepted = h.accepted }
handed_iface s plan.Fetch h = record { mtu = h.mtu; back = h.back; sending = h.sending; frames = h.frames; receiver = h.receiver; whole = h.whole; accepted = h.accepted }
handed_iface s plan.Receive h = record { mtu = h.mtu; back = h.back; sending = h.sending; frames = h.frames; receiver = h.receiver; whole = h.whole; accepted = h.accepted }

-- ---- what it sends

frames_short : (k : LinkKind) (serial next : ℕ) (b : Content) (trace : Trace) → length b.payload ≤ 256 → All IsLightFrame (frames_of k serial next b trace)
frames_short link.Kiss serial next b trace h = All-cons IsLightFrame (kiss_frame false b trace) [] (frame_short false b.header b.payload h) (All-nil IsLightFrame)
frames_short link.KissHeader serial next b trace h = All-cons IsLightFrame (kiss_frame true b trace) [] (frame_short true b.header b.payload h) (All-nil IsLightFrame)
frames_short link.Can serial next b trace h = frames_light trace b.header b.payload next (serial % IDS)

taken_up_light : (big : Bool) (mark : ℕ) (b : Content) (s : PlainIface) → nat_lt s.mtu (length b.payload) ≡ big → IsLight b → IsLightIface s → IsLightIface (telling.taken_up big mark b s).iface
taken_up_light true mark b s e light h = record { mtu = h.mtu; back = light; sending = h.sending; frames = h.frames; receiver = h.receiver; whole = h.whole; accepted = h.accepted }
taken_up_light false mark b s e light h = record {
  mtu = h.mtu;
  back = h.back;
  sending = light;
  frames = frames_short s.kind s.serial (next_node mark b.header) b (sent_trace s.node s.number s.serial b.trace) (let fits = ltb-false s.mtu (length b.payload) e in omega (arith, fits, h.mtu));
  receiver = h.receiver;
  whole = h.whole;
  accepted = h.accepted;
}

fetched_light : (i : ItemShown) (s : PlainIface) → item_bytes i ≤ 531 → IsLightIface s → IsLightIface (telling.fetched i s).iface
fetched_light (item.Packet mark b) s light h = taken_up_light (telling.is_too_big s b) mark b s refl light h
fetched_light (item.Frame f) s light h = h
fetched_light (item.Note n) s light h = h

-- ---- what it receives

record IsLightHeard (h : Heard) : Type 0 where
  receiver : IsLightReceiver h.receiver
  whole : IfSome h.whole (λ p. length p.payload.items ≤ 531)

traced_short : (trace : Trace) (o : Option KissPacket) → IfSome o (λ k. length k.payload.items ≤ 256) → IfSome (option_map (traced trace) o) (λ p. length p.payload.items ≤ 531)
traced_short trace None h = tt
traced_short trace (Some k) h = omega (arith, h)

followed_light : (trace : Trace) (p : Progress) → IsRead p → IsLightHeard (followed trace p)
followed_light trace p h = record { receiver = h.mtu; whole = traced_short trace p.packet h.packet }

further_light : (r : Receiver) → IsLightReceiver r → IsLightHeard (read_further r)
further_light (by.Kiss s) h = followed_light s.trace (read_on s.reading s.rest) (all_read s.reading s.rest h)
further_light (by.Can l) h = record { receiver = h; whole = tt }

reassembled_light : (l : Listening) (a : Arrival) → IsLightReceiver (by.Can l) → IsLightHeard (reassembled l a)
reassembled_light l a h = record { receiver = (h.0, listened_short l a h.0 h.1); whole = answered_short l a h.0 h.1 }

heard_by_light : (now : ℕ) (r : Receiver) (f : Frame) → IsLightReceiver r → IsLightHeard (frame_read now r f)
heard_by_light now (by.Kiss s) f h = record { receiver = h; whole = tt }
heard_by_light now (by.Can l) f h = reassembled_light l (arrival (identifier_of (unwrap_or f.can 0)) f.bytes.items (arrived f.trace) now) h

heard_light : (now : ℕ) (r : Receiver) (f : Frame) → IsLightReceiver r → IsLightHeard (frame_heard now r f)
heard_light now r f h = go (f.trace.hops == MAX_HOPS)
  where
    go : (b : Bool) → IsLightHeard (if b then record { receiver = r; whole = None; refused = 1 } else frame_read now r f)
    go true = record { receiver = h; whole = tt }
    go false = heard_by_light now r f h

caught_light : (now : ℕ) (i : ItemShown) (s : PlainIface) → IsLightIface s → IsLightIface (telling.caught now i s).iface
caught_light now (item.Frame f) s h =
    by (is_for s.heeds f)
  where
    by : (b : Bool) → IsLightIface (telling.hearing (if b then frame_heard now s.receiver f else telling.unmoved s) s).iface
    by true =
        let x = heard_light now s.receiver f h.receiver in
        record { mtu = h.mtu; back = h.back; sending = h.sending; frames = h.frames; receiver = x.receiver; whole = x.whole; accepted = h.accepted }
    by false = h
caught_light now (item.Packet mark b) s h = h
caught_light now (item.Note n) s h = h

-- ---- what each answer makes of it

packet_back : (i : ItemShown) → item_bytes i ≤ 531 → IfSome (telling.packet_in i) IsLight
packet_back (item.Packet mark b) h = h
packet_back (item.Frame f) h = tt
packet_back (item.Note n) h = tt

filled_light : (o : Option WholePacket) (b : Content) → IfSome o (λ p. length p.payload.items ≤ 531) → IsLight b → IsLight (telling.filled o b)
filled_light None b short light = light
filled_light (Some p) b short light = short

pushed_iface : (fs : List Frame) (s : PlainIface) → IsLightIface s → IsLightIface (telling.pushed fs s)
pushed_iface [] s h = record { mtu = h.mtu; back = h.sending; sending = tt; frames = h.frames; receiver = h.receiver; whole = h.whole; accepted = h.accepted }
pushed_iface (f ∷ fs) s h = h

kept_iface : (i : ItemShown) (s : PlainIface) → item_bytes i ≤ 531 → IsLightIface s → IsLightIface (telling.kept i s)
kept_iface (item.Frame f) s light h = record { mtu = h.mtu; back = h.back; sending = h.sending; frames = All-cons IsLightFrame f s.frames light h.frames; receiver = h.receiver; whole = h.whole; accepted = h.accepted }
kept_iface (item.Packet mark b) s light h = h
kept_iface (item.Note n) s light h = h

told_by_light : (s : PlainIface) (now : ℕ) (p : IfacePlan) (a : AnswerShown) → IfSome (item_in a) (λ i. item_bytes i ≤ 531) → IfSome (buffer_in a) IsLight → IsLightIface s → IsLightIface (telling.after_answer s now p a).iface
told_by_light s now plan.Return answer.Given items buffers h = h
told_by_light s now plan.Return (answer.PoolFull b) items buffers h = record { mtu = h.mtu; back = buffers; sending = h.sending; frames = h.frames; receiver = h.receiver; whole = h.whole; accepted = h.accepted }
told_by_light s now plan.Deliver answer.Pushed items buffers h = h
told_by_light s now plan.Deliver (answer.Full i) items buffers h = record { mtu = h.mtu; back = packet_back i items; sending = h.sending; frames = h.frames; receiver = h.receiver; whole = h.whole; accepted = h.accepted }
told_by_light s now plan.Take (answer.Taken b) items buffers h = record { mtu = h.mtu; back = h.back; sending = h.sending; frames = h.frames; receiver = h.receiver; whole = tt; accepted = filled_light s.whole b h.whole buffers }
told_by_light s now plan.Take answer.NoBuffer items buffers h = record { mtu = h.mtu; back = h.back; sending = h.sending; frames = h.frames; receiver = h.receiver; whole = tt; accepted = h.accepted }
told_by_light s now plan.Transmit answer.Pushed items buffers h = pushed_iface s.frames s h
told_by_light s now plan.Transmit (answer.Full i) items buffers h = kept_iface i s items h
told_by_light s now plan.Fetch (answer.Popped i) items buffers h = fetched_light i s items h
told_by_light s now plan.Fetch answer.Empty items buffers h = h
told_by_light s now plan.Receive (answer.Popped i) items buffers h = caught_light now i s h
told_by_light s now plan.Receive answer.Empty items buffers h = h
told_by_light s now p a items buffers h = h

after_light : (busy : Bool) (s : PlainIface) → IsLightIface s → IsLightHeard (telling.going_on busy s)
after_light true s h = record { receiver = h.receiver; whole = h.whole }
after_light false s h = further_light s.receiver h.receiver

tells_light : (s : PlainIface) (time : ℕ) (a : AnswerShown) → IfSome (item_in a) (λ i. item_bytes i ≤ 531) → IfSome (buffer_in a) IsLight → IsLightIface s → IsLightIface (tells s time a)
tells_light s time a items buffers h =
    let rest : IsLightIface (telling.resting s) = record { mtu = h.mtu; back = h.back; sending = h.sending; frames = h.frames; receiver = h.receiver; whole = h.whole; accepted = h.accepted } in
    let o = telling.answered s time a in
    let told = told_by_light (telling.resting s) time s.doing a items buffers rest in
    let x = after_light (telling.has_packet o.iface) o.iface told in
    record { mtu = told.mtu; back = told.back; sending = told.sending; frames = told.frames; receiver = x.receiver; whole = x.whole; accepted = told.accepted }

asked_light : (s : PlainIface) (time : ℕ) → IsLightIface s → IsLightIface (asked s time)
asked_light s time h =
    let g = handed_iface s (plan_of s) h in
    record { mtu = g.mtu; back = g.back; sending = g.sending; frames = g.frames; receiver = g.receiver; whole = g.whole; accepted = g.accepted }

pub iface_light : (s : PlainIface) (time : ℕ) (a : AnswerShown) → IsLightIface s → IsLightAnswer (asks s time) a → IsLightIface (tells (asked s time) time a)
iface_light s time a h light = tells_light (asked s time) time a (any_came (asks s time) a light) (buffer_came (asks s time) a light) (asked_light s time h)

-- at its opening
receiver_opened : (k : LinkKind) (mtu : ℕ) → mtu ≤ 256 → IsLightReceiver (receiver_for k mtu)
receiver_opened link.Kiss mtu h = h
receiver_opened link.KissHeader mtu h = h
receiver_opened link.Can mtu h = (h, All-nil (λ p. p.length ≤ 256))

pub iface_opened : (node number : ℕ) (k : LinkKind) (mtu : ℕ) → mtu ≤ 256 → IsLightIface (opening node number k mtu)
iface_opened node number k mtu h = record { mtu = h; back = tt; sending = tt; frames = All-nil IsLightFrame; receiver = receiver_opened k mtu h; whole = tt; accepted = tt }
