-- What an interface hands to its link is a frame of a transmission: of the packet in the first entry that shows its serial. It has its trace.
use Rattle.std.proofs.Common.{◌≡◌, ℕ, ◌+◌, ◌%◌, ◌≤◌, ◌==◌, ◌||◌, Bool, true, false, Option, Some, None, List, [], ◌∷◌, ◌++◌, length, map, slice_get, filter_map, option_map, refl, sym, ap, ◌∙◌, subst, arith, le_refl, eqb-true}
use Rattle.std.specs.Prelude.{if◌then◌else◌, ⊤}
use Rattle.std.specs.List.{AllByRecursion, list_any, cons_option}
use Rattle.std.proofs.lemmas.Bool.{eq-eqb, ltb-false}
use Rattle.csp_base.specs.declared.traces.Trace.{Trace}
use Rattle.csp_buffer.specs.Content.{Content}
use Rattle.csp_can.specs.Fragments.{fragments_of}
use Rattle.csp_can.specs.Frames.{written}
use Rattle.csp_can.specs.declared.frames.CanFrame.{CanFrame}
use Rattle.csp_deck.specs.Runs.{IsRun, IsStep}
use Rattle.csp_iface.specs.Asking.{asked, op_of, given, delivered, transmitted}
use Rattle.csp_iface.specs.PlainIface.{PlainIface}
use Rattle.csp_iface.specs.Planning.{plan_of}
use Rattle.csp_iface.specs.Sending.{sent_trace, next_node, frames_of, can_frame}
use Rattle.csp_iface.specs.Telling.{after_answer, caught, pushed, kept, fetched as told_fetched, tells, bad, concluded, is_too_big, taken_up}
use Rattle.csp_iface.specs.declared.plan.IfacePlan.{IfacePlan}
use Rattle.csp_iface.specs.declared.plan.IfacePlan.TheVariants as plan
use Rattle.csp_iface.specs.declared.sender.TheConstants.{IDS}
use Rattle.csp_log.specs.Moving.{moved_by}
use Rattle.csp_log.specs.Pictures.{Fits}
use Rattle.csp_log.specs.declared.entry.Entry.{Entry}
use Rattle.csp_log.specs.declared.event.Event.{Event}
use Rattle.csp_log.specs.declared.event.Event.TheVariants as event
use Rattle.csp_log.specs.declared.frame.Frame.{Frame}
use Rattle.csp_log.specs.declared.places.LinkKind.{LinkKind}
use Rattle.csp_log.specs.declared.places.LinkKind.TheVariants as link
use Rattle.csp_log.specs.declared.places.QueueId.TheVariants as queue
use Rattle.csp_log.specs.declared.shown.ItemShown.{ItemShown}
use Rattle.csp_log.specs.declared.shown.ItemShown.TheVariants as item
use Rattle.csp_log.specs.declared.shown.OpShown.{OpShown}
use Rattle.csp_log.specs.declared.shown.OpShown.TheVariants as op
use Rattle.csp_log.specs.declared.shown.AnswerShown.{AnswerShown}
use Rattle.csp_log.specs.declared.shown.AnswerShown.TheVariants as answer
use Rattle.csp_party.specs.Any.{an_iface}
use Rattle.csp_record.specs.Transmissions.{fetched, is_beginning, shown_in}
use Rattle.csp_scene.proofs.Public.{AllByRecursion-append, AllByRecursion-map}
use Rattle.csp_topology.specs.Parties.{iface_opening, party_steps}
use Rattle.csp_consistent.specs.Addressed.{addressed_in, goes_to}
use Rattle.csp_consistent.specs.Reading.{put_by, puts}
use Rattle.csp_consistent.proofs.Each.{each_at, each_drop_first, each_if, each_there, first_mapped}
use Rattle.csp_consistent.proofs.Received.{IsFrameOf, IsOn, IsSuchFrame, step_on, told, waiting}

-- a frame is one of a transmission which these entries show with where it goes next, of a packet that is not too big
pub record IsSentIn (node number : ℕ) (kind : LinkKind) (mtu : ℕ) (es : List Entry) (f : Frame) : Type 0 where
  pub serial : ℕ
  pub mark : ℕ
  pub packet : Content
  pub shown : slice_get (filter_map (shown_in serial) es) 0 ≡ Some packet
  pub to : slice_get (filter_map (addressed_in serial) es) 0 ≡ Some (next_node mark packet.header)
  pub fits : length packet.payload ≤ mtu
  pub place : ℕ
  pub among : slice_get (frames_of kind serial (next_node mark packet.header) packet (sent_trace node number serial packet.trace)) place ≡ Some f

-- a trace is that of a transmission which these entries show
pub record IsBegun (node number : ℕ) (es : List Entry) (t : Trace) : Type 0 where
  pub serial : ℕ
  pub packet : Content
  pub shown : slice_get (filter_map (shown_in serial) es) 0 ≡ Some packet
  pub trace : t ≡ sent_trace node number serial packet.trace

-- the frames of a transmission have its trace
abbrev HaveTraces : (Trace → Type 0) → List Frame → Type 0
HaveTraces Q fs = AllByRecursion (λ f. Q f.trace) fs

can_traces : (Q : Trace → Type 0) (t : Trace) (fs : List CanFrame) → Q t → HaveTraces Q (map (can_frame t) fs)
can_traces Q t [] here = tt
can_traces Q t (f ∷ fs) here = (here, can_traces Q t fs here)

frames_traces : (Q : Trace → Type 0) (k : LinkKind) (serial next : ℕ) (b : Content) (t : Trace) → Q t → HaveTraces Q (frames_of k serial next b t)
frames_traces Q link.Kiss serial next b t here = (here, tt)
frames_traces Q link.KissHeader serial next b t here = (here, tt)
frames_traces Q link.Can serial next b t here = can_traces Q t (map written (fragments_of b.header b.payload next (serial % IDS))) here

handed_such : (Q : Frame → Type 0) (s : PlainIface) (p : IfacePlan) → AllByRecursion Q s.frames → AllByRecursion Q (waiting s p).frames
handed_such Q s plan.Rest h = h
handed_such Q s plan.Return h = h
handed_such Q s plan.Deliver h = h
handed_such Q s plan.Take h = h
handed_such Q s plan.Transmit h = each_drop_first Q s.frames h
handed_such Q s plan.Fetch h = h
handed_such Q s plan.Receive h = h

pushed_such : (Q : Frame → Type 0) (fs : List Frame) (s : PlainIface) → AllByRecursion Q s.frames → AllByRecursion Q (pushed fs s).frames
pushed_such Q [] s h = h
pushed_such Q (_ ∷ _) s h = h

-- the frame that comes back is the one that went
frame_in : Frame → ItemShown → Frame
frame_in g (item.Frame f) = f
frame_in g (item.Packet _ _) = g
frame_in g (item.Note _) = g

came_back : (Q : Frame → Type 0) (n : ℕ) (fs : List Frame) (f : Frame) → AllByRecursion Q fs → Fits (transmitted n (slice_get fs 0)) (answer.Full (item.Frame f)) → Q f
unfolding frame_in
came_back Q n [] f h fits = absurd fits
came_back Q n (g ∷ fs) f h fits = subst Q (sym (ap (frame_in g) fits)) h.0

kept_such : (Q : Frame → Type 0) (n : ℕ) (fs : List Frame) (i : ItemShown) (s : PlainIface) → AllByRecursion Q fs → AllByRecursion Q s.frames → Fits (transmitted n (slice_get fs 0)) (answer.Full i) → AllByRecursion Q (kept i s).frames
kept_such Q n fs (item.Frame f) s all h fits = (came_back Q n fs f all fits, h)
kept_such Q n fs (item.Packet _ _) s all h fits = h
kept_such Q n fs (item.Note _) s all h fits = h

-- a packet that is fetched, and not too big, begins the transmission of this serial, with its frames
abbrev IsTakenUp : (Frame → Type 0) → PlainIface → ℕ → Content → (too_big : Bool) → Type 0
IsTakenUp Q s mark b true = ⊤
IsTakenUp Q s mark b false = AllByRecursion Q (frames_of s.kind s.serial (next_node mark b.header) b (sent_trace s.node s.number s.serial b.trace))

abbrev IsFresh : (Frame → Type 0) → PlainIface → ItemShown → Type 0
IsFresh Q s (item.Packet mark b) = IsTakenUp Q s mark b (is_too_big s b)
IsFresh Q s (item.Frame _) = ⊤
IsFresh Q s (item.Note _) = ⊤

taken_such : (Q : Frame → Type 0) (too_big : Bool) (mark : ℕ) (b : Content) (s : PlainIface) → AllByRecursion Q s.frames → IsTakenUp Q s mark b too_big → AllByRecursion Q (taken_up too_big mark b s).iface.frames
taken_such Q true mark b s h here = h
taken_such Q false mark b s h here = here

fetched_such : (Q : Frame → Type 0) (i : ItemShown) (s : PlainIface) → AllByRecursion Q s.frames → IsFresh Q s i → AllByRecursion Q (told_fetched i s).iface.frames
fetched_such Q (item.Packet mark b) s h here = taken_such Q (is_too_big s b) mark b s h here
fetched_such Q (item.Frame _) s h here = h
fetched_such Q (item.Note _) s h here = h

caught_such : (Q : Frame → Type 0) (now : ℕ) (i : ItemShown) (s : PlainIface) → AllByRecursion Q s.frames → AllByRecursion Q (caught now i s).iface.frames
caught_such Q now (item.Frame _) s h = h
caught_such Q now (item.Packet _ _) s h = h
caught_such Q now (item.Note _) s h = h

-- what a turn fetched
abbrev IsFreshIn : (Frame → Type 0) → PlainIface → IfacePlan → AnswerShown → Type 0
IsFreshIn Q s plan.Fetch (answer.Popped i) = IsFresh Q s i
IsFreshIn Q s _ _ = ⊤

told_such : (Q : Frame → Type 0) (s : PlainIface) (now : ℕ) (p : IfacePlan) (a : AnswerShown) → AllByRecursion Q s.frames → Fits (op_of s p) a → IsFreshIn Q s p a → AllByRecursion Q (told s now p a).frames
told_such Q s now plan.Return answer.Given h fits here = h
told_such Q s now plan.Return (answer.PoolFull b) h fits here = h
told_such Q s now plan.Deliver answer.Pushed h fits here = h
told_such Q s now plan.Deliver (answer.Full i) h fits here = h
told_such Q s now plan.Take (answer.Taken b) h fits here = h
told_such Q s now plan.Take answer.NoBuffer h fits here = h
told_such Q s now plan.Transmit answer.Pushed h fits here = pushed_such Q (waiting s plan.Transmit).frames (waiting s plan.Transmit) (handed_such Q s plan.Transmit h)
told_such Q s now plan.Transmit (answer.Full i) h fits here = kept_such Q s.number s.frames i (waiting s plan.Transmit) h (handed_such Q s plan.Transmit h) fits
told_such Q s now plan.Fetch (answer.Popped i) h fits here = fetched_such Q i (waiting s plan.Fetch) h here
told_such Q s now plan.Fetch answer.Empty h fits here = h
told_such Q s now plan.Receive (answer.Popped i) h fits here = caught_such Q now i (waiting s plan.Receive) h
told_such Q s now plan.Receive answer.Empty h fits here = h
told_such Q s now p a h fits here = handed_such Q s p h

-- what goes to the link
transmitted_put : (Q : Frame → Type 0) (number n : ℕ) (fs : List Frame) (a : AnswerShown) → AllByRecursion Q fs → AllByRecursion (IsSuchFrame Q) (put_by (queue.Tx number) (transmitted n (slice_get fs 0)) a)
transmitted_put Q number n [] a h = tt
transmitted_put Q number n (f ∷ fs) answer.Pushed h = each_if (IsSuchFrame Q) (n == number) (item.Frame f) h.0
transmitted_put Q number n (f ∷ fs) _ h = tt

given_put : (Q : Frame → Type 0) (number : ℕ) (o : Option Content) (a : AnswerShown) → AllByRecursion (IsSuchFrame Q) (put_by (queue.Tx number) (given o) a)
given_put Q number None a = tt
given_put Q number (Some b) a = tt

delivered_put : (Q : Frame → Type 0) (number n : ℕ) (o : Option Content) (a : AnswerShown) → AllByRecursion (IsSuchFrame Q) (put_by (queue.Tx number) (delivered n o) a)
delivered_put Q number n None a = tt
delivered_put Q number n (Some b) answer.Pushed = tt
delivered_put Q number n (Some b) _ = tt

put_such : (Q : Frame → Type 0) (number : ℕ) (s : PlainIface) (p : IfacePlan) (a : AnswerShown) → AllByRecursion Q s.frames → AllByRecursion (IsSuchFrame Q) (put_by (queue.Tx number) (op_of s p) a)
put_such Q number s plan.Rest a h = tt
put_such Q number s plan.Return a h = given_put Q number s.back a
put_such Q number s plan.Deliver a h = delivered_put Q number s.number s.accepted a
put_such Q number s plan.Take a h = tt
put_such Q number s plan.Transmit a h = transmitted_put Q number s.number s.frames a h
put_such Q number s plan.Fetch a h = tt
put_such Q number s plan.Receive a h = tt

-- ---- which serials a turn shows: none but the present one, and that where a packet is fetched

-- a packet with its mark
abbrev pub Marked : Type 0
Marked = ℕ × Content

-- what was popped from an `Out`; of that the two readers of transmissions are
abbrev marked : OpShown → AnswerShown → Option Marked
marked (op.Pop (queue.Out number)) (answer.Popped (item.Packet mark packet)) = Some (mark, packet)
marked _ _ = None

fetched_as : (o : OpShown) (a : AnswerShown) → fetched (moved_by o a) ≡ option_map (λ (x : Marked). x.1) (marked o a)
fetched_as (op.Push q (item.Packet mark b)) answer.Pushed = refl
fetched_as (op.Pop (queue.Out k)) (answer.Popped (item.Packet mark b)) = refl
fetched_as (op.Pop queue.Inbox) (answer.Popped (item.Packet mark b)) = refl
fetched_as (op.Pop (queue.Up k)) (answer.Popped (item.Packet mark b)) = refl
fetched_as (op.Pop (queue.Down k)) (answer.Popped (item.Packet mark b)) = refl
fetched_as (op.Pop (queue.Tx k)) (answer.Popped (item.Packet mark b)) = refl
fetched_as (op.Pop (queue.Rx k)) (answer.Popped (item.Packet mark b)) = refl
fetched_as _ _ = refl

goes_as : (o : OpShown) (a : AnswerShown) → goes_to o a ≡ option_map (λ (x : Marked). next_node x.0 x.1.header) (marked o a)
goes_as (op.Pop (queue.Out k)) (answer.Popped (item.Packet mark b)) = refl
goes_as _ _ = refl

-- what an entry shows of the transmission of a serial
abbrev begun_by : ℕ → List Event → OpShown → AnswerShown → Option Marked
begun_by n es o a = if list_any (is_beginning n) es then marked o a else None

abbrev pub begun_in : ℕ → Entry → Option Marked
begun_in n e = begun_by n e.events.items e.op e.answer

where_begun : {X : Type 0} (f : Option X) (g : Marked → X) (o : Option Marked) (b : Bool) → f ≡ option_map g o → (if b then f else None) ≡ option_map g (if b then o else None)
where_begun f g o true same = same
where_begun f g o false same = refl

pub shown_as : (n : ℕ) (e : Entry) → shown_in n e ≡ option_map (λ (x : Marked). x.1) (begun_in n e)
shown_as n e = where_begun (fetched (moved_by e.op e.answer)) (λ (x : Marked). x.1) (marked e.op e.answer) (list_any (is_beginning n) e.events.items) (fetched_as e.op e.answer)

addressed_as : (n : ℕ) (e : Entry) → addressed_in n e ≡ option_map (λ (x : Marked). next_node x.0 x.1.header) (begun_in n e)
addressed_as n e = where_begun (goes_to e.op e.answer) (λ (x : Marked). next_node x.0 x.1.header) (marked e.op e.answer) (list_any (is_beginning n) e.events.items) (goes_as e.op e.answer)

nothing : (b : Bool) (o : Option Marked) → o ≡ None → (if b then o else None) ≡ None
nothing true o e = e
nothing false o e = refl

given_marked : (o : Option Content) (a : AnswerShown) → marked (given o) a ≡ None
given_marked None a = refl
given_marked (Some b) a = refl

delivered_marked : (n : ℕ) (o : Option Content) (a : AnswerShown) → marked (delivered n o) a ≡ None
delivered_marked n None a = refl
delivered_marked n (Some b) a = refl

transmitted_marked : (n : ℕ) (o : Option Frame) (a : AnswerShown) → marked (transmitted n o) a ≡ None
transmitted_marked n None a = refl
transmitted_marked n (Some f) a = refl

none_bad : (n k : ℕ) → list_any (is_beginning n) (bad k) ≡ false
none_bad n k =
    chosen (k == 0)
  where
    chosen : (b : Bool) → list_any (is_beginning n) (if b then [] else event.Bad k ∷ []) ≡ false
    chosen true = refl
    chosen false = refl

-- where none began none is shown, nor is a later serial
none_began : (n k : ℕ) (o : Option Marked) → (if list_any (is_beginning n) (bad k) then o else None) ≡ None
none_began n k o = ap (λ c. if c then o else None) (none_bad n k)

later_none : (n serial k : ℕ) (o : Option Marked) → serial + 1 ≤ n → (if list_any (is_beginning n) (event.Transmitted serial ∷ bad k) then o else None) ≡ None
later_none n serial k o h =
    chosen (n == serial) refl
  where
    chosen : (b : Bool) → (n == serial) ≡ b → (if b || list_any (is_beginning n) (bad k) then o else None) ≡ None
    chosen true e = absurd (omega (arith, h, eqb-true n serial e))
    chosen false e = none_began n k o

this_begun : (serial k : ℕ) (x : Marked) → (if list_any (is_beginning serial) (event.Transmitted serial ∷ bad k) then Some x else None) ≡ Some x
this_begun serial k x = ap (λ c. if c || list_any (is_beginning serial) (bad k) then Some x else None) (eq-eqb serial serial refl)

pub turn_silent : (n : ℕ) (s : PlainIface) (now : ℕ) (p : IfacePlan) (a : AnswerShown) (k : ℕ) → (told s now p a).serial ≤ n → begun_by n ((after_answer (waiting s p) now p a).events ++ bad k) (op_of s p) a ≡ None
turn_silent n s now plan.Fetch (answer.Popped (item.Packet mark b)) k h = taken (is_too_big s b) h
  where
    taken : (big : Bool) → (taken_up big mark b (waiting s plan.Fetch)).iface.serial ≤ n → begun_by n ((taken_up big mark b (waiting s plan.Fetch)).events ++ bad k) (op_of s plan.Fetch) (answer.Popped (item.Packet mark b)) ≡ None
    taken true g = none_began n k (Some (mark, b))
    taken false g = later_none n s.serial k (Some (mark, b)) g
turn_silent n s now plan.Fetch (answer.Popped (item.Frame _)) k h = nothing _ None refl
turn_silent n s now plan.Fetch (answer.Popped (item.Note _)) k h = nothing _ None refl
turn_silent n s now plan.Fetch _ k h = nothing _ None refl
turn_silent n s now plan.Rest a k h = nothing _ None refl
turn_silent n s now plan.Return a k h = nothing _ _ (given_marked s.back a)
turn_silent n s now plan.Deliver a k h = nothing _ _ (delivered_marked s.number s.accepted a)
turn_silent n s now plan.Take a k h = nothing _ None refl
turn_silent n s now plan.Transmit a k h = nothing _ _ (transmitted_marked s.number (slice_get s.frames 0) a)
turn_silent n s now plan.Receive a k h = nothing _ None refl

pub handed_serial : (s : PlainIface) (p : IfacePlan) → (waiting s p).serial ≡ s.serial
handed_serial s plan.Rest = refl
handed_serial s plan.Return = refl
handed_serial s plan.Deliver = refl
handed_serial s plan.Take = refl
handed_serial s plan.Transmit = refl
handed_serial s plan.Fetch = refl
handed_serial s plan.Receive = refl

pub pushed_serial : (fs : List Frame) (s : PlainIface) → (pushed fs s).serial ≡ s.serial
pushed_serial [] s = refl
pushed_serial (_ ∷ _) s = refl

pub kept_serial : (i : ItemShown) (s : PlainIface) → (kept i s).serial ≡ s.serial
kept_serial (item.Frame _) s = refl
kept_serial (item.Packet _ _) s = refl
kept_serial (item.Note _) s = refl

fetched_serial : (i : ItemShown) (s : PlainIface) → s.serial ≤ (told_fetched i s).iface.serial
fetched_serial (item.Packet mark b) s = taken (is_too_big s b)
  where
    taken : (big : Bool) → s.serial ≤ (taken_up big mark b s).iface.serial
    taken true = le_refl s.serial
    taken false = omega arith
fetched_serial (item.Frame _) s = le_refl s.serial
fetched_serial (item.Note _) s = le_refl s.serial

pub caught_serial : (now : ℕ) (i : ItemShown) (s : PlainIface) → (caught now i s).iface.serial ≡ s.serial
caught_serial now (item.Packet _ _) s = refl
caught_serial now (item.Frame _) s = refl
caught_serial now (item.Note _) s = refl

same_serial : (m n : ℕ) → n ≡ m → m ≤ n
same_serial m n e = omega (arith, e)

told_serial : (s : PlainIface) (now : ℕ) (p : IfacePlan) (a : AnswerShown) → s.serial ≤ (told s now p a).serial
told_serial s now plan.Return answer.Given = le_refl s.serial
told_serial s now plan.Return (answer.PoolFull b) = le_refl s.serial
told_serial s now plan.Deliver answer.Pushed = le_refl s.serial
told_serial s now plan.Deliver (answer.Full i) = le_refl s.serial
told_serial s now plan.Take (answer.Taken b) = le_refl s.serial
told_serial s now plan.Take answer.NoBuffer = le_refl s.serial
told_serial s now plan.Transmit answer.Pushed = same_serial s.serial (pushed (waiting s plan.Transmit).frames (waiting s plan.Transmit)).serial (pushed_serial (waiting s plan.Transmit).frames (waiting s plan.Transmit))
told_serial s now plan.Transmit (answer.Full i) = same_serial s.serial (kept i (waiting s plan.Transmit)).serial (kept_serial i (waiting s plan.Transmit))
told_serial s now plan.Fetch (answer.Popped i) = fetched_serial i (waiting s plan.Fetch)
told_serial s now plan.Fetch answer.Empty = le_refl s.serial
told_serial s now plan.Receive (answer.Popped i) = same_serial s.serial (caught now i (waiting s plan.Receive)).iface.serial (caught_serial now i (waiting s plan.Receive))
told_serial s now plan.Receive answer.Empty = le_refl s.serial
told_serial s now p a = same_serial s.serial (waiting s p).serial (handed_serial s p)

-- a packet that was fetched is the first that shows its serial
fresh_item : (node number : ℕ) (kind : LinkKind) (mtu : ℕ) (all : List Entry) (s : PlainIface) (k : ℕ) (rest : List Marked) (i : ItemShown) → IsOn node number kind mtu s
    → filter_map (begun_in s.serial) all ≡ cons_option (begun_by s.serial ((told_fetched i (waiting s plan.Fetch)).events ++ bad k) (op_of s plan.Fetch) (answer.Popped i)) rest
    → IsFresh (IsSentIn node number kind mtu all) s i
fresh_item node number kind mtu all s k rest (item.Packet mark b) on e = taken (is_too_big s b) refl e
  where
    first : filter_map (begun_in s.serial) all ≡ cons_option (begun_by s.serial (event.Transmitted s.serial ∷ bad k) (op_of s plan.Fetch) (answer.Popped (item.Packet mark b))) rest → slice_get (filter_map (begun_in s.serial) all) 0 ≡ Some (mark, b)
    first f = ap (λ xs. slice_get xs 0) (f ∙ ap (λ o. cons_option o rest) (this_begun s.serial k (mark, b)))

    taken : (big : Bool) → is_too_big s b ≡ big → filter_map (begun_in s.serial) all ≡ cons_option (begun_by s.serial ((taken_up big mark b (waiting s plan.Fetch)).events ++ bad k) (op_of s plan.Fetch) (answer.Popped (item.Packet mark b))) rest
        → IsTakenUp (IsSentIn node number kind mtu all) s mark b big
    taken true fits f = tt
    taken false fits f = each_there (IsSentIn node number kind mtu all) (frames_of s.kind s.serial (next_node mark b.header) b (sent_trace s.node s.number s.serial b.trace)) (λ place x there. record {
      serial = s.serial;
      mark = mark;
      packet = b;
      shown = first_mapped (begun_in s.serial) (λ (m : Marked). m.1) (shown_in s.serial) all (mark, b) (shown_as s.serial) (first f);
      to = first_mapped (begun_in s.serial) (λ (m : Marked). next_node m.0 m.1.header) (addressed_in s.serial) all (mark, b) (addressed_as s.serial) (first f);
      fits = omega (arith, ltb-false s.mtu (length b.payload) fits, on.3);
      place = place;
      among = sym (λ i. slice_get (frames_of (on.2 i) s.serial (next_node mark b.header) b (sent_trace (on.0 i) (on.1 i) s.serial b.trace)) place) ∙ there;
    })
fresh_item node number kind mtu all s k rest (item.Frame _) on e = tt
fresh_item node number kind mtu all s k rest (item.Note _) on e = tt

fresh_turn : (node number : ℕ) (kind : LinkKind) (mtu : ℕ) (all : List Entry) (s : PlainIface) (now k : ℕ) (rest : List Marked) (p : IfacePlan) (a : AnswerShown) → IsOn node number kind mtu s
    → filter_map (begun_in s.serial) all ≡ cons_option (begun_by s.serial ((after_answer (waiting s p) now p a).events ++ bad k) (op_of s p) a) rest
    → IsFreshIn (IsSentIn node number kind mtu all) s p a
fresh_turn node number kind mtu all s now k rest plan.Fetch (answer.Popped i) on e = fresh_item node number kind mtu all s k rest i on e
fresh_turn node number kind mtu all s now k rest _ _ on e = tt

-- a step of an interface: its entry's operation and events
pub begun_step : (n : ℕ) (s : PlainIface) (e : Entry) → IsStep party_steps (an_iface s) e
    → begun_in n e ≡ begun_by n ((after_answer (waiting s (plan_of s)) e.time (plan_of s) e.answer).events ++ bad (concluded (asked s e.time) e.time e.answer).refused) (op_of s (plan_of s)) e.answer
begun_step n s e step = λ i. begun_by n (step.events i) (step.op i) e.answer

run_sent : (node number : ℕ) (kind : LinkKind) (mtu : ℕ) (all es : List Entry) (time : ℕ) (s : PlainIface) → IsRun party_steps time (an_iface s) es → IsOn node number kind mtu s
    → ((n : ℕ) → s.serial ≤ n → filter_map (begun_in n) all ≡ filter_map (begun_in n) es) → AllByRecursion (IsSentIn node number kind mtu all) s.frames
    → AllByRecursion (IsSuchFrame (IsSentIn node number kind mtu all)) (puts (queue.Tx number) es)
run_sent node number kind mtu all [] time s run on alike h = tt
run_sent node number kind mtu all (e ∷ es) time s run on alike h =
    let Q : Frame → Type 0 = IsSentIn node number kind mtu all in
    let p : IfacePlan = plan_of s in
    let k : ℕ = (concluded (asked s e.time) e.time e.answer).refused in
    let fresh : IsFreshIn Q s p e.answer =
    fresh_turn node number kind mtu all s e.time k (filter_map (begun_in s.serial) es) p e.answer on
    (alike s.serial (le_refl s.serial) ∙ ap (λ o. cons_option o (filter_map (begun_in s.serial) es)) (begun_step s.serial s e run.1)) in
    AllByRecursion-append (IsSuchFrame Q) (put_by (queue.Tx number) e.op e.answer) (puts (queue.Tx number) es)
    (subst (λ o. AllByRecursion (IsSuchFrame Q) (put_by (queue.Tx number) o e.answer)) (sym run.1.op) (put_such Q number s p e.answer h))
    (run_sent node number kind mtu all es e.time (tells (asked s e.time) e.time e.answer) run.2 (step_on node number kind mtu s e.time e.answer on)
    (λ n le. alike n (omega (arith, le, told_serial s e.time p e.answer))
    ∙ ap (λ o. cons_option o (filter_map (begun_in n) es)) (begun_step n s e run.1 ∙ turn_silent n s e.time p e.answer k le))
    (told_such Q s e.time p e.answer h run.1.fits fresh))

-- each frame that an interface pushed to its link is one of a transmission that its entries show
pub sent_frames : (node number : ℕ) (kind : LinkKind) (mtu : ℕ) (heeds : Option ℕ) (es : List Entry) → IsRun party_steps 0 (an_iface (iface_opening node number kind mtu heeds)) es
    → AllByRecursion (IsSuchFrame (IsSentIn node number kind mtu es)) (puts (queue.Tx number) es)
sent_frames node number kind mtu heeds es run = run_sent node number kind mtu es es 0 (iface_opening node number kind mtu heeds) run (refl, refl, refl, refl) (λ n le. refl) tt

-- and so it has the trace of that transmission
pub sent_traced : (node number : ℕ) (kind : LinkKind) (mtu : ℕ) (es : List Entry) (f : Frame) → IsSentIn node number kind mtu es f → IsBegun node number es f.trace
sent_traced node number kind mtu es f is =
    let t : Trace = sent_trace node number is.serial is.packet.trace in
    record {
      serial = is.serial;
      packet = is.packet;
      shown = is.shown;
      trace = each_at (λ g. g.trace ≡ t) (frames_of kind is.serial (next_node is.mark is.packet.header) is.packet t) is.place f
          (frames_traces (λ u. u ≡ t) kind is.serial (next_node is.mark is.packet.header) is.packet t refl) is.among;
    }

begun_item : (node number : ℕ) (kind : LinkKind) (mtu : ℕ) (es : List Entry) (i : ItemShown) → IsSuchFrame (IsSentIn node number kind mtu es) i → IsFrameOf (IsBegun node number es) i
begun_item node number kind mtu es (item.Frame f) is = sent_traced node number kind mtu es f is
begun_item node number kind mtu es (item.Packet _ _) is = tt
begun_item node number kind mtu es (item.Note _) is = tt

pub transmitted_all : (node number : ℕ) (kind : LinkKind) (mtu : ℕ) (heeds : Option ℕ) (es : List Entry) → IsRun party_steps 0 (an_iface (iface_opening node number kind mtu heeds)) es
    → AllByRecursion (IsFrameOf (IsBegun node number es)) (puts (queue.Tx number) es)
transmitted_all node number kind mtu heeds es run =
    AllByRecursion-map (IsSuchFrame (IsSentIn node number kind mtu es)) (IsFrameOf (IsBegun node number es)) (puts (queue.Tx number) es) (begun_item node number kind mtu es) (sent_frames node number kind mtu heeds es run)
