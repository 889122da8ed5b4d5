-- An interface to whose side of the link no packet comes keeps the numbers of its buffers in each turn.
use Rattle.std.proofs.Common.{◌≡◌, ℕ, ◌+◌, ◌==◌, Bool, true, false, Option, None, Some, List, [], ◌∷◌, slice_get, refl, sym, ap, subst, arith}
use Rattle.std.specs.Prelude.{if◌then◌else◌, ⊤}
use Rattle.std.specs.List.{AllByRecursion}
use Rattle.std.specs.Option.{option_to_list}
use Rattle.std.proofs.lemmas.Bool.{eq-eqb}
use Rattle.csp_base.specs.declared.traces.Trace.{Trace}
use Rattle.csp_buffer.specs.Content.{Content}
use Rattle.csp_consistent.proofs.Public.{IsNamed, step_named, waiting}
use Rattle.csp_consistent.specs.Reading.{got_by}
use Rattle.csp_deck.specs.Step.{answer_numbers, item_numbers, times}
use Rattle.csp_iface.proofs.Public.{among, holds_times, handed_law}
use Rattle.csp_iface.specs.Asking.{asked, asks, delivered, given, op_of, transmitted}
use Rattle.csp_iface.specs.PlainIface.{PlainIface, holds}
use Rattle.csp_iface.specs.Planning.{first_rule, plan_of, side_plan}
use Rattle.csp_iface.specs.Sending.{frames_of, next_node, sent_trace}
use Rattle.csp_iface.specs.Telling.{begun, caught, fetched, filled, is_too_big, kept, packet_in, pushed, taken_up, tells, after_answer}
use Rattle.csp_iface.specs.declared.packet.WholePacket.{WholePacket}
use Rattle.csp_iface.specs.declared.plan.IfacePlan.{IfacePlan}
use Rattle.csp_iface.specs.declared.plan.IfacePlan.TheVariants as plan
use Rattle.csp_iface.specs.declared.plan.Side.{Side}
use Rattle.csp_iface.specs.declared.plan.Side.TheVariants as side
use Rattle.csp_log.specs.Pictures.{Fits}
use Rattle.csp_log.specs.declared.frame.Frame.{Frame}
use Rattle.csp_log.specs.declared.places.LinkKind.{LinkKind}
use Rattle.csp_log.specs.declared.places.LinkKind.TheVariants as link
use Rattle.csp_log.specs.declared.places.QueueId.TheVariants as queue
use Rattle.csp_log.specs.declared.shown.AnswerShown.{AnswerShown}
use Rattle.csp_log.specs.declared.shown.AnswerShown.TheVariants as answer
use Rattle.csp_log.specs.declared.shown.ItemShown.{ItemShown}
use Rattle.csp_log.specs.declared.shown.ItemShown.TheVariants as item
use Rattle.csp_conserved.proofs.Running.{Turns}

-- an item without a buffer
abbrev pub IsBare : ItemShown → Type 0
IsBare i = item_numbers i ≡ []

-- where no frames are left no packet is sent
abbrev pub IsDone : List Frame → Option Content → Type 0
IsDone frames sending = frames ≡ [] → sending ≡ None

-- the interface after an answer holds what it held and what came, and where no frames are left it sends no packet
record Tells (s t : PlainIface) (a : AnswerShown) : Type 0 where
  numbers : (k : ℕ) → times k (holds t) ≡ times k (holds s) + times k (answer_numbers a)
  done : IsDone t.frames t.sending

-- ---- numbers

none_among : (k : ℕ) (o : Option Content) → o ≡ None → among k (option_to_list o) ≡ 0
none_among k o e = ap (λ x. among k (option_to_list x)) e

item_among : (k : ℕ) (i : ItemShown) → times k (item_numbers i) ≡ among k (option_to_list (packet_in i))
item_among k (item.Packet _ _) = refl
item_among k (item.Frame _) = refl
item_among k (item.Note _) = refl

filled_among : (k : ℕ) (p : Option WholePacket) (b : Content) → among k (filled p b ∷ []) ≡ among k (b ∷ [])
filled_among k None b = refl
filled_among k (Some _) b = refl

none_of : (k : ℕ) (i : ItemShown) → IsBare i → times k (item_numbers i) ≡ 0
none_of k i bare = ap (times k) bare

-- what it popped of its own queue
came : (n : ℕ) (i : ItemShown) → AllByRecursion IsBare (if n == n then i ∷ [] else []) → IsBare i
came n i all = (subst (λ (b : Bool). AllByRecursion IsBare (if b then i ∷ [] else [])) (eq-eqb n n refl) all).0

-- nothing came of it
quietly : (s : PlainIface) (a : AnswerShown) → answer_numbers a ≡ [] → IsDone s.frames s.sending → Tells s s a
quietly s a none done = record { numbers = λ k. omega (arith, ap (times k) none); done = done }

-- ---- by the plan of the turn

told_return : (back : Option Content) (s : PlainIface) (now : ℕ) (a : AnswerShown) → s.back ≡ None → IsDone s.frames s.sending → Fits (given back) a → Tells s (after_answer s now plan.Return a).iface a
told_return None s now answer.Nothing free done fits = quietly s answer.Nothing refl done
told_return None s now a free done fits = absurd fits
told_return (Some b) s now answer.Given free done fits = quietly s answer.Given refl done
told_return (Some b) s now (answer.PoolFull c) free done fits = record { numbers = λ k. omega (arith, holds_times k s, holds_times k (record s { back = Some c }), none_among k s.back free); done = done }
told_return (Some b) s now a free done fits = absurd fits

told_deliver : (number : ℕ) (accepted : Option Content) (s : PlainIface) (now : ℕ) (a : AnswerShown) → s.back ≡ None → IsDone s.frames s.sending → Fits (delivered number accepted) a → Tells s (after_answer s now plan.Deliver a).iface a
told_deliver number None s now answer.Nothing free done fits = quietly s answer.Nothing refl done
told_deliver number None s now a free done fits = absurd fits
told_deliver number (Some b) s now answer.Pushed free done fits = quietly s answer.Pushed refl done
told_deliver number (Some b) s now (answer.Full i) free done fits =
    record { numbers = λ k. omega (arith, holds_times k s, holds_times k (record s { back = packet_in i }), none_among k s.back free, item_among k i); done = done }
told_deliver number (Some b) s now a free done fits = absurd fits

told_take : (s : PlainIface) (now : ℕ) (a : AnswerShown) → s.accepted ≡ None → IsDone s.frames s.sending → Fits (op_of s plan.Take) a → Tells s (after_answer s now plan.Take a).iface a
told_take s now (answer.Taken b) free done fits =
    record { numbers = λ k. omega (arith, holds_times k s, holds_times k (record s { accepted = Some (filled s.whole b); whole = None }), none_among k s.accepted free, filled_among k s.whole b); done = done }
told_take s now answer.NoBuffer free done fits = record { numbers = λ k. omega arith; done = done }
told_take s now a free done fits = absurd fits

pushed_told : (fs : List Frame) (s : PlainIface) → s.frames ≡ fs → s.back ≡ None → Tells s (pushed fs s) answer.Pushed
pushed_told [] s e free = record { numbers = λ k. omega (arith, holds_times k s, holds_times k (record s { back = s.sending; sending = None }), none_among k s.back free); done = λ none. refl }
pushed_told (f ∷ fs) s e free = record { numbers = λ k. omega arith; done = λ none. absurd cc }

kept_told : (i : ItemShown) (f : Frame) (s : PlainIface) → i ≡ item.Frame f → Tells s (kept i s) (answer.Full i)
kept_told (item.Frame g) f s fits = record { numbers = λ k. omega arith; done = λ none. absurd cc }
kept_told (item.Packet mark b) f s fits = absurd cc
kept_told (item.Note note) f s fits = absurd cc

-- the frame that it pushes is the first of those left
told_transmit : (number : ℕ) (frames : List Frame) (s : PlainIface) (now : ℕ) (a : AnswerShown) → s.back ≡ None → (frames ≡ [] → IsDone s.frames s.sending) → Fits (transmitted number (slice_get frames 0)) a
    → Tells s (after_answer s now plan.Transmit a).iface a
told_transmit number [] s now answer.Nothing free done fits = quietly s answer.Nothing refl (done refl)
told_transmit number [] s now a free done fits = absurd fits
told_transmit number (f ∷ fs) s now answer.Pushed free done fits = pushed_told s.frames s refl free
told_transmit number (f ∷ fs) s now (answer.Full i) free done fits = kept_told i f s fits
told_transmit number (f ∷ fs) s now a free done fits = absurd fits

-- each transmission has a frame
some_frames : (kind : LinkKind) (serial next : ℕ) (b : Content) (trace : Trace) → frames_of kind serial next b trace ≡ [] → ⊥
some_frames link.Kiss serial next b trace e = cc
some_frames link.KissHeader serial next b trace e = cc
some_frames link.Can serial next b trace e = cc

fetched_told : (i : ItemShown) (s : PlainIface) → s.back ≡ None → s.sending ≡ None → IsDone s.frames s.sending → Tells s (fetched i s).iface (answer.Popped i)
fetched_told (item.Frame frame) s free unsent done = record { numbers = λ k. omega arith; done = done }
fetched_told (item.Note note) s free unsent done = record { numbers = λ k. omega arith; done = done }
fetched_told (item.Packet mark b) s free unsent done =
    by (is_too_big s b)
  where
    by : (big : Bool) → Tells s (taken_up big mark b s).iface (answer.Popped (item.Packet mark b))
    by true = record { numbers = λ k. omega (arith, holds_times k s, holds_times k (record s { back = Some b }), none_among k s.back free); done = done }
    by false = record {
      numbers = λ k. omega (arith, holds_times k s, holds_times k (begun mark b s), none_among k s.sending unsent);
      done = λ none. absurd (some_frames s.kind s.serial (next_node mark b.header) b (sent_trace s.node s.number s.serial b.trace) none);
    }

told_fetch : (s : PlainIface) (now : ℕ) (a : AnswerShown) → s.back ≡ None → s.sending ≡ None → IsDone s.frames s.sending → Fits (op_of s plan.Fetch) a → Tells s (after_answer s now plan.Fetch a).iface a
told_fetch s now (answer.Popped i) free unsent done fits = fetched_told i s free unsent done
told_fetch s now answer.Empty free unsent done fits = quietly s answer.Empty refl done
told_fetch s now a free unsent done fits = absurd fits

caught_told : (i : ItemShown) (s : PlainIface) (now : ℕ) → IsBare i → IsDone s.frames s.sending → Tells s (caught now i s).iface (answer.Popped i)
caught_told (item.Frame frame) s now bare done = record { numbers = λ k. omega arith; done = done }
caught_told (item.Packet mark b) s now bare done = record { numbers = λ k. omega (arith, none_of k (item.Packet mark b) bare); done = done }
caught_told (item.Note note) s now bare done = record { numbers = λ k. omega arith; done = done }

told_receive : (s : PlainIface) (now : ℕ) (a : AnswerShown) → AllByRecursion IsBare (got_by (queue.Rx s.number) (op_of s plan.Receive) a) → IsDone s.frames s.sending → Fits (op_of s plan.Receive) a
    → Tells s (after_answer s now plan.Receive a).iface a
told_receive s now (answer.Popped i) bare done fits = caught_told i s now (came s.number i bare) done
told_receive s now answer.Empty bare done fits = quietly s answer.Empty refl done
told_receive s now a bare done fits = absurd fits

told_rest : (s : PlainIface) (now : ℕ) (a : AnswerShown) → IsDone s.frames s.sending → Fits (op_of s plan.Rest) a → Tells s (after_answer s now plan.Rest a).iface a
told_rest s now answer.Nothing done fits = quietly s answer.Nothing refl done
told_rest s now a done fits = absurd fits

-- ---- what the plan finds

-- the places that the answers of a plan fill are empty; and what is pushed is the first of the frames left
abbrev IsFree : PlainIface → IfacePlan → Type 0
IsFree s plan.Rest = ⊤
IsFree s plan.Return = ⊤
IsFree s plan.Deliver = s.back ≡ None
IsFree s plan.Take = s.accepted ≡ None
IsFree s plan.Transmit = s.back ≡ None
IsFree s plan.Fetch = (s.back ≡ None) × (s.frames ≡ [])
IsFree s plan.Receive = ⊤

side_free : (s : PlainIface) (own : Side) (frames : List Frame) → s.frames ≡ frames → s.back ≡ None → IsFree s (side_plan own frames)
side_free s side.Sending [] e free = (free, e)
side_free s side.Sending (f ∷ fs) e free = free
side_free s side.Receiving frames e free = tt

first_free : (s : PlainIface) (back accepted : Option Content) (whole : Option WholePacket) → s.back ≡ back → s.accepted ≡ accepted → IsFree s (first_rule back accepted whole (side_plan s.side s.frames))
first_free s (Some b) accepted whole e f = tt
first_free s None (Some b) whole e f = e
first_free s None None (Some p) e f = f
first_free s None None None e f = side_free s s.side s.frames refl e

-- ---- a whole turn

told_so : (s : PlainIface) (now : ℕ) (p : IfacePlan) (a : AnswerShown) → IsFree s p → IsDone s.frames s.sending → AllByRecursion IsBare (got_by (queue.Rx s.number) (op_of s p) a) → Fits (op_of s p) a
    → Tells (waiting s p) (after_answer (waiting s p) now p a).iface a
told_so s now plan.Rest a free done bare fits = told_rest (waiting s plan.Rest) now a done fits
told_so s now plan.Return a free done bare fits = told_return s.back (waiting s plan.Return) now a refl done fits
told_so s now plan.Deliver a free done bare fits = told_deliver s.number s.accepted (waiting s plan.Deliver) now a free done fits
told_so s now plan.Take a free done bare fits = told_take (waiting s plan.Take) now a free done fits
told_so s now plan.Transmit a free done bare fits = told_transmit s.number s.frames (waiting s plan.Transmit) now a free (λ none over. done none) fits
told_so s now plan.Fetch a free done bare fits = told_fetch (waiting s plan.Fetch) now a free.0 (done free.1) done fits
told_so s now plan.Receive a free done bare fits = told_receive (waiting s plan.Receive) now a bare done fits

-- the interface of this name, between two turns
pub record IsBetween (node number : ℕ) (s : PlainIface) : Type 0 where
  pub named : IsNamed node number s
  pub done : IsDone s.frames s.sending

pub iface_keeps : (node number : ℕ) (s : PlainIface) (now : ℕ) (a : AnswerShown) → IsBetween node number s → Fits (asks s now) a → AllByRecursion IsBare (got_by (queue.Rx number) (asks s now) a)
    → Turns (IsBetween node number) holds s (tells (asked s now) now a) (asks s now) a
iface_keeps node number s now a is fits got =
    let p : IfacePlan = plan_of s in
    let own = subst (λ n. AllByRecursion IsBare (got_by (queue.Rx n) (asks s now) a)) (sym is.named.1) got in
    let told = told_so s now p a (first_free s s.back s.accepted s.whole refl refl) is.done own fits in
    let first = handed_law s p in
    record {
      again = record { named = step_named node number s now a is.named; done = told.done };
      numbers = λ k. omega (arith, told.numbers k, first k);
    }
