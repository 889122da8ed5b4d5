-- What an interface puts into its inbox of a transmission in a turn, with what it has of it after the turn, is no more than what it had before and the first
-- frames of it that came.
use Rattle.std.proofs.Common.{◌≡◌, ℕ, ◌+◌, ◌==◌, ◌≤◌, Bool, true, false, cond, Option, Some, None, List, [], ◌∷◌, count_by, filter_map, slice_get, refl, sym, ap, ◌∙◌, subst, zero-add, arith}
use Rattle.std.specs.Option.{option_map_or}
use Rattle.std.specs.Prelude.{if◌then◌else◌}
use Rattle.std.proofs.lemmas.Bool.{eq-eqb}
use Rattle.csp_base.specs.declared.traces.Origin.{Origin}
use Rattle.csp_buffer.specs.Content.{Content}
use Rattle.csp_iface.specs.Asking.{asked, asks, delivered, given, op_of, transmitted}
use Rattle.csp_iface.specs.Heeding.{is_for}
use Rattle.csp_iface.specs.PlainIface.{PlainIface}
use Rattle.csp_iface.specs.Planning.{plan_of, side_plan}
use Rattle.csp_iface.specs.Receiving.{frame_heard, read_further}
use Rattle.csp_iface.specs.Telling.{fetched, filled, going_on, has_packet, hearing, is_too_big, kept, pushed, taken_up, tells, unmoved}
use Rattle.csp_iface.specs.declared.packet.WholePacket.{WholePacket}
use Rattle.csp_iface.specs.declared.plan.IfacePlan.{IfacePlan}
use Rattle.csp_iface.specs.declared.plan.IfacePlan.TheVariants as plan
use Rattle.csp_link.specs.Turns.{frame_in}
use Rattle.csp_log.specs.Moving.{moved_by}
use Rattle.csp_log.specs.declared.frame.Frame.{Frame}
use Rattle.csp_log.specs.declared.places.QueueId.{QueueId}
use Rattle.csp_log.specs.declared.places.QueueId.TheVariants as queue
use Rattle.csp_log.specs.declared.shown.AnswerShown.{AnswerShown}
use Rattle.csp_log.specs.declared.shown.AnswerShown.TheVariants as answer
use Rattle.csp_log.specs.declared.shown.ItemShown.{ItemShown}
use Rattle.csp_log.specs.declared.shown.ItemShown.TheVariants as item
use Rattle.csp_log.specs.declared.shown.OpShown.{OpShown}
use Rattle.csp_log.specs.declared.shown.OpShown.TheVariants as op
use Rattle.csp_record.specs.Passed.{put_in}
use Rattle.csp_consistent.specs.Reading.{got_by}
use Rattle.csp_consistent.proofs.Public.{never_taking, read_on_in, taking, told, waiting}
use Rattle.csp_delivery.specs.Delivery.{is_first_of}
use Rattle.csp_delivery.proofs.ReceivingFrames.{IsBus, IsHeardFew, further_few, hears_few, kept_of, named, whole_of}

module _ (o : Origin) where
  -- a packet in its buffer, where there is one
  abbrev pub accepted_of : Option Content → ℕ
  accepted_of c = option_map_or (λ b. named o b.trace) c 0

  -- what an interface has of the transmission: packets in its hands, and partial packets
  abbrev pub held_by : PlainIface → ℕ
  held_by s = accepted_of s.accepted + (whole_of o s.whole + kept_of o s.receiver)

  -- what an operation and its answer put of it into an inbox, and how many first frames they got
  abbrev pub put_there : OpShown → AnswerShown → ℕ
  put_there p a = accepted_of (put_in (moved_by p a))

  abbrev pub came_there : QueueId → OpShown → AnswerShown → ℕ
  came_there q p a = count_by (is_first_of o) (filter_map frame_in (got_by q p a))

  -- ---- the operation

  given_few : (n : ℕ) (c : Option Content) (a : AnswerShown) → put_there (given c) a + n ≤ n
  given_few n None a = omega arith
  given_few n (Some b) a = omega arith

  delivered_few : (number n : ℕ) (c : Option Content) (a : AnswerShown) → put_there (delivered number c) a + (0 + n) ≤ accepted_of c + n
  delivered_few number n None a = omega arith
  delivered_few number n (Some b) answer.Pushed = omega arith
  delivered_few number n (Some b) _ = omega arith

  transmitted_few : (number n : ℕ) (f : Option Frame) (a : AnswerShown) → put_there (transmitted number f) a + n ≤ n
  transmitted_few number n None a = omega arith
  transmitted_few number n (Some f) a = omega arith

  popped_few : (q : QueueId) (n : ℕ) (a : AnswerShown) → put_there (op.Pop q) a + n ≤ n
  popped_few q n (answer.Popped (item.Packet _ _)) = omega arith
  popped_few q n (answer.Popped (item.Frame _)) = omega arith
  popped_few q n (answer.Popped (item.Note _)) = omega arith
  popped_few q n _ = omega arith

  handed_few : (s : PlainIface) (p : IfacePlan) (a : AnswerShown) → put_there (op_of s p) a + held_by (waiting s p) ≤ held_by s
  handed_few s plan.Rest a = omega arith
  handed_few s plan.Return a = given_few (held_by s) s.back a
  handed_few s plan.Deliver a = delivered_few s.number (whole_of o s.whole + kept_of o s.receiver) s.accepted a
  handed_few s plan.Take a = omega arith
  handed_few s plan.Transmit a = transmitted_few s.number (held_by s) (slice_get s.frames 0) a
  handed_few s plan.Fetch a = popped_few (queue.Out s.number) (held_by s) a
  handed_few s plan.Receive a = popped_few (queue.Rx s.number) (held_by s) a

  waiting_bus : (s : PlainIface) (p : IfacePlan) → IsBus s.receiver → IsBus (waiting s p).receiver
  waiting_bus s plan.Rest bus = bus
  waiting_bus s plan.Return bus = bus
  waiting_bus s plan.Deliver bus = bus
  waiting_bus s plan.Take bus = bus
  waiting_bus s plan.Transmit bus = bus
  waiting_bus s plan.Fetch bus = bus
  waiting_bus s plan.Receive bus = bus

  -- ---- its answer

  -- a bus is kept, and there is no more of the transmission than this
  abbrev pub HoldsFew : ℕ → PlainIface → Type 0
  HoldsFew n s = IsBus s.receiver × (held_by s ≤ n)

  more_few : (n c : ℕ) (s : PlainIface) → HoldsFew n s → HoldsFew (n + c) s
  more_few n c s h = (h.0, omega (arith, h.1))

  -- reading on
  reads_few : (n : ℕ) (s : PlainIface) → HoldsFew n s → HoldsFew n (read_on_in s)
  reads_few n s h =
      going (has_packet s)
    where
      going : (b : Bool) → HoldsFew n (record s { receiver = (going_on b s).receiver; whole = (going_on b s).whole })
      going true = h
      going false =
          let new : IsHeardFew o (kept_of o s.receiver) (read_further s.receiver) = further_few o s.receiver h.0 in
          (new.bus, omega (arith, h.1, new.few))

  pushed_few : (n : ℕ) (fs : List Frame) (s : PlainIface) → HoldsFew n s → HoldsFew n (pushed fs s)
  pushed_few n [] s h = h
  pushed_few n (_ ∷ _) s h = h

  kept_few : (n : ℕ) (i : ItemShown) (s : PlainIface) → HoldsFew n s → HoldsFew n (kept i s)
  kept_few n (item.Frame _) s h = h
  kept_few n (item.Packet _ _) s h = h
  kept_few n (item.Note _) s h = h

  fetched_few : (n : ℕ) (i : ItemShown) (s : PlainIface) → HoldsFew n s → HoldsFew n (fetched i s).iface
  fetched_few n (item.Frame _) s h = h
  fetched_few n (item.Packet mark b) s h = taken (is_too_big s b)
    where
      taken : (big : Bool) → HoldsFew n (taken_up big mark b s).iface
      taken true = h
      taken false = h
  fetched_few n (item.Note _) s h = h

  -- a whole packet takes a buffer
  filled_few : (accepted : Option Content) (whole : Option WholePacket) (b : Content) (kept n : ℕ) → (k : WholePacket) × (whole ≡ Some k) → accepted_of accepted + (whole_of o whole + kept) ≤ n → accepted_of (Some (filled whole b)) + (0 + kept) ≤ n
  filled_few accepted None b kept n there h = absurd cc
  filled_few accepted (Some p) b kept n there h = omega (arith, h)

  -- a frame that came
  came_one : (number : ℕ) (f : Frame) → count_by (is_first_of o) (filter_map frame_in (if number == number then item.Frame f ∷ [] else [])) ≡ cond (is_first_of o f) 1 0
  came_one number f = ap (λ (b : Bool). count_by (is_first_of o) (filter_map frame_in (if b then item.Frame f ∷ [] else []))) (eq-eqb number number refl) ∙ zero-add (cond (is_first_of o f) 1 0)

  heard_few : (n : ℕ) (s : PlainIface) (now : ℕ) (f : Frame) → HoldsFew n s → HoldsFew (n + cond (is_first_of o f) 1 0) (told s now plan.Receive (answer.Popped (item.Frame f)))
  heard_few n s now f h =
      by (is_for s.heeds f)
    where
      by : (b : Bool) → HoldsFew (n + cond (is_first_of o f) 1 0) (hearing (if b then frame_heard now s.receiver f else unmoved s) (waiting s plan.Receive)).iface
      by true =
          let new : IsHeardFew o (kept_of o s.receiver + cond (is_first_of o f) 1 0) (frame_heard now s.receiver f) = hears_few o now s.receiver f h.0 in
          (new.bus, omega (arith, h.1, new.few))
      by false = more_few n (cond (is_first_of o f) 1 0) s h

  told_few : (n : ℕ) (s : PlainIface) (now : ℕ) (p : IfacePlan) (a : AnswerShown) → (p ≡ plan.Take → (k : WholePacket) × (s.whole ≡ Some k)) → HoldsFew n (waiting s p)
      → HoldsFew (n + came_there (queue.Rx s.number) (op_of s p) a) (told s now p a)
  told_few n s now plan.Return answer.Given take h = more_few n _ s h
  told_few n s now plan.Return (answer.PoolFull b) take h = more_few n _ s h
  told_few n s now plan.Deliver answer.Pushed take h = more_few n _ (waiting s plan.Deliver) h
  told_few n s now plan.Deliver (answer.Full i) take h = more_few n _ (waiting s plan.Deliver) h
  told_few n s now plan.Take (answer.Taken b) take h = (h.0, filled_few s.accepted s.whole b (kept_of o s.receiver) (n + 0) (take refl) (omega (arith, h.1)))
  told_few n s now plan.Take answer.NoBuffer take h = (h.0, omega (arith, h.1))
  told_few n s now plan.Transmit answer.Pushed take h = pushed_few _ (waiting s plan.Transmit).frames (waiting s plan.Transmit) (more_few n _ (waiting s plan.Transmit) h)
  told_few n s now plan.Transmit (answer.Full i) take h = kept_few _ i (waiting s plan.Transmit) (more_few n _ (waiting s plan.Transmit) h)
  told_few n s now plan.Fetch (answer.Popped i) take h = fetched_few _ i (waiting s plan.Fetch) (more_few n _ (waiting s plan.Fetch) h)
  told_few n s now plan.Fetch answer.Empty take h = more_few n 0 s h
  told_few n s now plan.Receive (answer.Popped (item.Frame f)) take h =
      subst (λ c. HoldsFew (n + c) (told s now plan.Receive (answer.Popped (item.Frame f)))) (sym (came_one s.number f)) (heard_few n s now f h)
  told_few n s now plan.Receive (answer.Popped (item.Packet mark b)) take h = more_few n _ s h
  told_few n s now plan.Receive (answer.Popped (item.Note m)) take h = more_few n _ s h
  told_few n s now plan.Receive answer.Empty take h = more_few n 0 s h
  told_few n s now p a take h = more_few n _ (waiting s p) h

  -- a turn: what it put with what there is after it is no more than what there was with what came
  pub record IsPaid (s t : PlainIface) (put came : ℕ) : Type 0 where
    pub bus : IsBus t.receiver
    pub few : put + held_by t ≤ held_by s + came

  pub step_paid : (s : PlainIface) (now : ℕ) (a : AnswerShown) → IsBus s.receiver → IsPaid s (tells (asked s now) now a) (put_there (asks s now) a) (came_there (queue.Rx s.number) (asks s now) a)
  step_paid s now a bus =
      let p : IfacePlan = plan_of s in
      let came : ℕ = came_there (queue.Rx s.number) (op_of s p) a in
      let handed : put_there (op_of s p) a + held_by (waiting s p) ≤ held_by s = handed_few s p a in
      let take : p ≡ plan.Take → (k : WholePacket) × (s.whole ≡ Some k) = taking s.back s.accepted s.whole (side_plan s.side s.frames) (never_taking s.side s.frames) in
      let after : HoldsFew (held_by (waiting s p) + came) (tells (asked s now) now a) =
      reads_few (held_by (waiting s p) + came) (told s now p a) (told_few (held_by (waiting s p)) s now p a take (waiting_bus s p bus, omega arith)) in
      record { bus = after.0; few = omega (arith, handed, after.1) }
