-- An interface puts the first frame of a transmission onto its link at most once, and none of a transmission of another interface.
use Rattle.std.proofs.Common.{◌≡◌, ℕ, ◌+◌, ◌≤◌, ◌==◌, ◌&&◌, Bool, true, false, nat_lt, Option, Some, None, List, [], ◌∷◌, drop, length, slice_get, unwrap_or, refl, sym, ap, ◌∙◌, arith, le_refl, eqb-true, ltb-true, ltb-false}
use Rattle.std.specs.Prelude.{if◌then◌else◌}
use Rattle.csp_base.specs.declared.limits.TheConstants.{MAX_PAYLOAD}
use Rattle.csp_base.specs.declared.traces.Origin.{Origin}
use Rattle.csp_base.specs.declared.traces.Trace.{Trace}
use Rattle.csp_buffer.specs.Content.{Content}
use Rattle.csp_deck.specs.Runs.{IsRun}
use Rattle.csp_delivery.specs.Delivery.{IsOf, firsts, frames_among, is_first_of, names}
use Rattle.csp_iface.specs.Asking.{asked, delivered, given, op_of, transmitted}
use Rattle.csp_iface.specs.PlainIface.{PlainIface}
use Rattle.csp_iface.specs.Planning.{plan_of}
use Rattle.csp_iface.specs.Sending.{next_node}
use Rattle.csp_iface.specs.Telling.{begun, caught, fetched, is_too_big, kept, pushed, taken_up, tells}
use Rattle.csp_iface.specs.declared.plan.IfacePlan.{IfacePlan}
use Rattle.csp_iface.specs.declared.plan.IfacePlan.TheVariants as plan
use Rattle.csp_link.specs.Turns.{frame_in}
use Rattle.csp_log.specs.Pictures.{Fits}
use Rattle.csp_log.specs.declared.entry.Entry.{Entry}
use Rattle.csp_log.specs.declared.frame.Frame.{Frame}
use Rattle.csp_log.specs.declared.places.LinkKind.{LinkKind}
use Rattle.csp_log.specs.declared.places.QueueId.TheVariants as queue
use Rattle.csp_log.specs.declared.shown.AnswerShown.{AnswerShown}
use Rattle.csp_log.specs.declared.shown.AnswerShown.TheVariants as answer
use Rattle.csp_log.specs.declared.shown.ItemShown.{ItemShown}
use Rattle.csp_log.specs.declared.shown.ItemShown.TheVariants as item
use Rattle.csp_party.specs.Any.{an_iface}
use Rattle.csp_scene.proofs.Public.{AllByRecursion-map}
use Rattle.csp_topology.specs.Parties.{iface_opening, party_steps}
use Rattle.csp_consistent.specs.Reading.{put_by, puts}
use Rattle.csp_consistent.proofs.Public.{IsFrameOf, IsOn, IsSuchFrame, step_on, told, waiting, IsBegun, transmitted_all}
use Rattle.csp_delivery.proofs.SendingCounts.{among_append, first, firsts_cons, none_among}
use Rattle.csp_delivery.proofs.SendingFrames.{firsts_sent, unnamed}

-- ---- at most once

-- where so many transmissions have begun: 1 where that of this serial is still to begin
abbrev yet : (serial begun : ℕ) → ℕ
yet serial begun = if nat_lt serial begun then 0 else 1

yet_one : (serial begun : ℕ) → yet serial begun ≤ 1
yet_one serial begun =
    by (nat_lt serial begun)
  where
    by : (b : Bool) → (if b then 0 else 1) ≤ 1
    by true = omega arith
    by false = omega arith

-- the next one begins
begins : (serial begun : ℕ) → (if serial == begun then 1 else 0) + yet serial (begun + 1) ≤ yet serial begun
begins serial begun =
    by (serial == begun) (nat_lt serial (begun + 1)) (nat_lt serial begun) refl refl refl
  where
    by : (same after before : Bool) → (serial == begun) ≡ same → nat_lt serial (begun + 1) ≡ after → nat_lt serial begun ≡ before → (if same then 1 else 0) + (if after then 0 else 1) ≤ (if before then 0 else 1)
    by true after true e f g = absurd (omega (arith, eqb-true serial begun e, ltb-true serial begun g))
    by true true false e f g = omega arith
    by true false false e f g = absurd (omega (arith, eqb-true serial begun e, ltb-false serial (begun + 1) f))
    by false true before e f g = omega arith
    by false false true e f g = absurd (omega (arith, ltb-false serial (begun + 1) f, ltb-true serial begun g))
    by false false false e f g = omega arith

module _ (o : Origin) (n : ℕ) where
  -- how many first frames an interface may still put onto its link: those that it has, and one where the transmission is still to begin
  abbrev left : PlainIface → ℕ
  left s = firsts o s.frames + yet o.serial s.serial

  -- how many a turn put there
  abbrev now_put : PlainIface → IfacePlan → AnswerShown → ℕ
  now_put s p a = firsts o (frames_among (put_by (queue.Tx n) (op_of s p) a))

  -- ---- what a turn puts there it has no more

  one_if : (b : Bool) (f : Frame) → firsts o (frames_among (if b then item.Frame f ∷ [] else [])) ≤ first o f
  one_if true f = omega (arith, firsts_cons o f [])
  one_if false f = omega arith

  transmitted_few : (m : ℕ) (fs : List Frame) (a : AnswerShown) → firsts o (frames_among (put_by (queue.Tx n) (transmitted m (slice_get fs 0)) a)) + firsts o (drop 1 fs) ≤ firsts o fs
  transmitted_few m [] a = le_refl 0
  transmitted_few m (f ∷ fs) answer.Pushed = omega (arith, one_if (m == n) f, firsts_cons o f fs)
  transmitted_few m (f ∷ fs) _ = omega (arith, firsts_cons o f fs)

  given_none : (b : Option Content) (a : AnswerShown) → firsts o (frames_among (put_by (queue.Tx n) (given b) a)) ≡ 0
  given_none None a = refl
  given_none (Some b) a = refl

  delivered_none : (m : ℕ) (b : Option Content) (a : AnswerShown) → firsts o (frames_among (put_by (queue.Tx n) (delivered m b) a)) ≡ 0
  delivered_none m None a = refl
  delivered_none m (Some b) answer.Pushed = refl
  delivered_none m (Some b) _ = refl

  put_few : (s : PlainIface) (p : IfacePlan) (a : AnswerShown) → now_put s p a + left (waiting s p) ≤ left s
  put_few s plan.Rest a = omega arith
  put_few s plan.Return a = omega (arith, given_none s.back a)
  put_few s plan.Deliver a = omega (arith, delivered_none s.number s.accepted a)
  put_few s plan.Take a = omega arith
  put_few s plan.Transmit a = omega (arith, transmitted_few s.number s.frames a)
  put_few s plan.Fetch a = omega arith
  put_few s plan.Receive a = omega arith

  -- ---- and then it has no more than it had

  pushed_few : (fs : List Frame) (s : PlainIface) → left (pushed fs s) ≡ left s
  pushed_few [] s = refl
  pushed_few (_ ∷ _) s = refl

  -- a frame that comes back is the one that went
  came_back : (m : ℕ) (fs : List Frame) (f : Frame) → Fits (transmitted m (slice_get fs 0)) (answer.Full (item.Frame f))
      → firsts o (frames_among (put_by (queue.Tx n) (transmitted m (slice_get fs 0)) (answer.Full (item.Frame f)))) + firsts o (f ∷ drop 1 fs) ≤ firsts o fs
  came_back m [] f fits = absurd fits
  came_back m (g ∷ fs) f fits =
      let same : f ≡ g = ap (λ i. unwrap_or (frame_in i) g) fits in
      omega (arith, ap (λ h. firsts o (h ∷ fs)) same)

  kept_few : (s : PlainIface) (i : ItemShown) → Fits (op_of s plan.Transmit) (answer.Full i) → now_put s plan.Transmit (answer.Full i) + left (kept i (waiting s plan.Transmit)) ≤ left s
  kept_few s (item.Frame f) fits = omega (arith, came_back s.number s.frames f fits)
  kept_few s (item.Packet mark b) fits = put_few s plan.Transmit (answer.Full (item.Packet mark b))
  kept_few s (item.Note k) fits = put_few s plan.Transmit (answer.Full (item.Note k))

  begun_few : (mark : ℕ) (b : Content) (s : PlainIface) → length b.payload ≤ MAX_PAYLOAD → left (begun mark b s) ≤ left s
  begun_few mark b s short = omega (arith, firsts_sent o s.kind s.node s.number s.serial (next_node mark b.header) b short, begins o.serial s.serial)

  fetched_few : (i : ItemShown) (s : PlainIface) → s.mtu ≤ MAX_PAYLOAD → left (fetched i s).iface ≤ left s
  fetched_few (item.Packet mark b) s most =
      by (is_too_big s b) refl
    where
      by : (big : Bool) → is_too_big s b ≡ big → left (taken_up big mark b s).iface ≤ left s
      by true e = le_refl (left s)
      by false e = begun_few mark b s (omega (arith, ltb-false s.mtu (length b.payload) e, most))
  fetched_few (item.Frame _) s most = le_refl (left s)
  fetched_few (item.Note _) s most = le_refl (left s)

  caught_few : (now : ℕ) (i : ItemShown) (s : PlainIface) → left (caught now i s).iface ≡ left s
  caught_few now (item.Frame _) s = refl
  caught_few now (item.Packet _ _) s = refl
  caught_few now (item.Note _) s = refl

  told_few : (s : PlainIface) (now : ℕ) (p : IfacePlan) (a : AnswerShown) → s.mtu ≤ MAX_PAYLOAD → Fits (op_of s p) a → now_put s p a + left (told s now p a) ≤ left s
  told_few s now plan.Return answer.Given most fits = put_few s plan.Return answer.Given
  told_few s now plan.Return (answer.PoolFull b) most fits = put_few s plan.Return (answer.PoolFull b)
  told_few s now plan.Deliver answer.Pushed most fits = put_few s plan.Deliver answer.Pushed
  told_few s now plan.Deliver (answer.Full i) most fits = put_few s plan.Deliver (answer.Full i)
  told_few s now plan.Take (answer.Taken b) most fits = put_few s plan.Take (answer.Taken b)
  told_few s now plan.Take answer.NoBuffer most fits = put_few s plan.Take answer.NoBuffer
  told_few s now plan.Transmit answer.Pushed most fits = omega (arith, put_few s plan.Transmit answer.Pushed, pushed_few (waiting s plan.Transmit).frames (waiting s plan.Transmit))
  told_few s now plan.Transmit (answer.Full i) most fits = kept_few s i fits
  told_few s now plan.Fetch (answer.Popped i) most fits = omega (arith, fetched_few i (waiting s plan.Fetch) most)
  told_few s now plan.Fetch answer.Empty most fits = put_few s plan.Fetch answer.Empty
  told_few s now plan.Receive (answer.Popped i) most fits = omega (arith, caught_few now i (waiting s plan.Receive))
  told_few s now plan.Receive answer.Empty most fits = put_few s plan.Receive answer.Empty
  told_few s now p a most fits = put_few s p a

  -- ---- all turns

  run_few : (node number : ℕ) (kind : LinkKind) (mtu : ℕ) → mtu ≤ MAX_PAYLOAD → (es : List Entry) (time : ℕ) (s : PlainIface) → IsRun party_steps time (an_iface s) es → IsOn node number kind mtu s
      → firsts o (frames_among (puts (queue.Tx n) es)) ≤ left s
  run_few node number kind mtu most [] time s run on = omega arith
  run_few node number kind mtu most (e ∷ es) time s run on =
      let p : IfacePlan = plan_of s in
      let t : PlainIface = tells (asked s e.time) e.time e.answer in
      let cut : firsts o (frames_among (puts (queue.Tx n) (e ∷ es))) ≡ firsts o (frames_among (put_by (queue.Tx n) e.op e.answer)) + firsts o (frames_among (puts (queue.Tx n) es)) = among_append o (put_by (queue.Tx n) e.op e.answer) (puts (queue.Tx n) es) in
      let this : firsts o (frames_among (put_by (queue.Tx n) e.op e.answer)) ≡ now_put s p e.answer = ap (λ q. firsts o (frames_among (put_by (queue.Tx n) q e.answer))) run.1.op in
      let turn : now_put s p e.answer + left t ≤ left s = told_few s e.time p e.answer (omega (arith, most, on.3)) run.1.fits in
      let rest : firsts o (frames_among (puts (queue.Tx n) es)) ≤ left t = run_few node number kind mtu most es e.time t run.2 (step_on node number kind mtu s e.time e.answer on) in
      omega (arith, cut, this, turn, rest)

-- an interface puts no two first frames of a transmission onto its link
pub sent_once : (o : Origin) (node number : ℕ) (kind : LinkKind) (mtu : ℕ) (heeds : Option ℕ) (es : List Entry) → mtu ≤ MAX_PAYLOAD → IsRun party_steps 0 (an_iface (iface_opening node number kind mtu heeds)) es
    → firsts o (frames_among (puts (queue.Tx number) es)) ≤ 1
sent_once o node number kind mtu heeds es most run =
    let few : firsts o (frames_among (puts (queue.Tx number) es)) ≤ 0 + yet o.serial 0 = run_few o number node number kind mtu most es 0 (iface_opening node number kind mtu heeds) run (refl, refl, refl, refl) in
    omega (arith, few, yet_one o.serial 0)

-- ---- of its own transmissions alone

both_parts : (a b c : Bool) → (a && b && c) ≡ true → (a ≡ true) × (b ≡ true)
both_parts true true c e = (refl, refl)
both_parts true false c e = absurd cc
both_parts false b c e = absurd cc

begun_own : (o : Origin) (node number : ℕ) (es : List Entry) (t : Trace) → (IsOf o node number → ⊥) → IsBegun node number es t → names o t ≡ false
begun_own o node number es t other is =
    by (names o t) refl
  where
    by : (b : Bool) → names o t ≡ b → names o t ≡ false
    by true e =
        let parts = both_parts (o.node == node) (o.iface == number) (o.serial == is.serial) (ap (names o) (sym is.trace) ∙ e) in
        absurd (other (eqb-true o.node node parts.0, eqb-true o.iface number parts.1))
    by false e = e

-- an interface puts no first frame of a transmission of another onto its link
pub sent_own : (o : Origin) (node number : ℕ) (kind : LinkKind) (mtu : ℕ) (heeds : Option ℕ) (es : List Entry) → (IsOf o node number → ⊥) → IsRun party_steps 0 (an_iface (iface_opening node number kind mtu heeds)) es
    → firsts o (frames_among (puts (queue.Tx number) es)) ≡ 0
sent_own o node number kind mtu heeds es other run =
    none_among o (puts (queue.Tx number) es)
    (AllByRecursion-map (IsFrameOf (IsBegun node number es)) (IsSuchFrame (λ f. is_first_of o f ≡ false)) (puts (queue.Tx number) es) none (transmitted_all node number kind mtu heeds es run))
  where
    none : (i : ItemShown) → IsFrameOf (IsBegun node number es) i → IsSuchFrame (λ f. is_first_of o f ≡ false) i
    none (item.Frame f) is = unnamed o f (begun_own o node number es f.trace other is)
    none (item.Packet _ _) is = tt
    none (item.Note _) is = tt
