-- What crosses a link or a hub and its lanes is what its plan makes of it, and keeps its trace.
use Rattle.std.proofs.Common.{◌≡◌, ◌≢◌, ℕ, zero, suc, ◌+◌, ◌<◌, ◌==◌, Bool, true, false, Option, Some, None, List, [], ◌∷◌, ◌++◌, length, replicate, slice_get, refl, sym, ap, ◌∙◌, subst, arith}
use Rattle.std.specs.Prelude.{if◌then◌else◌}
use Rattle.std.specs.List.{AllByRecursion}
use Rattle.std.proofs.lemmas.Bool.{eq-eqb, eqb-false}
use Rattle.std.proofs.lemmas.List.{append_assoc}
use Rattle.std.proofs.lemmas.List.Concat.{flat_map-append}
use Rattle.csp_base.specs.declared.traces.Trace.{Trace}
use Rattle.csp_hub.specs.Applied as hub
use Rattle.csp_link.specs.Applied.{frames_popped, frames_pushed, made, made_from, popped_by, pushed_by}
use Rattle.csp_link.specs.Copies.{copies_of, damaged}
use Rattle.csp_link.specs.Fates.{fate_of}
use Rattle.csp_link.specs.Ways.{number, other, from_queue, to_queue}
use Rattle.csp_link.specs.declared.fates.Fate.{Fate}
use Rattle.csp_link.specs.declared.fault.Fault.{Fault}
use Rattle.csp_link.specs.declared.way.Way.{Way}
use Rattle.csp_log.specs.declared.entry.Entry.{Entry}
use Rattle.csp_log.specs.declared.frame.Frame.{Frame}
use Rattle.csp_log.specs.declared.places.End.{End}
use Rattle.csp_log.specs.declared.places.QueueId.{QueueId}
use Rattle.csp_log.specs.declared.places.QueueId.TheVariants as queue
use Rattle.csp_log.specs.declared.shown.ItemShown.{ItemShown}
use Rattle.csp_log.specs.declared.shown.ItemShown.TheVariants as item
use Rattle.csp_log.specs.declared.shown.OpShown.{OpShown}
use Rattle.csp_log.specs.declared.shown.OpShown.TheVariants as op
use Rattle.csp_log.specs.declared.shown.AnswerShown.{AnswerShown}
use Rattle.csp_log.specs.declared.shown.AnswerShown.TheVariants as answer
use Rattle.csp_record.specs.Record.{PlainRecord}
use Rattle.csp_scene.proofs.Public.{AllByRecursion-append, slice_get-seam}
use Rattle.csp_scene.specs.Scene.{PlainScene, PlainLink}
use Rattle.csp_consistent.specs.Lanes.{IsInOrder, AreInOrder}
use Rattle.csp_topology.proofs.Public.{AreHome, OfEnd, of_end}
use Rattle.csp_topology.specs.Lanes.{PlainLane}
use Rattle.csp_consistent.specs.Links.{IsPlanned, IsSpread}
use Rattle.csp_consistent.specs.Reading.{entries_of, is_queue, put_by, got_by, puts, gets, left_in}
use Rattle.csp_consistent.proofs.Each.{each_first, each_last, each_if, each_permuted}
use Rattle.csp_consistent.proofs.Planned.{PopsWithin}
use Rattle.csp_consistent.proofs.Received.{IsSuchFrame, came}

-- ---- a direction of a link by the ends of a hub

popped_alike : (way : Way) (o : OpShown) (a : AnswerShown) → popped_by way o a ≡ hub.popped_by (number way) o a
popped_alike way (op.Pop (queue.Tx k)) (answer.Popped (item.Frame f)) = refl
popped_alike way _ _ = refl

pub all_popped_alike : (way : Way) (es : List Entry) → frames_popped way es ≡ hub.frames_popped (number way) es
all_popped_alike way [] = refl
all_popped_alike way (e ∷ es) = λ i. popped_alike way e.op e.answer i ++ all_popped_alike way es i

pushed_alike : (way : Way) (o : OpShown) (a : AnswerShown) → pushed_by way o a ≡ hub.pushed_by (number (other way)) o a
pushed_alike way (op.Push (queue.Rx k) (item.Frame f)) answer.Pushed = refl
pushed_alike way _ _ = refl

all_pushed_alike : (way : Way) (es : List Entry) → frames_pushed way es ≡ hub.frames_pushed (number (other way)) es
all_pushed_alike way [] = refl
all_pushed_alike way (e ∷ es) = λ i. pushed_alike way e.op e.answer i ++ all_pushed_alike way es i

-- ---- the frames that were popped from an end

popped_frame : (Q : Frame → Type 0) (b : Bool) (f : Frame) → AllByRecursion (IsSuchFrame Q) (if b then item.Frame f ∷ [] else []) → AllByRecursion Q (if b then f ∷ [] else [])
popped_frame Q true f all = all
popped_frame Q false f all = tt

popped_of : (Q : Frame → Type 0) (end : ℕ) (o : OpShown) (a : AnswerShown) → AllByRecursion (IsSuchFrame Q) (got_by (queue.Tx end) o a) → AllByRecursion Q (hub.popped_by end o a)
popped_of Q end (op.Pop (queue.Tx k)) (answer.Popped (item.Frame f)) all = popped_frame Q (k == end) f all
popped_of Q end _ _ all = tt

all_popped : (Q : Frame → Type 0) (end : ℕ) (es : List Entry) → AllByRecursion (IsSuchFrame Q) (gets (queue.Tx end) es) → AllByRecursion Q (hub.frames_popped end es)
all_popped Q end [] all = tt
all_popped Q end (e ∷ es) all =
    AllByRecursion-append Q (hub.popped_by end e.op e.answer) (hub.frames_popped end es)
    (popped_of Q end e.op e.answer (each_first (IsSuchFrame Q) (got_by (queue.Tx end) e.op e.answer) (gets (queue.Tx end) es) all))
    (all_popped Q end es (each_last (IsSuchFrame Q) (got_by (queue.Tx end) e.op e.answer) (gets (queue.Tx end) es) all))

-- ---- their copies

alike : (R : Frame → Type 0) (n : ℕ) (f : Frame) → R f → AllByRecursion R (replicate n f)
alike R zero f here = tt
alike R (suc n) f here = (here, alike R n f here)

copies_have : (R : Frame → Type 0) (fate : Fate) (f : Frame) → R (damaged fate.flip f) → AllByRecursion R (copies_of fate f)
copies_have R fate f here =
    chosen fate.lost
  where
    chosen : (b : Bool) → AllByRecursion R (if b then [] else replicate (fate.repeats + 1) (damaged fate.flip f))
    chosen true = tt
    chosen false = alike R (fate.repeats + 1) (damaged fate.flip f) here

all_made : (Q R : Frame → Type 0) (fate : ℕ → Fate) (n : ℕ) (fs : List Frame) → ((k : ℕ) (f : Frame) → slice_get fs k ≡ Some f → Q f → R (damaged (fate (k + n)).flip f))
    → AllByRecursion Q fs → AllByRecursion R (made_from fate n fs)
all_made Q R fate n [] h all = tt
all_made Q R fate n (f ∷ fs) h all =
    let here : 0 + n ≡ n = omega arith in
    let later : (k : ℕ) → suc k + n ≡ k + (n + 1) = λ k. omega arith in
    AllByRecursion-append R (copies_of (fate n) f) (made_from fate (n + 1) fs) (copies_have R (fate n) f (subst (λ m. R (damaged (fate m).flip f)) here (h 0 f refl all.0)))
    (all_made Q R fate (n + 1) fs (λ k g there has. subst (λ m. R (damaged (fate m).flip g)) (later k) (h (suc k) g there has)) all.1)

-- ---- the frames that were pushed to an end

pushed_frame : (Q : Frame → Type 0) (b : Bool) (f : Frame) → AllByRecursion Q (if b then f ∷ [] else []) → AllByRecursion (IsSuchFrame Q) (if b then item.Frame f ∷ [] else [])
pushed_frame Q true f all = all
pushed_frame Q false f all = tt

-- a frame goes over a link only to an `Rx`
lone_frame : (Q : Frame → Type 0) (end : ℕ) (q : QueueId) (f : Frame) (a : AnswerShown) → AllByRecursion Q (hub.pushed_by end (op.Push q (item.Frame f)) a) → AllByRecursion (IsSuchFrame Q) (put_by (queue.Rx end) (op.Push q (item.Frame f)) a)
lone_frame Q end (queue.Rx k) f answer.Pushed all = pushed_frame Q (k == end) f all
lone_frame Q end queue.Inbox f answer.Pushed all = tt
lone_frame Q end (queue.Up k) f answer.Pushed all = tt
lone_frame Q end (queue.Down k) f answer.Pushed all = tt
lone_frame Q end (queue.Out k) f answer.Pushed all = tt
lone_frame Q end (queue.Tx k) f answer.Pushed all = tt
lone_frame Q end q f _ all = tt

pushed_of : (Q : Frame → Type 0) (end : ℕ) (o : OpShown) (a : AnswerShown) → AllByRecursion Q (hub.pushed_by end o a) → AllByRecursion (IsSuchFrame Q) (put_by (queue.Rx end) o a)
pushed_of Q end (op.Push q (item.Packet mark b)) answer.Pushed all = each_if (IsSuchFrame Q) (is_queue (queue.Rx end) q) (item.Packet mark b) tt
pushed_of Q end (op.Push q (item.Note n)) answer.Pushed all = each_if (IsSuchFrame Q) (is_queue (queue.Rx end) q) (item.Note n) tt
pushed_of Q end (op.Push q (item.Frame f)) a all = lone_frame Q end q f a all
pushed_of Q end _ _ all = tt

all_pushed : (Q : Frame → Type 0) (end : ℕ) (es : List Entry) → AllByRecursion Q (hub.frames_pushed end es) → AllByRecursion (IsSuchFrame Q) (puts (queue.Rx end) es)
all_pushed Q end [] all = tt
all_pushed Q end (e ∷ es) all =
    AllByRecursion-append (IsSuchFrame Q) (put_by (queue.Rx end) e.op e.answer) (puts (queue.Rx end) es)
    (pushed_of Q end e.op e.answer (each_first Q (hub.pushed_by end e.op e.answer) (hub.frames_pushed end es) all))
    (all_pushed Q end es (each_last Q (hub.pushed_by end e.op e.answer) (hub.frames_pushed end es) all))

-- ---- a link

-- what becomes of the frames that a link popped in a direction by what its plan says of each is true of those that it pushed
pub across_so : (Q R : Frame → Type 0) (plan : List Fault) (way : Way) (es : List Entry) → IsPlanned plan es way
    → ((k : ℕ) (f : Frame) → slice_get (frames_popped way es) k ≡ Some f → Q f → R (damaged (fate_of (number way) (k + 1) plan).flip f))
    → AllByRecursion (IsSuchFrame Q) (gets (from_queue way) es) → AllByRecursion (IsSuchFrame R) (puts (to_queue way) es)
across_so Q R plan way es planned each all =
    let popped : AllByRecursion Q (frames_popped way es) = subst (AllByRecursion Q) (sym (all_popped_alike way es)) (all_popped Q (number way) es all) in
    let all_copies : AllByRecursion R (made plan way (frames_popped way es)) = all_made Q R (λ n. fate_of (number way) n plan) 1 (frames_popped way es) each popped in
    let pushed : AllByRecursion R (frames_pushed way es) = each_first R (frames_pushed way es) planned.rest (each_permuted R (made plan way (frames_popped way es)) (frames_pushed way es ++ planned.rest) planned.copies all_copies) in
    all_pushed R (number (other way)) es (subst (AllByRecursion R) (all_pushed_alike way es) pushed)

-- ---- a hub

-- a frame came from another end than this, and what holds there of it
pub record IsFromOther (R : ℕ → Frame → Type 0) (n end : ℕ) (f : Frame) : Type 0 where
  pub from : ℕ
  pub low : from < n
  pub apart : from ≢ end
  pub holds : R from f

module _ (Q R : ℕ → Frame → Type 0) (plan : List Fault) (n end : ℕ) where
  -- what a turn makes
  made_so : (before es : List Entry) (o : OpShown) (a : AnswerShown) → PopsWithin n o
      → ((from k : ℕ) (f : Frame) → from ≢ end → slice_get (hub.frames_popped from before ++ (hub.popped_by from o a ++ hub.frames_popped from es)) k ≡ Some f → Q from f → R from (damaged (fate_of from (k + 1) plan).flip f))
      → ((from : ℕ) → from < n → from ≢ end → AllByRecursion (IsSuchFrame (Q from)) (got_by (queue.Tx from) o a)) → AllByRecursion (IsFromOther R n end) (hub.made_of plan end before o a)
  made_so before es (op.Pop (queue.Tx from)) (answer.Popped (item.Frame f)) low each got =
      by (from == end) refl
    where
      first : hub.popped_by from (op.Pop (queue.Tx from)) (answer.Popped (item.Frame f)) ≡ f ∷ []
      first = ap (λ (b : Bool). if b then f ∷ [] else []) (eq-eqb from from refl)

      there : slice_get (hub.frames_popped from before ++ (hub.popped_by from (op.Pop (queue.Tx from)) (answer.Popped (item.Frame f)) ++ hub.frames_popped from es)) (length (hub.frames_popped from before)) ≡ Some f
      there =
          subst (λ fs. slice_get (hub.frames_popped from before ++ (fs ++ hub.frames_popped from es)) (length (hub.frames_popped from before)) ≡ Some f) (sym first)
          (slice_get-seam (hub.frames_popped from before) f (hub.frames_popped from es) (length (hub.frames_popped from before)) refl)

      by : (b : Bool) → (from == end) ≡ b → AllByRecursion (IsFromOther R n end) (if b then [] else hub.next_made plan from before f)
      by true e = tt
      by false e =
          let apart : from ≢ end = eqb-false from end e in
          let k : ℕ = length (hub.frames_popped from before) in
          copies_have (IsFromOther R n end) (fate_of from (k + 1) plan) f
          (record { from = from; low = low; apart = apart; holds = each from k f apart there (came (IsSuchFrame (Q from)) from (item.Frame f) (got from low apart)) })
  made_so before es _ _ low each got = tt

  -- and all turns from some on
  all_spread : (before es all : List Entry) → all ≡ before ++ es → AllByRecursion (λ e. PopsWithin n e.op) es
      → ((from k : ℕ) (f : Frame) → from ≢ end → slice_get (hub.frames_popped from all) k ≡ Some f → Q from f → R from (damaged (fate_of from (k + 1) plan).flip f))
      → ((from : ℕ) → from < n → from ≢ end → AllByRecursion (IsSuchFrame (Q from)) (gets (queue.Tx from) es)) → AllByRecursion (IsFromOther R n end) (hub.made_after plan end before es)
  all_spread before [] all is within each got = tt
  all_spread before (e ∷ es) all is within each got =
      let cut : (from : ℕ) → hub.frames_popped from all ≡ hub.frames_popped from before ++ (hub.popped_by from e.op e.answer ++ hub.frames_popped from es) =
      λ from. ap (hub.frames_popped from) is ∙ flat_map-append (λ (x : Entry). hub.popped_by from x.op x.answer) before (e ∷ es) in
      AllByRecursion-append (IsFromOther R n end) (hub.made_of plan end before e.op e.answer) (hub.made_after plan end (before ++ e ∷ []) es)
      (made_so before es e.op e.answer within.0 (λ from k f apart there. each from k f apart (ap (λ fs. slice_get fs k) (cut from) ∙ there))
      (λ from low apart. each_first (IsSuchFrame (Q from)) (got_by (queue.Tx from) e.op e.answer) (gets (queue.Tx from) es) (got from low apart)))
      (all_spread (before ++ e ∷ []) es all (is ∙ sym (append_assoc before (e ∷ []) es)) within.1 each
      (λ from low apart. each_last (IsSuchFrame (Q from)) (got_by (queue.Tx from) e.op e.answer) (gets (queue.Tx from) es) (got from low apart)))

  -- what becomes of the frames that a hub popped from its other ends by what its plan says of each is true of those that it pushed to an end
  pub spread_so : (es : List Entry) → IsSpread plan es end → AllByRecursion (λ e. PopsWithin n e.op) es
      → ((from k : ℕ) (f : Frame) → from ≢ end → slice_get (hub.frames_popped from es) k ≡ Some f → Q from f → R from (damaged (fate_of from (k + 1) plan).flip f))
      → ((from : ℕ) → from < n → from ≢ end → AllByRecursion (IsSuchFrame (Q from)) (gets (queue.Tx from) es)) → AllByRecursion (IsSuchFrame (IsFromOther R n end)) (puts (queue.Rx end) es)
  spread_so es spread within each got =
      all_pushed (IsFromOther R n end) end es
      (each_first (IsFromOther R n end) (hub.frames_pushed end es) spread.rest
      (each_permuted (IsFromOther R n end) (hub.made_after plan end [] es) (hub.frames_pushed end es ++ spread.rest) spread.copies (all_spread [] es es refl within each got)))

-- a copy has the trace of its frame
pub damaged_of : (Q : Trace → Type 0) (flip : Option ℕ) (f : Frame) → Q f.trace → Q (damaged flip f).trace
damaged_of Q None f here = here
damaged_of Q (Some bit) f here = here

-- ---- lanes

-- what holds of all that was put into a lane holds of all that was got from it
pub through : (P : ItemShown → Type 0) (r : PlainRecord) (l : PlainLane) → IsInOrder r l → AllByRecursion P (puts l.from.queue (entries_of r l.from.who)) → AllByRecursion P (gets l.to.queue (entries_of r l.to.who))
through P r l order all =
    each_first P (gets l.to.queue (entries_of r l.to.who)) (left_in r l.node l.queue 0) (subst (AllByRecursion P) (sym order.kept.order) all)

-- the two lanes between an end and its link or hub are in order
abbrev pub AreLanes : PlainRecord → ℕ → PlainLink → ℕ → End → Type 0
AreLanes r n l at end = OfEnd (IsInOrder r) n l at end

pub end_lanes_of : (scene : PlainScene) (r : PlainRecord) (n : ℕ) (l : PlainLink) (at : ℕ) (end : End) → AreHome scene → AreInOrder scene r → slice_get scene.links n ≡ Some l → slice_get l.ends at ≡ Some end → AreLanes r n l at end
end_lanes_of scene r n l at end home order there on = of_end (IsInOrder r) scene order home n at l end there on
