-- A hub passes on to an end no more first frames of a transmission than its plan makes copies of the one that it popped.
use Rattle.std.proofs.Common.{◌≡◌, ◌≢◌, ◌⊎◌, inl, inr, ℕ, suc, ◌+◌, ◌<◌, ◌≤◌, ◌==◌, Bool, true, false, Some, List, [], ◌∷◌, ◌++◌, length, slice_get, refl, sym, ap, ◌∙◌, arith, append-nil, eqb-true}
use Rattle.std.specs.List.{AllByRecursion}
use Rattle.std.specs.Prelude.{if◌then◌else◌}
use Rattle.std.proofs.lemmas.Bool.{eq-eqb, eqb-false}
use Rattle.std.proofs.lemmas.List.{length-append}
use Rattle.std.proofs.lemmas.List.Concat.{flat_map-append}
use Rattle.csp_base.specs.declared.traces.Origin.{Origin}
use Rattle.csp_delivery.specs.Delivery.{MakesOfFirst, never, once, firsts, is_first_of}
use Rattle.csp_hub.specs.Applied as hub
use Rattle.csp_link.specs.Applied.{made_from}
use Rattle.csp_link.specs.Copies.{copies_of}
use Rattle.csp_link.specs.Fates.{fate_of}
use Rattle.csp_link.specs.declared.fates.Fate.{Fate}
use Rattle.csp_link.specs.declared.fault.Fault.{Fault}
use Rattle.csp_log.specs.declared.entry.Entry.{Entry}
use Rattle.csp_log.specs.declared.frame.Frame.{Frame}
use Rattle.csp_log.specs.declared.places.QueueId.TheVariants as queue
use Rattle.csp_log.specs.declared.shown.AnswerShown.{AnswerShown}
use Rattle.csp_log.specs.declared.shown.AnswerShown.TheVariants as answer
use Rattle.csp_log.specs.declared.shown.ItemShown.TheVariants as item
use Rattle.csp_log.specs.declared.shown.OpShown.{OpShown}
use Rattle.csp_log.specs.declared.shown.OpShown.TheVariants as op
use Rattle.csp_consistent.specs.Links.{IsSpread}
use Rattle.csp_consistent.proofs.Public.{PopsWithin}
use Rattle.csp_delivery.proofs.SendingCounts.{AreNone, firsts_append, firsts_permuted, none_first}
use Rattle.csp_delivery.proofs.SpreadingCopies.{copies_none, made_none, made_once}

-- ---- what a hub makes for an end

module _ (o : Origin) (plan : List Fault) (n end place : ℕ) where
  -- the fates of the frames that come from the end in this place
  abbrev fate : ℕ → Fate
  fate k = fate_of place k plan

  -- how many were popped there
  abbrev many : List Entry → ℕ
  many es = length (hub.frames_popped place es)

  -- from no end but that in this place and the one for which copies are made was a first frame popped
  abbrev NoneFrom : (ℕ → List Frame) → Type 0
  NoneFrom popped = (from : ℕ) → from < n → from ≢ end → from ≢ place → firsts o (popped from) ≡ 0

  numbered : (j m : ℕ) (fs : List Frame) → m ≡ j → firsts o (made_from fate m fs) ≡ firsts o (made_from fate j fs)
  numbered j m fs same = ap (λ k. firsts o (made_from fate k fs)) same

  -- a turn
  turn_few : (before : List Entry) (q : OpShown) (a : AnswerShown) (m : ℕ) (rest : List Frame) → PopsWithin n q → NoneFrom (λ from. hub.popped_by from q a) → m ≡ many before + length (hub.popped_by place q a) + 1
      → firsts o (hub.made_of plan end before q a) + firsts o (made_from fate m rest) ≤ firsts o (made_from fate (many before + 1) (hub.popped_by place q a ++ rest))
  turn_few before (op.Pop (queue.Tx from)) (answer.Popped (item.Frame f)) m rest low none e =
      by (from == place) refl e
    where
      made : List Frame
      made = hub.next_made plan from before f

      -- to the end that a frame came from no copy goes
      most : (b : Bool) → firsts o (if b then [] else made) ≤ firsts o made
      most true = omega arith
      most false = omega arith

      other : from ≢ place → (b : Bool) → (from == end) ≡ b → firsts o (if b then [] else made) ≡ 0
      other apart true is = refl
      other apart false is =
          let this : hub.popped_by from (op.Pop (queue.Tx from)) (answer.Popped (item.Frame f)) ≡ f ∷ [] = ap (λ (b : Bool). if b then f ∷ [] else []) (eq-eqb from from refl) in
          let not : AreNone o (f ∷ []) = none_first o (f ∷ []) (ap (firsts o) (sym this) ∙ none from low (eqb-false from end is) apart) in
          copies_none o (fate_of from (length (hub.frames_popped from before) + 1) plan) f not.0

      by : (b : Bool) → (from == place) ≡ b → m ≡ many before + length (if b then f ∷ [] else []) + 1
          → firsts o (if from == end then [] else made) + firsts o (made_from fate m rest) ≤ firsts o (made_from fate (many before + 1) ((if b then f ∷ [] else []) ++ rest))
      by true is g =
          let same : firsts o made ≡ firsts o (copies_of (fate (many before + 1)) f) = ap (λ k. firsts o (hub.next_made plan k before f)) (eqb-true from place is) in
          omega (arith, most (from == end), same, numbered (many before + 1 + 1) m rest g, firsts_append o (copies_of (fate (many before + 1)) f) (made_from fate (many before + 1 + 1) rest))
      by false is g = omega (arith, other (eqb-false from place is) (from == end) refl, numbered (many before + 1) m rest (omega (arith, g)))
  turn_few before _ _ m rest low none e = omega (arith, numbered (many before + 1) m rest (omega (arith, e)))

  -- all turns from some on
  made_few : (before es : List Entry) → AllByRecursion (λ e. PopsWithin n e.op) es → NoneFrom (λ from. hub.frames_popped from es)
      → firsts o (hub.made_after plan end before es) ≤ firsts o (made_from fate (many before + 1) (hub.frames_popped place es))
  made_few before [] within none = omega arith
  made_few before (e ∷ es) within none =
      let after : List Entry = before ++ e ∷ [] in
      let now : List Frame = hub.popped_by place e.op e.answer in
      let both : (from : ℕ) → firsts o (hub.frames_popped from (e ∷ es)) ≡ firsts o (hub.popped_by from e.op e.answer) + firsts o (hub.frames_popped from es) =
      λ from. firsts_append o (hub.popped_by from e.op e.answer) (hub.frames_popped from es) in
      let grown : many after + 1 ≡ many before + length now + 1 =
      (let all : many after ≡ length (hub.frames_popped place before ++ hub.frames_popped place (e ∷ [])) = ap length (flat_map-append (λ (x : Entry). hub.popped_by place x.op x.answer) before (e ∷ [])) in
      let one : hub.frames_popped place (e ∷ []) ≡ now = append-nil now in
      omega (arith, all, length-append (hub.frames_popped place before) (hub.frames_popped place (e ∷ [])), ap length one)) in
      let first : firsts o (hub.made_of plan end before e.op e.answer) + firsts o (made_from fate (many after + 1) (hub.frames_popped place es)) ≤ firsts o (made_from fate (many before + 1) (hub.frames_popped place (e ∷ es))) =
      turn_few before e.op e.answer (many after + 1) (hub.frames_popped place es) within.0 (λ from low apart other. omega (arith, none from low apart other, both from)) grown in
      let rest : firsts o (hub.made_after plan end after es) ≤ firsts o (made_from fate (many after + 1) (hub.frames_popped place es)) =
      made_few after es within.1 (λ from low apart other. omega (arith, none from low apart other, both from)) in
      omega (arith, first, rest, firsts_append o (hub.made_of plan end before e.op e.answer) (hub.made_after plan end after es))

  -- and so what it pushed there
  pub pushed_few : (es : List Entry) → IsSpread plan es end → AllByRecursion (λ e. PopsWithin n e.op) es → NoneFrom (λ from. hub.frames_popped from es)
      → firsts o (hub.frames_pushed end es) ≤ firsts o (made_from fate 1 (hub.frames_popped place es))
  pushed_few es spread within none =
      omega (arith, firsts_append o (hub.frames_pushed end es) spread.rest, firsts_permuted o (hub.made_after plan end [] es) (hub.frames_pushed end es ++ spread.rest) spread.copies, made_few [] es within none)

-- ---- how many copies the plan makes of a first frame

-- a frame in some place is a first frame
record HasFirst (o : Origin) (fs : List Frame) : Type 0 where
  pub place : ℕ
  pub frame : Frame
  pub there : slice_get fs place ≡ Some frame
  pub is : is_first_of o frame ≡ true

none_or_one : (o : Origin) (fs : List Frame) → AreNone o fs ⊎ HasFirst o fs
none_or_one o [] = inl tt
none_or_one o (f ∷ fs) =
    by (is_first_of o f) refl (none_or_one o fs)
  where
    by : (b : Bool) → is_first_of o f ≡ b → AreNone o fs ⊎ HasFirst o fs → AreNone o (f ∷ fs) ⊎ HasFirst o (f ∷ fs)
    by true e rest = inr (record { place = 0; frame = f; there = refl; is = e })
    by false e (inl none) = inl (e, none)
    by false e (inr one) = inr (record { place = suc one.place; frame = one.frame; there = one.there; is = one.is })

module _ (plan : List Fault) (es : List Entry) (place : ℕ) (o : Origin) where
  -- there is such a number
  pub makes_some : (n : ℕ) × MakesOfFirst plan es place o n
  makes_some =
      by (none_or_one o (hub.frames_popped place es))
    where
      by : AreNone o (hub.frames_popped place es) ⊎ HasFirst o (hub.frames_popped place es) → (n : ℕ) × MakesOfFirst plan es place o n
      by (inl none) = (0, never refl none)
      by (inr one) = (_, once one.place one.frame one.there one.is refl)

  -- where no two first frames were popped it is that of the copies made of those popped
  pub makes_made : (n : ℕ) → firsts o (hub.frames_popped place es) ≤ 1 → MakesOfFirst plan es place o n → firsts o (made_from (λ k. fate_of place k plan) 1 (hub.frames_popped place es)) ≡ n
  makes_made n few (never e none) = made_none o (λ k. fate_of place k plan) 1 (hub.frames_popped place es) none ∙ sym e
  makes_made n few (once k f there is e) = made_once o (λ k. fate_of place k plan) 1 (hub.frames_popped place es) k f few there is ∙ sym e

  -- and so there is just one
  pub makes_one : (m n : ℕ) → firsts o (hub.frames_popped place es) ≤ 1 → MakesOfFirst plan es place o m → MakesOfFirst plan es place o n → m ≡ n
  makes_one m n few this that = sym (makes_made m few this) ∙ makes_made n few that
