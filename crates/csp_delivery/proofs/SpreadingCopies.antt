-- The copies that fates make of frames: those of a first frame are first frames, those of others are none.
use Rattle.std.proofs.Common.{◌≡◌, ℕ, zero, suc, ◌+◌, ◌*◌, ◌≤◌, Bool, true, false, cond, Option, None, Some, List, [], ◌∷◌, length, replicate, slice_get, unwrap_or, refl, ap, ◌∙◌, arith}
use Rattle.std.specs.Prelude.{if◌then◌else◌}
use Rattle.std.proofs.lemmas.List.{length-replicate}
use Rattle.std.proofs.lemmas.List.Folds.{sum_by-replicate}
use Rattle.csp_base.specs.declared.traces.Origin.{Origin}
use Rattle.csp_delivery.specs.Delivery.{copies_made, firsts, is_first_of}
use Rattle.csp_link.specs.Applied.{made_from}
use Rattle.csp_link.specs.Copies.{copies_of, damaged}
use Rattle.csp_link.specs.declared.fates.Fate.{Fate}
use Rattle.csp_log.specs.declared.frame.Frame.{Frame}
use Rattle.csp_delivery.proofs.SendingCounts.{AreNone, first, first_by, firsts_append, firsts_cons, firsts_there, none_first}

module _ (o : Origin) where
  -- a bit of the data is no part of the trace or the identifier
  damaged_same : (flip : Option ℕ) (f : Frame) → is_first_of o (damaged flip f) ≡ is_first_of o f
  damaged_same None f = refl
  damaged_same (Some bit) f = refl

  alike : (n : ℕ) (f : Frame) (b : Bool) → is_first_of o f ≡ b → firsts o (replicate n f) ≡ n * cond b 1 0
  alike n f b e = sum_by-replicate (first o) n f ∙ ap (λ c. n * c) (first_by o f b e)

  pub copies_none : (fate : Fate) (f : Frame) → is_first_of o f ≡ false → firsts o (copies_of fate f) ≡ 0
  copies_none fate f e =
      by fate.lost
    where
      by : (b : Bool) → firsts o (if b then [] else replicate (fate.repeats + 1) (damaged fate.flip f)) ≡ 0
      by true = refl
      by false = omega (arith, alike (fate.repeats + 1) (damaged fate.flip f) false (damaged_same fate.flip f ∙ e))

  pub copies_all : (fate : Fate) (f : Frame) → is_first_of o f ≡ true → firsts o (copies_of fate f) ≡ copies_made fate f
  copies_all fate f e =
      by fate.lost
    where
      by : (b : Bool) → firsts o (if b then [] else replicate (fate.repeats + 1) (damaged fate.flip f)) ≡ length (if b then [] else replicate (fate.repeats + 1) (damaged fate.flip f))
      by true = refl
      by false = omega (arith, alike (fate.repeats + 1) (damaged fate.flip f) true (damaged_same fate.flip f ∙ e), length-replicate (fate.repeats + 1) (damaged fate.flip f))

  -- ---- of frames that have these fates, of which the first has this number

  pub made_none : (fate : ℕ → Fate) (m : ℕ) (fs : List Frame) → AreNone o fs → firsts o (made_from fate m fs) ≡ 0
  made_none fate m [] none = refl
  made_none fate m (f ∷ fs) none =
      omega (arith, firsts_append o (copies_of (fate m) f) (made_from fate (m + 1) fs), copies_none (fate m) f none.0, made_none fate (m + 1) fs none.1)

  -- where there is just one first frame
  pub made_once : (fate : ℕ → Fate) (m : ℕ) (fs : List Frame) (k : ℕ) (f : Frame) → firsts o fs ≤ 1 → slice_get fs k ≡ Some f → is_first_of o f ≡ true → firsts o (made_from fate m fs) ≡ copies_made (fate (k + m)) f
  made_once fate m [] k f few there is = absurd cc
  made_once fate m (g ∷ fs) zero f few there is =
      let same : g ≡ f = ap (λ x. unwrap_or x g) there in
      let here : m ≡ 0 + m = omega arith in
      let this : first o g ≡ 1 = first_by o g true (ap (is_first_of o) same ∙ is) in
      let rest : firsts o (made_from fate (m + 1) fs) ≡ 0 = made_none fate (m + 1) fs (none_first o fs (omega (arith, few, this, firsts_cons o g fs))) in
      let copies : firsts o (copies_of (fate m) g) ≡ copies_made (fate (0 + m)) f = copies_all (fate m) g (ap (is_first_of o) same ∙ is) ∙ (λ i. copies_made (fate (here i)) (same i)) in
      omega (arith, firsts_append o (copies_of (fate m) g) (made_from fate (m + 1) fs), rest, copies)
  made_once fate m (g ∷ fs) (suc k) f few there is =
      let later : k + (m + 1) ≡ suc k + m = omega arith in
      let this : AreNone o (g ∷ []) = none_first o (g ∷ []) (omega (arith, few, firsts_there o fs k f there is, firsts_cons o g fs, firsts_cons o g [])) in
      let rest : firsts o (made_from fate (m + 1) fs) ≡ copies_made (fate (suc k + m)) f =
      made_once fate (m + 1) fs k f (omega (arith, few, firsts_cons o g fs)) there is ∙ ap (λ j. copies_made (fate j) f) later in
      omega (arith, firsts_append o (copies_of (fate m) g) (made_from fate (m + 1) fs), copies_none (fate m) g this.0, rest)
