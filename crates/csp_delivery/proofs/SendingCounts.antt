-- How many of some frames are the first of a transmission.
use Rattle.std.proofs.Common.{◌≡◌, ℕ, ◌+◌, ◌≤◌, Bool, true, false, cond, Some, List, [], ◌∷◌, ◌++◌, slice_get, unwrap_or, zero, suc, refl, ap, ◌∙◌, arith}
use Rattle.std.specs.List.{AllByRecursion}
use Rattle.std.specs.List.Sorted.{IsPermutation}
use Rattle.std.proofs.lemmas.List.Elements.{filter_map-append}
use Rattle.std.proofs.lemmas.List.Sorted.{sum_by-IsPermutation}
use Rattle.std.proofs.lemmas.List.Sums.{sum_by-append, sum_by-cons}
use Rattle.csp_base.specs.declared.traces.Origin.{Origin}
use Rattle.csp_delivery.specs.Delivery.{firsts, frames_among, is_first_of}
use Rattle.csp_link.specs.Turns.{frame_in}
use Rattle.csp_log.specs.declared.frame.Frame.{Frame}
use Rattle.csp_log.specs.declared.shown.ItemShown.{ItemShown}
use Rattle.csp_log.specs.declared.shown.ItemShown.TheVariants as item
use Rattle.csp_consistent.proofs.Public.{IsSuchFrame}

module _ (o : Origin) where
  -- a frame counts 1 where it is one
  abbrev pub first : Frame → ℕ
  first f = cond (is_first_of o f) 1 0

  pub first_by : (f : Frame) (b : Bool) → is_first_of o f ≡ b → first f ≡ cond b 1 0
  first_by f b e = ap (λ c. cond {A = ℕ} c 1 0) e

  pub first_most : (f : Frame) → first f ≤ 1
  first_most f =
      by (is_first_of o f)
    where
      by : (b : Bool) → cond {A = ℕ} b 1 0 ≤ 1
      by true = omega arith
      by false = omega arith

  pub firsts_cons : (f : Frame) (fs : List Frame) → firsts o (f ∷ fs) ≡ first f + firsts o fs
  firsts_cons f fs = sum_by-cons first f fs

  pub firsts_append : (xs ys : List Frame) → firsts o (xs ++ ys) ≡ firsts o xs + firsts o ys
  firsts_append xs ys = sum_by-append first xs ys

  pub firsts_permuted : (xs ys : List Frame) → IsPermutation xs ys → firsts o ys ≡ firsts o xs
  firsts_permuted xs ys same = sum_by-IsPermutation first xs ys same

  -- ---- none, or some

  -- none of these frames is one
  abbrev pub AreNone : List Frame → Type 0
  AreNone fs = AllByRecursion (λ f. is_first_of o f ≡ false) fs

  pub firsts_none : (fs : List Frame) → AreNone fs → firsts o fs ≡ 0
  firsts_none [] none = refl
  firsts_none (f ∷ fs) none =
      let this : first f ≡ 0 = first_by f false none.0 in
      omega (arith, this, firsts_cons f fs, firsts_none fs none.1)

  pub none_first : (fs : List Frame) → firsts o fs ≡ 0 → AreNone fs
  none_first [] e = tt
  none_first (f ∷ fs) e =
      (by (is_first_of o f) refl, none_first fs (omega (arith, e, firsts_cons f fs)))
    where
      by : (b : Bool) → is_first_of o f ≡ b → is_first_of o f ≡ false
      by true is =
          let this : first f ≡ 1 = first_by f true is in
          absurd (omega (arith, e, this, firsts_cons f fs))
      by false is = is

  pub firsts_there : (fs : List Frame) (k : ℕ) (f : Frame) → slice_get fs k ≡ Some f → is_first_of o f ≡ true → 1 ≤ firsts o fs
  firsts_there [] k f e is = absurd cc
  firsts_there (g ∷ fs) zero f e is =
      let same : g ≡ f = ap (λ x. unwrap_or x g) e in
      let this : first g ≡ 1 = first_by g true (ap (is_first_of o) same ∙ is) in
      omega (arith, this, firsts_cons g fs)
  firsts_there (g ∷ fs) (suc k) f e is = omega (arith, firsts_there fs k f e is, firsts_cons g fs)

  -- ---- among items

  pub among_append : (is js : List ItemShown) → firsts o (frames_among (is ++ js)) ≡ firsts o (frames_among is) + firsts o (frames_among js)
  among_append is js = ap (firsts o) (filter_map-append frame_in is js) ∙ firsts_append (frames_among is) (frames_among js)

  pub none_among : (is : List ItemShown) → AllByRecursion (IsSuchFrame (λ f. is_first_of o f ≡ false)) is → firsts o (frames_among is) ≡ 0
  none_among is all =
      firsts_none (frames_among is) (among is all)
    where
      among : (is : List ItemShown) → AllByRecursion (IsSuchFrame (λ f. is_first_of o f ≡ false)) is → AreNone (frames_among is)
      among [] all = tt
      among (item.Frame f ∷ is) all = (all.0, among is all.1)
      among (item.Packet _ _ ∷ is) all = among is all.1
      among (item.Note _ ∷ is) all = among is all.1
