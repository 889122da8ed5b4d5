-- What is known at a place of a list, and what is found in one.
use Rattle.std.proofs.Common.{◌≡◌, ℕ, ◌+◌, ◌<◌, ◌≤◌, ⊎_elim, zero, suc, Bool, true, false, Option, None, Some, List, [], ◌∷◌, length, slice_get, refl, sym, ap, subst, ◌∙◌, arith}
use Rattle.std.specs.Prelude.{IsSome, IsSomeAnd}
use Rattle.std.specs.List.{AllByRecursion, find}
use Rattle.std.proofs.lemmas.Bool.{cases_lt, cond-true, cond-false}
use Rattle.std.proofs.lemmas.Option.{same_Some}

module _ {X : Type 0} where
  -- what is known of a value that is there
  pub there_of : (o : Option X) (P : X → Type 0) (x : X) → o ≡ Some x → IsSomeAnd o P → P x
  there_of None P x e h = absurd h
  there_of (Some y) P x e h = subst P (same_Some y x e) h

  pub there_some : (o : Option X) (P : X → Type 0) → IsSomeAnd o P → IsSome o
  there_some None P h = absurd h
  there_some (Some y) P h = refl

  pub there_then : (o : Option X) (P Q : X → Type 0) → ((x : X) → P x → Q x) → IsSomeAnd o P → IsSomeAnd o Q
  there_then None P Q then h = h
  there_then (Some y) P Q then h = then y h

  -- what is so of one that is there is so of each that is
  pub each_there : (o : Option X) (P : X → Type 0) (x : X) → o ≡ Some x → P x → (s : X) → o ≡ Some s → P s
  each_there o P x there holds s e = subst P (same_Some x s (sym there ∙ e)) holds

  -- and of all of a list
  pub all_at : (P : X → Type 0) (xs : List X) (k : ℕ) (x : X) → slice_get xs k ≡ Some x → AllByRecursion P xs → P x
  all_at P [] k x e all = absurd cc
  all_at P (y ∷ ys) zero x e all = subst P (same_Some y x e) all.0
  all_at P (y ∷ ys) (suc k) x e all = all_at P ys k x e all.1

  pub all_from : (P : X → Type 0) (xs : List X) → ((k : ℕ) (x : X) → slice_get xs k ≡ Some x → P x) → AllByRecursion P xs
  all_from P [] each = tt
  all_from P (x ∷ xs) each = (each 0 x refl, all_from P xs (λ k y e. each (suc k) y e))

  pub all_then : (P Q : X → Type 0) → ((x : X) → P x → Q x) → (xs : List X) → AllByRecursion P xs → AllByRecursion Q xs
  all_then P Q then [] all = tt
  all_then P Q then (x ∷ xs) all = (then x all.0, all_then P Q then xs all.1)

  -- the first of which a test is true
  pub first_of : (test : X → Bool) (xs : List X) (at : ℕ) (x : X) → slice_get xs at ≡ Some x → test x ≡ true → ((k : ℕ) (y : X) → k < at → slice_get xs k ≡ Some y → test y ≡ false) → find test xs ≡ Some x
  first_of test [] at x there holds before = absurd cc
  first_of test (y ∷ ys) zero x there holds before =
      let same : y ≡ x = same_Some y x there in
      cond-true (test y) (Some y) (find test ys) (ap test same ∙ holds) ∙ ap (λ z. Some z) same
  first_of test (y ∷ ys) (suc at) x there holds before =
      cond-false (test y) (Some y) (find test ys) (before 0 y (omega arith) refl)
      ∙ first_of test ys at x there holds (λ k z less e. before (suc k) z (omega (arith, less)) e)

  -- none, where it is false of each
  pub none_of : (test : X → Bool) (xs : List X) → ((k : ℕ) (x : X) → slice_get xs k ≡ Some x → test x ≡ false) → find test xs ≡ None
  none_of test [] each = refl
  none_of test (x ∷ xs) each = cond-false (test x) (Some x) (find test xs) (each 0 x refl) ∙ none_of test xs (λ k y e. each (suc k) y e)

  -- a test that is false before a place, and there, is false up to it
  pub up_to : (test : X → Bool) (xs : List X) (at : ℕ) (x : X) → slice_get xs at ≡ Some x → test x ≡ false → ((k : ℕ) (y : X) → k < at → slice_get xs k ≡ Some y → test y ≡ false)
      → (k : ℕ) (y : X) → k < at + 1 → slice_get xs k ≡ Some y → test y ≡ false
  up_to test xs at x there not_so before k y less here = ⊎_elim
      (λ (earlier : k < at). before k y earlier here)
      (λ (late : at ≤ k). let same : k ≡ at = omega (arith, less, late) in ap test (same_Some y x (sym here ∙ ap (slice_get xs) same ∙ there)) ∙ not_so)
      (cases_lt k at)

  -- a list has something at a place within it
  pub get_within : (xs : List X) (k : ℕ) → k < length xs → (x : X) × (slice_get xs k ≡ Some x)
  get_within [] k low = absurd (omega (arith, low))
  get_within (x ∷ xs) zero low = (x, refl)
  get_within (x ∷ xs) (suc k) low = get_within xs k (omega (arith, low))
