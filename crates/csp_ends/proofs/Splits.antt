-- A list in two parts, and what is set in one of them.
use Rattle.std.proofs.Common.{◌≡◌, ℕ, zero, suc, ◌+◌, ◌<◌, Some, List, [], ◌∷◌, ◌++◌, length, slice_get, refl, sym, ap, ◌∙◌, arith}
use Rattle.std.specs.List.{slice_set}
use Rattle.std.proofs.lemmas.List.{set-append_left, set-append_right, set-get_or}
use Rattle.std.proofs.lemmas.Option.{get_or_from_slice_get}

module _ {X : Type 0} where
  pub get_first : (xs ys : List X) (k : ℕ) → k < length xs → slice_get (xs ++ ys) k ≡ slice_get xs k
  get_first [] ys k low = absurd (omega (arith, low))
  get_first (x ∷ xs) ys zero low = refl
  get_first (x ∷ xs) ys (suc k) low = get_first xs ys k (omega (arith, low))

  pub get_second : (xs ys : List X) (n k : ℕ) → n ≡ length xs + k → slice_get (xs ++ ys) n ≡ slice_get ys k
  get_second [] ys n k e = ap (slice_get ys) (omega (arith, e))
  get_second (x ∷ xs) ys zero k e = absurd (omega (arith, e))
  get_second (x ∷ xs) ys (suc n) k e = get_second xs ys n k (omega (arith, e))

  pub set_same : (xs : List X) (at : ℕ) (x : X) → slice_get xs at ≡ Some x → slice_set xs at x ≡ xs
  set_same xs at x there = ap (slice_set xs at) (sym (get_or_from_slice_get xs at x x there)) ∙ set-get_or xs at x

  -- a list cut at one of two places, with what stands at both
  pub record Cut (xs front rest : List X) (low high : ℕ) (x y : X) : Type 0 where
    pub parts : xs ≡ front ++ rest
    pub cut : length front ≡ high
    pub below : low < high
    pub lower : slice_get xs low ≡ Some x
    pub upper : slice_get xs high ≡ Some y

  pub cut_lower : (xs front rest : List X) (low high : ℕ) (x y : X) → Cut xs front rest low high x y → slice_get front low ≡ Some x
  cut_lower xs front rest low high x y c = sym (get_first front rest low (omega (arith, c.cut, c.below))) ∙ ap (λ l. slice_get l low) (sym c.parts) ∙ c.lower

  pub cut_upper : (xs front rest : List X) (low high : ℕ) (x y : X) → Cut xs front rest low high x y → slice_get rest 0 ≡ Some y
  cut_upper xs front rest low high x y c = sym (get_second front rest high 0 (omega (arith, c.cut))) ∙ ap (λ l. slice_get l high) (sym c.parts) ∙ c.upper

  -- one of the two is changed
  pub cut_set_upper : (xs front rest : List X) (low high : ℕ) (x y z : X) → Cut xs front rest low high x y → slice_set front low x ++ slice_set rest 0 z ≡ slice_set xs high z
  cut_set_upper xs front rest low high x y z c =
      ap (λ l. l ++ slice_set rest 0 z) (set_same front low x (cut_lower xs front rest low high x y c))
      ∙ sym (set-append_right front rest high high z c.cut (omega arith) ∙ ap (λ k. front ++ slice_set rest k z) (omega arith)) ∙ ap (λ l. slice_set l high z) (sym c.parts)

  pub cut_set_lower : (xs front rest : List X) (low high : ℕ) (x y z : X) → Cut xs front rest low high x y → slice_set front low z ++ slice_set rest 0 y ≡ slice_set xs low z
  cut_set_lower xs front rest low high x y z c =
      ap (λ l. slice_set front low z ++ l) (set_same rest 0 y (cut_upper xs front rest low high x y c))
      ∙ sym (set-append_left front rest low z (omega (arith, c.cut, c.below))) ∙ ap (λ l. slice_set l low z) (sym c.parts)
