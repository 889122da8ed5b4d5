-- Lists with one more element, or with one of them replaced.
use Rattle.std.proofs.Common.{◌≡◌, ℕ, ◌≤◌, ◌<◌, Bool, true, false, cond, ltb, List, [], ◌∷◌, ◌++◌, length, get_or, set, Some, None, zero, suc, arith, refl, subst}
use Rattle.std.specs.Option.{unwrap_or}
use Rattle.std.specs.List.{AllByRecursion, slice_get}
use Rattle.std.proofs.lemmas.Bool.{ltb-false}

pub unwrap_or-place : (place count : ℕ) → place ≤ count → unwrap_or (cond (ltb place count) (Some place) None) count ≡ place
unwrap_or-place place count h =
    by_test (ltb place count) refl
  where
    by_test : (test : Bool) → ltb place count ≡ test → unwrap_or (cond test (Some place) None) count ≡ place
    by_test true e = refl
    by_test false e = omega (arith, ltb-false place count e)

pub AllByRecursion-push : {X : Type 0} (P : X → Type 0) (xs : List X) (y : X) → AllByRecursion P xs → P y → AllByRecursion P (xs ++ y ∷ [])
AllByRecursion-push P [] y all here = (here, tt)
AllByRecursion-push P (x ∷ xs) y all here = (all.0, AllByRecursion-push P xs y all.1 here)

pub AllByRecursion-append : {X : Type 0} (P : X → Type 0) (xs ys : List X) → AllByRecursion P xs → AllByRecursion P ys → AllByRecursion P (xs ++ ys)
AllByRecursion-append P [] ys all more = more
AllByRecursion-append P (x ∷ xs) ys all more = (all.0, AllByRecursion-append P xs ys all.1 more)

pub AllByRecursion-set : {X : Type 0} (P : X → Type 0) (xs : List X) (i : ℕ) (y : X) → AllByRecursion P xs → P y → AllByRecursion P (set xs i y)
AllByRecursion-set P [] i y all here = tt
AllByRecursion-set P (x ∷ xs) zero y all here = (here, all.1)
AllByRecursion-set P (x ∷ xs) (suc i) y all here = (all.0, AllByRecursion-set P xs i y all.1 here)

pub AllByRecursion-at : {X : Type 0} (P : X → Type 0) (xs : List X) (i : ℕ) (d : X) → AllByRecursion P xs → i < length xs → P (get_or xs i d)
AllByRecursion-at P [] i d all within = absurd (omega arith)
AllByRecursion-at P (x ∷ xs) zero d all within = all.0
AllByRecursion-at P (x ∷ xs) (suc i) d all within = AllByRecursion-at P xs i d all.1 (omega arith)

pub AllByRecursion-map : {X : Type 0} (P Q : X → Type 0) (xs : List X) → ((x : X) → P x → Q x) → AllByRecursion P xs → AllByRecursion Q xs
AllByRecursion-map P Q [] each all = tt
AllByRecursion-map P Q (x ∷ xs) each all = (each x all.0, AllByRecursion-map P Q xs each all.1)

pub AllByRecursion-get : {X : Type 0} (P : X → Type 0) (xs : List X) (i : ℕ) (x : X) → AllByRecursion P xs → slice_get xs i ≡ Some x → P x
AllByRecursion-get P [] i x all e = absurd (cc)
AllByRecursion-get P (y ∷ xs) zero x all e = let same : y ≡ x = cc in subst P same all.0
AllByRecursion-get P (y ∷ xs) (suc i) x all e = AllByRecursion-get P xs i x all.1 e

pub slice_get-seam : {X : Type 0} (xs : List X) (y : X) (ys : List X) (i : ℕ) → i ≡ length xs → slice_get (xs ++ y ∷ ys) i ≡ Some y
slice_get-seam [] y ys zero e = refl
slice_get-seam [] y ys (suc i) e = absurd (omega (arith, e))
slice_get-seam (x ∷ xs) y ys zero e = absurd (omega (arith, e))
slice_get-seam (x ∷ xs) y ys (suc i) e = slice_get-seam xs y ys i (omega (arith, e))
