-- Lists one of whose elements is changed.
use Rattle.std.proofs.Common.{◌≡◌, ℕ, zero, suc, ◌+◌, ◌==◌, false, List, [], ◌∷◌, set, Some, refl, sym, ap, arith, sum_by}
use Rattle.std.specs.Prelude.{slice_get}
use Rattle.std.proofs.lemmas.Bool.Decides.{nat_tests}
use Rattle.std.proofs.lemmas.List.Sums.{sum_by-cons}

pub set_here : {X : Type 0} (xs : List X) (i : ℕ) (x y : X) → slice_get xs i ≡ Some x → slice_get (set xs i y) i ≡ Some y
set_here [] zero x y e = cc
set_here [] (suc i) x y e = cc
set_here (z ∷ xs) zero x y e = refl
set_here (z ∷ xs) (suc i) x y e = set_here xs i x y e

pub set_there : {X : Type 0} (xs : List X) (i j : ℕ) (y : X) → (i == j) ≡ false → slice_get (set xs i y) j ≡ slice_get xs j
set_there [] zero zero y e = cc
set_there [] zero (suc j) y e = refl
set_there [] (suc i) zero y e = refl
set_there [] (suc i) (suc j) y e = refl
set_there (x ∷ xs) zero zero y e = cc
set_there (x ∷ xs) zero (suc j) y e = refl
set_there (x ∷ xs) (suc i) zero y e = refl
set_there (x ∷ xs) (suc i) (suc j) y e = let apart : (i == j) ≡ false = grind (arith, nat_tests, e) in set_there xs i j y apart

-- a sum changes by the element that is changed
pub sum_set : {X : Type 0} (f : X → ℕ) (xs : List X) (i : ℕ) (x y : X) → slice_get xs i ≡ Some x → sum_by f (set xs i y) + f x ≡ sum_by f xs + f y
sum_set f [] zero x y e = cc
sum_set f [] (suc i) x y e = cc
sum_set f (z ∷ xs) zero x y e =
    let same : z ≡ x = cc in
    first _ _ (sum_by f xs) (f y) (f z) (f x) (sum_by-cons f y xs) (sum_by-cons f z xs) (ap f same) where
      first : (a b s y z x : ℕ) → a ≡ y + s → b ≡ z + s → z ≡ x → a + x ≡ b + y
      first a b s y z x e f g = omega arith
sum_set f (z ∷ xs) (suc i) x y e =
    later _ _ (f z) _ _ _ _ (sum_by-cons f z (set xs i y)) (sum_by-cons f z xs) (sum_set f xs i x y e) where
      later : (a b z s t u v : ℕ) → a ≡ z + s → b ≡ z + t → s + u ≡ t + v → a + u ≡ b + v
      later a b z s t u v e f g = omega arith

-- an element set to what it was, and set again
pub set_same : {X : Type 0} (xs : List X) (i : ℕ) (x : X) → slice_get xs i ≡ Some x → set xs i x ≡ xs
set_same [] zero x e = cc
set_same [] (suc i) x e = cc
set_same (z ∷ xs) zero x e = let same : z ≡ x = cc in ap (λ y. y ∷ xs) (sym same)
set_same (z ∷ xs) (suc i) x e = ap (λ ys. z ∷ ys) (set_same xs i x e)

pub set_twice : {X : Type 0} (xs : List X) (i : ℕ) (x y : X) → set (set xs i x) i y ≡ set xs i y
set_twice [] zero x y = refl
set_twice [] (suc i) x y = refl
set_twice (z ∷ xs) zero x y = refl
set_twice (z ∷ xs) (suc i) x y = ap (λ ys. z ∷ ys) (set_twice xs i x y)
