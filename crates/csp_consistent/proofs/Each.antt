-- What holds of each element of a list made from others.
use Rattle.std.proofs.Common.{◌≡◌, ℕ, zero, suc, ◌<◌, Bool, true, false, cond, Option, None, Some, List, [], ◌∷◌, ◌++◌, length, filter, filter_map, drop, option_map, slice_get, unwrap_or, refl, ap, ◌∙◌, subst, arith}
use Rattle.std.specs.Prelude.{if◌then◌else◌}
use Rattle.std.specs.List.{AllByRecursion, cons_option}
use Rattle.std.specs.List.Sorted.{IsPermutation}
use Rattle.std.proofs.lemmas.List.Elements.{All-from_recursion, recursion_from_All}
use Rattle.std.proofs.lemmas.List.Sorted.{All-permutation}

pub each_first : {X : Type 0} (P : X → Type 0) (xs ys : List X) → AllByRecursion P (xs ++ ys) → AllByRecursion P xs
each_first P [] ys all = tt
each_first P (x ∷ xs) ys all = (all.0, each_first P xs ys all.1)

pub each_last : {X : Type 0} (P : X → Type 0) (xs ys : List X) → AllByRecursion P (xs ++ ys) → AllByRecursion P ys
each_last P [] ys all = all
each_last P (x ∷ xs) ys all = each_last P xs ys all.1

pub each_filter : {X : Type 0} (P : X → Type 0) (test : X → Bool) (xs : List X) → AllByRecursion P xs → AllByRecursion P (filter test xs)
each_filter P test [] all = tt
each_filter P test (x ∷ xs) all =
    kept (test x) (each_filter P test xs all.1)
  where
    kept : (b : Bool) → AllByRecursion P (filter test xs) → AllByRecursion P (cond b (x ∷ filter test xs) (filter test xs))
    kept true rest = (all.0, rest)
    kept false rest = rest

pub each_drop_first : {X : Type 0} (P : X → Type 0) (xs : List X) → AllByRecursion P xs → AllByRecursion P (drop 1 xs)
each_drop_first P [] all = tt
each_drop_first P (x ∷ xs) all = all.1

-- where it is there at all
pub each_if : {X : Type 0} (P : X → Type 0) (b : Bool) (x : X) → P x → AllByRecursion P (if b then x ∷ [] else [])
each_if P true x here = (here, tt)
each_if P false x here = tt

pub each_permuted : {X : Type 0} (P : X → Type 0) (xs ys : List X) → IsPermutation xs ys → AllByRecursion P xs → AllByRecursion P ys
each_permuted P xs ys same all = recursion_from_All P ys (All-permutation P xs ys same (All-from_recursion P xs all))

-- there is one in each place within
pub one_at : {X : Type 0} (xs : List X) (k : ℕ) → k < length xs → (x : X) × (slice_get xs k ≡ Some x)
one_at [] k low = absurd (omega (arith, low))
one_at (x ∷ xs) zero low = (x, refl)
one_at (x ∷ xs) (suc k) low = one_at xs k (omega (arith, low))

-- the one in a place; and what holds in each place holds of all
pub each_at : {X : Type 0} (P : X → Type 0) (xs : List X) (k : ℕ) (x : X) → AllByRecursion P xs → slice_get xs k ≡ Some x → P x
each_at P [] k x all e = absurd cc
each_at P (y ∷ xs) zero x all e = subst P (ap (λ o. unwrap_or o y) e) all.0
each_at P (y ∷ xs) (suc k) x all e = each_at P xs k x all.1 e

pub each_there : {X : Type 0} (P : X → Type 0) (xs : List X) → ((k : ℕ) (x : X) → slice_get xs k ≡ Some x → P x) → AllByRecursion P xs
each_there P [] h = tt
each_there P (x ∷ xs) h = (h 0 x refl, each_there P xs (λ k y there. h (suc k) y there))

-- the first that a function gives is one that it gives
pub first_given : {X Y : Type 0} (R : Y → Type 0) (f : X → Option Y) (xs : List X) (y : Y) → slice_get (filter_map f xs) 0 ≡ Some y → AllByRecursion (λ x. (z : Y) → f x ≡ Some z → R z) xs → R y
first_given R f [] y e all = absurd cc
first_given {X} {Y} R f (x ∷ xs) y e all =
    by (f x) refl e (λ is. first_given R f xs y is all.1)
  where
    by : (o : Option Y) → f x ≡ o → slice_get (cons_option o (filter_map f xs)) 0 ≡ Some y → (slice_get (filter_map f xs) 0 ≡ Some y → R y) → R y
    by None h is rest = rest is
    by (Some z) h is rest = subst R (ap (λ o. unwrap_or o z) is) (all.0 z h)

-- where a function gives what another does, mapped, so is the first that it gives
pub first_mapped : {X Y Z : Type 0} (f : X → Option Y) (g : Y → Z) (h : X → Option Z) (xs : List X) (y : Y) → ((x : X) → h x ≡ option_map g (f x)) → slice_get (filter_map f xs) 0 ≡ Some y → slice_get (filter_map h xs) 0 ≡ Some (g y)
first_mapped f g h [] y alike e = absurd cc
first_mapped {X} {Y} {Z} f g h (x ∷ xs) y alike e =
    ap (λ o. slice_get (cons_option o (filter_map h xs)) 0) (alike x) ∙ by (f x) e (λ is. first_mapped f g h xs y alike is)
  where
    by : (o : Option Y) → slice_get (cons_option o (filter_map f xs)) 0 ≡ Some y → (slice_get (filter_map f xs) 0 ≡ Some y → slice_get (filter_map h xs) 0 ≡ Some (g y)) → slice_get (cons_option (option_map g o) (filter_map h xs)) 0 ≡ Some (g y)
    by None is rest = rest is
    by (Some z) is rest = ap (λ o. Some (g (unwrap_or o z))) is
