-- What holds of all elements of a list holds of one of them, and of the parts that it is made of.
use Rattle.std.proofs.Common.{◌≡◌, ℕ, zero, suc, ◌+◌, Bool, true, false, cond, ◌||◌, Option, Some, List, [], ◌∷◌, ◌++◌, map, filter, flat_map, unwrap_or, slice_get, refl, ap, subst, ◌∙◌, arith}
use Rattle.std.specs.List.{AllByRecursion, enumerate_from, list_any}

-- what holds of all of two lists holds of all of the first
pub front_of : {X : Type 0} (P : X → Type 0) (xs ys : List X) → AllByRecursion P (xs ++ ys) → AllByRecursion P xs
front_of P [] ys all = tt
front_of P (x ∷ xs) ys all = (all.0, front_of P xs ys all.1)

-- and of the second
pub rest_of : {X : Type 0} (P : X → Type 0) (xs ys : List X) → AllByRecursion P (xs ++ ys) → AllByRecursion P ys
rest_of P [] ys all = all
rest_of P (x ∷ xs) ys all = rest_of P xs ys all.1

found_is : {X : Type 0} (x y : X) → Some x ≡ Some y → x ≡ y
found_is x y e = ap (λ o. unwrap_or o x) e

-- what holds of all holds of the one in a place
pub at_place : {X : Type 0} (P : X → Type 0) (xs : List X) → AllByRecursion P xs → (i : ℕ) (x : X) → slice_get xs i ≡ Some x → P x
at_place P [] all i x e = absurd cc
at_place P (y ∷ xs) all zero x e = subst P (found_is y x e) all.0
at_place P (y ∷ xs) all (suc i) x e = at_place P xs all.1 i x e

-- what holds of all that elements are made to holds, of what it is made to, for each element
pub before_map : {X Y : Type 0} (P : Y → Type 0) (f : X → Y) (xs : List X) → AllByRecursion P (map f xs) → AllByRecursion (λ x. P (f x)) xs
before_map P f [] all = tt
before_map P f (x ∷ xs) all = (all.0, before_map P f xs all.1)

-- and so where each is made to several
pub before_flat : {X Y : Type 0} (P : Y → Type 0) (f : X → List Y) (xs : List X) → AllByRecursion P (flat_map f xs) → AllByRecursion (λ x. AllByRecursion P (f x)) xs
before_flat P f [] all = tt
before_flat P f (x ∷ xs) all = (front_of P (f x) (flat_map f xs) all, before_flat P f xs (rest_of P (f x) (flat_map f xs) all))

numbered_from : {X : Type 0} (k : ℕ) (xs : List X) (i j : ℕ) (x : X) → slice_get xs i ≡ Some x → j ≡ k + i → slice_get (enumerate_from k xs) i ≡ Some (j, x)
numbered_from k [] i j x e same = absurd cc
numbered_from {X} k (y ∷ xs) zero j x e same =
    let here : k ≡ j = omega (arith, same) in
    ap {B = Option (ℕ × X)} (λ n. Some (n, y)) here ∙ ap {B = Option (ℕ × X)} (λ z. Some (j, z)) (found_is y x e)
numbered_from k (y ∷ xs) (suc i) j x e same = numbered_from (k + 1) xs i j x e (omega (arith, same))

-- an element with its place is in that place of the list with the places
pub numbered_at : {X : Type 0} (xs : List X) (i : ℕ) (x : X) → slice_get xs i ≡ Some x → slice_get (enumerate_from 0 xs) i ≡ Some (i, x)
numbered_at xs i x e = numbered_from 0 xs i i x e (omega arith)

-- where an element passes a test, some element does
pub any_at : {X : Type 0} (p : X → Bool) (xs : List X) (i : ℕ) (x : X) → slice_get xs i ≡ Some x → p x ≡ true → list_any p xs ≡ true
any_at p [] i x e passes = absurd cc
any_at p (y ∷ xs) zero x e passes = ap (λ t. t || list_any p xs) (ap p (found_is y x e) ∙ passes)
any_at p (y ∷ xs) (suc i) x e passes = either (p y) (list_any p xs) (any_at p xs i x e passes)
  where
    either : (a b : Bool) → b ≡ true → (a || b) ≡ true
    either true b h = refl
    either false b h = h

-- an element that a filter left was there before
pub unfiltered : {X : Type 0} (p : X → Bool) (xs : List X) (i : ℕ) (x : X) → slice_get (filter p xs) i ≡ Some x → (j : ℕ) × (slice_get xs j ≡ Some x)
unfiltered p [] i x e = absurd cc
unfiltered p (y ∷ xs) i x e = by_test (p y) i e (λ k. unfiltered p xs k x)
  where
    by_test : (t : Bool) (i : ℕ) → slice_get (cond t (y ∷ filter p xs) (filter p xs)) i ≡ Some x → ((k : ℕ) → slice_get (filter p xs) k ≡ Some x → (j : ℕ) × (slice_get xs j ≡ Some x)) → (j : ℕ) × (slice_get (y ∷ xs) j ≡ Some x)
    by_test true zero f later = (0, f)
    by_test true (suc k) f later = let there : (j : ℕ) × (slice_get xs j ≡ Some x) = later k f in (suc there.0, there.1)
    by_test false k f later = let there : (j : ℕ) × (slice_get xs j ≡ Some x) = later k f in (suc there.0, there.1)
