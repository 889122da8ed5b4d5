-- Lemmas on longer lists, and on what a filter keeps of a list.
use Rattle.std.proofs.Common.{◌≡◌, ℕ, ◌≤◌, Bool, true, false, not, cond, zero, suc, List, [], ◌∷◌, ◌++◌, Some, length, take, ap, refl, ◌∙◌, subst, arith, flat_map, slice_get}
use Rattle.std.specs.List.{filter}
use Rattle.std.proofs.lemmas.List.Filters.{length-filter_both}
use Rattle.std.proofs.lemmas.Option.{same_Some}

-- what is so of each element of a list at its place, and of one more after them, is so of each of the longer list
pub each-push : {A : Type 0} (P : ℕ → A → Type 0) (xs : List A) (x : A) → ((k : ℕ) (y : A) → slice_get xs k ≡ Some y → P k y) → P (length xs) x
    → (k : ℕ) (y : A) → slice_get (xs ++ x ∷ []) k ≡ Some y → P k y
each-push P [] x h p zero y e = subst (P zero) (same_Some x y e) p
each-push P [] x h p (suc k) y e = absurd cc
each-push P (z ∷ xs) x h p zero y e = h zero y e
each-push P (z ∷ xs) x h p (suc k) y e = each-push (λ j. P (suc j)) xs x (λ j. h (suc j)) p k y e

-- the element after a list
pub get-push : {A : Type 0} (xs : List A) (x : A) → slice_get (xs ++ x ∷ []) (length xs) ≡ Some x
get-push [] x = refl
get-push (z ∷ xs) x = get-push xs x

-- where the last element gives nothing, a list gives what it gives without it
pub flat_map-push_none : {A B : Type 0} (f : A → List B) (xs : List A) (x : A) → f x ≡ [] → flat_map f (xs ++ x ∷ []) ≡ flat_map f xs
flat_map-push_none f [] x e = rw e refl
flat_map-push_none f (y ∷ xs) x e = ap (λ l. f y ++ l) (flat_map-push_none f xs x e)

-- a filter keeps no more than there was
pub filter_long : {A : Type 0} (p : A → Bool) (xs : List A) → length (filter p xs) ≤ length xs
filter_long p xs = omega (arith, length-filter_both p (λ x. not (p x)) (λ x. refl) xs)

-- what it keeps stands after what it keeps of those before
pub filter_place : {A : Type 0} (p : A → Bool) (xs : List A) (i : ℕ) (x : A) → slice_get xs i ≡ Some x → p x ≡ true → slice_get (filter p xs) (length (filter p (take i xs))) ≡ Some x
filter_place p [] i x at passes = absurd cc
filter_place p (y ∷ xs) zero x at passes = first (p y) (ap p (same_Some y x at) ∙ passes) where
  first : (b : Bool) → b ≡ true → slice_get (cond b (y ∷ filter p xs) (filter p xs)) 0 ≡ Some x
  first true e = at
  first false e = absurd cc
filter_place p (y ∷ xs) (suc i) x at passes = later (p y) (filter_place p xs i x at passes) where
  later : (b : Bool) → slice_get (filter p xs) (length (filter p (take i xs))) ≡ Some x → slice_get (cond b (y ∷ filter p xs) (filter p xs)) (length (cond b (y ∷ filter p (take i xs)) (filter p (take i xs)))) ≡ Some x
  later true rest = rest
  later false rest = rest
