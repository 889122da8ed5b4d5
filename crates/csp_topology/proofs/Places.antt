-- Lemmas on places in lists.
use Rattle.std.proofs.Common.{◌≡◌, ℕ, zero, suc, ◌+◌, ◌<◌, Bool, true, false, cond, Some, List, [], ◌∷◌, ◌++◌, length, map, slice_get, ap, refl, sym, subst, ◌∙◌, arith}
use Rattle.std.specs.List.{AllByRecursion, filter, range_with_len}
use Rattle.std.proofs.lemmas.Option.{same_Some}

-- what holds of all holds of each
pub all_at : {X : Type 0} (P : X → Type 0) (xs : List X) (k : ℕ) (x : X) → AllByRecursion P xs → slice_get xs k ≡ Some x → P x
all_at P [] k x all e = absurd cc
all_at P (y ∷ xs) zero x all e = subst P (same_Some y x e) all.0
all_at P (y ∷ xs) (suc k) x all e = all_at P xs k x all.1 e

-- an element of two lists, one after the other, is one of the first or of the second
pub data Among {X : Type 0} (xs ys : List X) (k : ℕ) (z : X) : Type 0 where
  of_first : slice_get xs k ≡ Some z → Among xs ys k z
  of_second : (j : ℕ) → k ≡ length xs + j → slice_get ys j ≡ Some z → Among xs ys k z

pub among : {X : Type 0} (xs ys : List X) (k : ℕ) (z : X) → slice_get (xs ++ ys) k ≡ Some z → Among xs ys k z
among [] ys k z e = of_second k (omega arith) e
among (x ∷ xs) ys zero z e = of_first e
among (x ∷ xs) ys (suc k) z e = more (among xs ys k z e) where
  more : Among xs ys k z → Among (x ∷ xs) ys (suc k) z
  more (of_first f) = of_first f
  more (of_second j at f) = of_second j (omega (arith, at)) f

-- an element of the first list, and one of the second
pub get-first : {X : Type 0} (xs ys : List X) (k : ℕ) (x : X) → slice_get xs k ≡ Some x → slice_get (xs ++ ys) k ≡ Some x
get-first [] ys k x e = absurd cc
get-first (z ∷ xs) ys zero x e = e
get-first (z ∷ xs) ys (suc k) x e = get-first xs ys k x e

pub get-second : {X : Type 0} (xs ys : List X) (k : ℕ) → slice_get (xs ++ ys) (length xs + k) ≡ slice_get ys k
get-second [] ys k =
    let here : 0 + k ≡ k = omega arith in
    ap (slice_get ys) here
get-second (z ∷ xs) ys k =
    let there : suc (length xs) + k ≡ suc (length xs + k) = omega arith in
    ap (slice_get (z ∷ (xs ++ ys))) there ∙ get-second xs ys k

-- an element of a list is there, and what a function makes of one is there in the longer list
pub get-within : {X : Type 0} (xs : List X) (k : ℕ) → k < length xs → (x : X) × (slice_get xs k ≡ Some x)
get-within [] k low = absurd (omega (arith, low))
get-within (x ∷ xs) zero low = (x, refl)
get-within (x ∷ xs) (suc k) low = get-within xs k (omega (arith, low))

pub get-made : {X Y : Type 0} (f : X → Y) (xs : List X) (k : ℕ) (x : X) → slice_get xs k ≡ Some x → slice_get (map f xs) k ≡ Some (f x)
get-made f [] k x e = absurd cc
get-made f (z ∷ xs) zero x e = ap (λ y. Some (f y)) (same_Some z x e)
get-made f (z ∷ xs) (suc k) x e = get-made f xs k x e

pub made-from : {X Y : Type 0} (f : X → Y) (xs : List X) (k : ℕ) (y : Y) → slice_get (map f xs) k ≡ Some y → (x : X) × (slice_get xs k ≡ Some x) × (f x ≡ y)
made-from f [] k y e = absurd cc
made-from f (z ∷ xs) zero y e = (z, refl, same_Some (f z) y e)
made-from f (z ∷ xs) (suc k) y e = made-from f xs k y e

-- what a filter keeps was there, and passes its test; what passes is kept
pub kept-from : {X : Type 0} (p : X → Bool) (xs : List X) (k : ℕ) (x : X) → slice_get (filter p xs) k ≡ Some x → (i : ℕ) × (slice_get xs i ≡ Some x) × (p x ≡ true)
kept-from p [] k x e = absurd cc
kept-from p (z ∷ xs) k x e = by (p z) refl k e (λ j f. kept-from p xs j x f) where
  by : (b : Bool) → p z ≡ b → (j : ℕ) → slice_get (cond b (z ∷ filter p xs) (filter p xs)) j ≡ Some x
      → ((j : ℕ) → slice_get (filter p xs) j ≡ Some x → (i : ℕ) × (slice_get xs i ≡ Some x) × (p x ≡ true)) → (i : ℕ) × (slice_get (z ∷ xs) i ≡ Some x) × (p x ≡ true)
  by true passes zero f rest = (0, f, ap p (sym (same_Some z x f)) ∙ passes)
  by true passes (suc j) f rest = let (i, at, is) = rest j f in (suc i, at, is)
  by false passes j f rest = let (i, at, is) = rest j f in (suc i, at, is)

pub kept-there : {X : Type 0} (p : X → Bool) (xs : List X) (i : ℕ) (x : X) → slice_get xs i ≡ Some x → p x ≡ true → (k : ℕ) × (slice_get (filter p xs) k ≡ Some x)
kept-there p [] i x e passes = absurd cc
kept-there p (z ∷ xs) zero x e passes = by (p z) (ap p (same_Some z x e) ∙ passes) where
  by : (b : Bool) → b ≡ true → (k : ℕ) × (slice_get (cond b (z ∷ filter p xs) (filter p xs)) k ≡ Some x)
  by true f = (0, e)
  by false f = absurd cc
kept-there p (z ∷ xs) (suc i) x e passes = by (p z) (kept-there p xs i x e passes) where
  by : (b : Bool) → (k : ℕ) × (slice_get (filter p xs) k ≡ Some x) → (k : ℕ) × (slice_get (cond b (z ∷ filter p xs) (filter p xs)) k ≡ Some x)
  by true (k, at) = (suc k, at)
  by false h = h

-- the numbers of a range
pub range-at : (a n k : ℕ) → k < n → slice_get (range_with_len a n) k ≡ Some (a + k)
range-at a zero k low = absurd (omega (arith, low))
range-at a (suc n) zero low = ap (λ (x : ℕ). Some x) (omega arith)
range-at a (suc n) (suc k) low = range-at (a + 1) n k (omega (arith, low)) ∙ ap (λ (x : ℕ). Some x) (omega arith)

pub range-from : (a n k x : ℕ) → slice_get (range_with_len a n) k ≡ Some x → (k < n) × (x ≡ a + k)
range-from a zero k x e = absurd cc
range-from a (suc n) zero x e = let same = same_Some a x e in (omega arith, omega (arith, same))
range-from a (suc n) (suc k) x e = let h = range-from (a + 1) n k x e in (omega (arith, h.0), omega (arith, h.1))
