-- How many packets pass a test among those that some entries give.
use Rattle.std.proofs.Common.{◌≡◌, ℕ, zero, suc, ◌+◌, ◌<◌, ◌≤◌, Bool, false, cond, Option, None, Some, List, [], ◌∷◌, take, get_or, length, count_by, refl, add-one, arith}
use Rattle.std.proofs.lemmas.List.Sums.{sum_by-append, sum_by-cons}
use Rattle.std.specs.List.{slice_get, filter_map, flat_map, cons_option}
use Rattle.std.specs.Option.{option_and_then, option_map_or}

one-more : {X Y : Type 0} (p : Y → Bool) (g : X → Option Y) (xs : List X) (k : ℕ)
    → count_by p (filter_map g (take (suc k) xs)) ≡ count_by p (filter_map g (take k xs)) + cond (option_map_or p (option_and_then g (slice_get xs k)) false) 1 0
one-more p g [] zero = refl
one-more p g [] (suc k) = refl
one-more {X} {Y} p g (x ∷ xs) zero = by (g x)
  where
    by : (o : Option Y) → count_by p (cons_option o []) ≡ 0 + cond (option_map_or p o false) 1 0
    by None = refl
    by (Some y) = omega (arith, sum_by-cons (λ (z : Y). cond (p z) 1 0) y [])
one-more {X} {Y} p g (x ∷ xs) (suc k) = by (g x) (one-more p g xs k)
  where
    by : (o : Option Y) → count_by p (filter_map g (take (suc k) xs)) ≡ count_by p (filter_map g (take k xs)) + cond (option_map_or p (option_and_then g (slice_get xs k)) false) 1 0
        → count_by p (cons_option o (filter_map g (take (suc k) xs))) ≡ count_by p (cons_option o (filter_map g (take k xs))) + cond (option_map_or p (option_and_then g (slice_get xs k)) false) 1 0
    by None h = h
    by (Some y) h = omega (arith, h, sum_by-cons (λ (z : Y). cond (p z) 1 0) y (filter_map g (take (suc k) xs)), sum_by-cons (λ (z : Y). cond (p z) 1 0) y (filter_map g (take k xs)))

-- the count with the next entry
pub count-next : {X Y : Type 0} (p : Y → Bool) (g : X → Option Y) (xs : List X) (k : ℕ) (b : Bool) → b ≡ option_map_or p (option_and_then g (slice_get xs k)) false
    → count_by p (filter_map g (take (k + 1) xs)) ≡ count_by p (filter_map g (take k xs)) + cond b 1 0
count-next p g xs k b is = rw (add-one k, is) (one-more p g xs k)

-- a count so far and what the next element gives are within the whole count
pub count-within : {X Y : Type 0} (p : Y → Bool) (g : X → List Y) (xs : List X) (k : ℕ) (d : X) → k < length xs → count_by p (flat_map g (take k xs)) + count_by p (g (get_or xs k d)) ≤ count_by p (flat_map g xs)
count-within {X = X} {Y = Y} p g [] k d h = elim h [ ]
count-within p g (x ∷ xs) zero d h = omega (arith, sum_by-append (λ y. cond (p y) 1 0) (g x) (flat_map g xs))
count-within p g (x ∷ xs) (suc k) d h =
    omega (arith, count-within p g xs k d (omega arith), sum_by-append (λ y. cond (p y) 1 0) (g x) (flat_map g xs), sum_by-append (λ y. cond (p y) 1 0) (g x) (flat_map g (take k xs)))
