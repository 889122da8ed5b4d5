-- the bytes of a script's packets stay where they are when a step is added
use Rattle.std.proofs.Common.{◌≡◌, ℕ, zero, suc, ◌+◌, ◌<◌, ◌≤◌, Bool, List, [], ◌∷◌, ◌++◌, length, get_or, map, take, drop, cond, refl, ap, ap₂, ◌∙◌, arith, length-append}
use Rattle.std.specs.Prelude.{◌||◌, count_by}
use Rattle.std.specs.List.{list_any}
use Rattle.std.proofs.Math.Seq.{drop-append_seam}
use Rattle.std.proofs.lemmas.List.{take-append-le, drop-append-le, take_all, length-drop, map-append}
use Rattle.std.proofs.lemmas.List.Sums.{sum_by-cons}
use Rattle.csp_app.specs.PlainStep.{PlainStep}
use Rattle.csp_app.specs.PlainStep as plain
use Rattle.csp_app.specs.Placing.{part, place_after, placed_step, IsWithin, AreWithin}
use Rattle.csp_app.specs.Collecting.{collects_on}
use Rattle.csp_app.specs.Room.{is_take, take_steps}
use Rattle.csp_app.specs.declared.placed.Place.{Place}
use Rattle.csp_app.specs.declared.placed.Placed.{Placed}
use Rattle.csp_app.specs.declared.placed.Placed.TheVariants as placed

part_kept : (bytes more : List ℕ) (p : Place) → p.first + p.len ≤ length bytes → part (bytes ++ more) p ≡ part bytes p
part_kept bytes more p h = ap (take p.len) (drop-append-le p.first bytes more (omega arith)) ∙ take-append-le p.len (drop p.first bytes) more (omega (arith, length-drop p.first bytes))

step_kept : (bytes more : List ℕ) (x : Placed) → IsWithin bytes x → placed_step (bytes ++ more) x ≡ placed_step bytes x
step_kept bytes more (placed.Send slot p) h = ap (plain.Send slot) (part_kept bytes more p h)
step_kept bytes more (placed.Raw header p) h = ap (plain.Raw header) (part_kept bytes more p h)
step_kept bytes more _ h = refl

within_more : (bytes more : List ℕ) (x : Placed) → IsWithin bytes x → IsWithin (bytes ++ more) x
within_more bytes more (placed.Send slot p) h = omega (arith, length-append bytes more)
within_more bytes more (placed.Raw header p) h = omega (arith, length-append bytes more)
within_more bytes more _ h = tt

steps_kept : (bytes more : List ℕ) (xs : List Placed) → AreWithin bytes xs → map (placed_step (bytes ++ more)) xs ≡ map (placed_step bytes) xs
steps_kept bytes more [] h = refl
steps_kept bytes more (x ∷ xs) h = ap₂ (λ y ys. y ∷ ys) (step_kept bytes more x h.0) (steps_kept bytes more xs h.1)

-- bytes that follow a list stand at the place after it
pub part_added : (bytes more : List ℕ) → part (bytes ++ more) (place_after bytes more) ≡ more
part_added bytes more = ap (take (length more)) (drop-append_seam bytes more) ∙ take_all (length more) more (omega arith)

-- a script with a step more
pub pushed_is : (bytes more : List ℕ) (xs : List Placed) (x : Placed) (s : PlainStep) → AreWithin bytes xs → placed_step (bytes ++ more) x ≡ s
    → map (placed_step (bytes ++ more)) (xs ++ x ∷ []) ≡ map (placed_step bytes) xs ++ s ∷ []
pushed_is bytes more xs x s within is = map-append (placed_step (bytes ++ more)) xs (x ∷ []) ∙ ap₂ (λ ys y. ys ++ y ∷ []) (steps_kept bytes more xs within) is

pub pushed_within : (bytes more : List ℕ) (xs : List Placed) (x : Placed) → AreWithin bytes xs → IsWithin (bytes ++ more) x → AreWithin (bytes ++ more) (xs ++ x ∷ [])
pushed_within bytes more [] x within last = (last, tt)
pushed_within bytes more (y ∷ ys) x within last = (within_more bytes more y within.0, pushed_within bytes more ys x within.1 last)

-- the list has the bytes of the step with this number
pub within_at : (bytes : List ℕ) (xs : List Placed) (n : ℕ) (d : Placed) → AreWithin bytes xs → n < length xs → IsWithin bytes (get_or xs n d)
within_at bytes [] n d all h = absurd (omega (arith, h))
within_at bytes (x ∷ xs) zero d all h = all.0
within_at bytes (x ∷ xs) (suc n) d all h = within_at bytes xs n d all.1 (omega arith)

pub placed_at : (bytes : List ℕ) (xs : List Placed) (n : ℕ) (d : Placed) (e : PlainStep) → n < length xs → get_or (map (placed_step bytes) xs) n e ≡ placed_step bytes (get_or xs n d)
placed_at bytes [] n d e h = absurd (omega (arith, h))
placed_at bytes (x ∷ xs) zero d e h = refl
placed_at bytes (x ∷ xs) (suc n) d e h = placed_at bytes xs n d e (omega arith)

same_take : (bytes : List ℕ) (x : Placed) → is_take (placed_step bytes x) ≡ is_take (placed_step [] x)
same_take bytes placed.Take = refl
same_take bytes placed.Give = refl
same_take bytes (placed.Bind _ _) = refl
same_take bytes (placed.Connect _ _ _ _ _ _) = refl
same_take bytes (placed.Send _ _) = refl
same_take bytes (placed.Burst _ _ _) = refl
same_take bytes (placed.Blob _ _ _) = refl
same_take bytes (placed.Raw _ _) = refl
same_take bytes (placed.Recv _ _ _) = refl
same_take bytes (placed.Collect _ _ _) = refl
same_take bytes (placed.Close _) = refl
same_take bytes (placed.Wait _) = refl

abbrev ones : Bool → ℕ
ones b = cond b 1 0

-- as many steps take a buffer, wherever the bytes of the others stand
pub same_takes : (bytes : List ℕ) (xs : List Placed) → take_steps (map (placed_step bytes) xs) ≡ count_by (λ x. is_take (placed_step [] x)) xs
same_takes bytes [] = refl
same_takes bytes (x ∷ xs) =
    let one : ones (is_take (placed_step bytes x)) ≡ ones (is_take (placed_step [] x)) = ap ones (same_take bytes x) in
    omega (arith, sum_by-cons (λ y. cond (is_take y) 1 0) (placed_step bytes x) (map (placed_step bytes) xs), sum_by-cons (λ y. cond (is_take (placed_step [] y)) 1 0) x xs, one, same_takes bytes xs)

same_collect : (slot : ℕ) (bytes : List ℕ) (x : Placed) → collects_on slot (placed_step bytes x) ≡ collects_on slot (placed_step [] x)
same_collect slot bytes placed.Take = refl
same_collect slot bytes placed.Give = refl
same_collect slot bytes (placed.Bind _ _) = refl
same_collect slot bytes (placed.Connect _ _ _ _ _ _) = refl
same_collect slot bytes (placed.Send _ _) = refl
same_collect slot bytes (placed.Burst _ _ _) = refl
same_collect slot bytes (placed.Blob _ _ _) = refl
same_collect slot bytes (placed.Raw _ _) = refl
same_collect slot bytes (placed.Recv _ _ _) = refl
same_collect slot bytes (placed.Collect _ _ _) = refl
same_collect slot bytes (placed.Close _) = refl
same_collect slot bytes (placed.Wait _) = refl

-- a slot is collected on, wherever the bytes of the steps stand
pub same_collects : (slot : ℕ) (bytes : List ℕ) (xs : List Placed) → list_any (collects_on slot) (map (placed_step bytes) xs) ≡ list_any (λ x. collects_on slot (placed_step [] x)) xs
same_collects slot bytes [] = refl
same_collects slot bytes (x ∷ xs) = ap₂ (λ a b. a || b) (same_collect slot bytes x) (same_collects slot bytes xs)
