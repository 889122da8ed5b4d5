-- how many buffers the rest of a script takes
use Rattle.std.proofs.Common.{◌≡◌, ℕ, zero, suc, ◌+◌, ◌≤◌, ◌<◌, List, [], ◌∷◌, Some, length, drop, cond, add-one, arith, sym, subst}
use Rattle.std.specs.List.{slice_get}
use Rattle.std.proofs.Math.Nat.{le_refl}
use Rattle.std.proofs.lemmas.List.Sums.{sum_by-cons}
use Rattle.std.proofs.lemmas.Option.{slice_get_within}
use Rattle.csp_app.specs.PlainStep.{PlainStep}
use Rattle.csp_app.specs.PlainStep as step
use Rattle.csp_app.specs.Room.{take_steps, is_take}

takes_suc : (steps : List PlainStep) (n : ℕ) → take_steps (drop (suc n) steps) ≤ take_steps (drop n steps)
takes_suc [] zero = le_refl 0
takes_suc [] (suc n) = le_refl 0
takes_suc (x ∷ xs) zero = omega (arith, sum_by-cons (λ s. cond (is_take s) 1 0) x xs)
takes_suc (x ∷ xs) (suc n) = takes_suc xs n

-- a step fewer takes no more
pub takes_less : (steps : List PlainStep) (n : ℕ) → take_steps (drop (n + 1) steps) ≤ take_steps (drop n steps)
takes_less steps n = subst (λ (k : ℕ). take_steps (drop k steps) ≤ take_steps (drop n steps)) (sym (add-one n)) (takes_suc steps n)

takes_take_suc : (steps : List PlainStep) (n : ℕ) → slice_get steps n ≡ Some step.Take → take_steps (drop (suc n) steps) + 1 ≤ take_steps (drop n steps)
takes_take_suc [] n h = absurd cc
takes_take_suc (step.Take ∷ xs) zero h = omega (arith, sum_by-cons (λ s. cond (is_take s) 1 0) step.Take xs)
takes_take_suc (_ ∷ xs) zero h = absurd cc
takes_take_suc (x ∷ xs) (suc n) h = takes_take_suc xs n h

-- a `take` less takes one less
pub takes_take : (steps : List PlainStep) (n : ℕ) → slice_get steps n ≡ Some step.Take → (take_steps (drop (n + 1) steps) + 1 ≤ take_steps (drop n steps)) × (n < length steps)
takes_take steps n h = (subst (λ (k : ℕ). take_steps (drop k steps) + 1 ≤ take_steps (drop n steps)) (sym (add-one n)) (takes_take_suc steps n h), slice_get_within steps n _ h)
