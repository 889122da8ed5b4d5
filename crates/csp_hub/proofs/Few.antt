-- no plan adds more copies to a frame than a fault may
use Rattle.std.proofs.Common.{ℕ, ◌≤◌, max, [], ◌∷◌, arith}
use Rattle.std.specs.List.{All, fold}
use Rattle.std.specs.Map.{values_of}
use Rattle.std.proofs.lemmas.List.Elements.{All-head, All-tail}
use Rattle.csp_link.specs.Fates.{Fates, most_copies}
use Rattle.csp_link.specs.declared.fates.Fate.{Fate}
use Rattle.csp_link.specs.declared.fault.TheConstants.{MAX_REPEATS}

most_from : (fates : Fates) (a : ℕ) → a ≤ MAX_REPEATS → All (λ (f : Fate). f.repeats ≤ MAX_REPEATS) (values_of fates) → fold (λ most entry. max most entry.1.repeats) a fates ≤ MAX_REPEATS
most_from [] a few all = few
most_from (e ∷ es) a few all =
    let P : Fate → Type 0 = λ f. f.repeats ≤ MAX_REPEATS in
    let one : e.1.repeats ≤ MAX_REPEATS = All-head P e.1 (values_of es) all in
    let most : max a e.1.repeats ≤ MAX_REPEATS = omega (arith, one, few) in
    most_from es (max a e.1.repeats) most (All-tail P e.1 (values_of es) all)

pub most_few : (fates : Fates) → All (λ (f : Fate). f.repeats ≤ MAX_REPEATS) (values_of fates) → most_copies fates ≤ MAX_REPEATS
most_few fates all = most_from fates 0 (omega arith) all

-- the most copies only grow from entry to entry
pub most_above : (fates : Fates) (a : ℕ) → a ≤ fold (λ most entry. max most entry.1.repeats) a fates
most_above [] a = omega arith
most_above (e ∷ es) a = let more = most_above es (max a e.1.repeats) in omega (arith, more)
