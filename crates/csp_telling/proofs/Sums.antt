-- Sums over lists.
use Rattle.std.proofs.Common.{◌≡◌, ◌≢◌, ◌+◌, ℕ, zero, suc, List, [], ◌∷◌, ◌++◌, Some, refl, ap, arith}
use Rattle.std.specs.Prelude.{slice_get}
use Rattle.std.specs.List.{flat_map, sum_by}
use Rattle.std.proofs.lemmas.List.Sums.{sum_by-cons}
use Rattle.std.proofs.lemmas.Option.{same_Some}

-- numbers that are the same, one by one, add up to the same
pub sum_same : {X : Type 0} (f g : X → ℕ) (xs : List X) → ((k : ℕ) (x : X) → slice_get xs k ≡ Some x → f x ≡ g x) → sum_by f xs ≡ sum_by g xs
sum_same f g [] same = refl
sum_same f g (x ∷ xs) same =
    let one = sum_by-cons f x xs in
    let other = sum_by-cons g x xs in
    let first = same 0 x refl in
    let rest = sum_same f g xs (λ k. same (suc k)) in
    omega (arith, one, other, first, rest)

-- two numbers of each
pub sum_both : {X : Type 0} (f g : X → ℕ) (xs : List X) → sum_by (λ x. f x + g x) xs ≡ sum_by f xs + sum_by g xs
sum_both f g [] = refl
sum_both f g (x ∷ xs) =
    let all = sum_by-cons (λ x. f x + g x) x xs in
    let one = sum_by-cons f x xs in
    let other = sum_by-cons g x xs in
    let rest = sum_both f g xs in
    omega (arith, all, one, other, rest)

-- nothing adds up to nothing
pub sum_none : {X : Type 0} (f : X → ℕ) (xs : List X) → ((k : ℕ) (x : X) → slice_get xs k ≡ Some x → f x ≡ 0) → sum_by f xs ≡ 0
sum_none f [] none = refl
sum_none f (x ∷ xs) none =
    let all = sum_by-cons f x xs in
    let first = none 0 x refl in
    let rest = sum_none f xs (λ k. none (suc k)) in
    omega (arith, all, first, rest)

-- and one number and nothing else to that number
pub sum_one : {X : Type 0} (f : X → ℕ) (xs : List X) (at : ℕ) (y : X) → slice_get xs at ≡ Some y → ((k : ℕ) (x : X) → slice_get xs k ≡ Some x → k ≢ at → f x ≡ 0) → sum_by f xs ≡ f y
sum_one f [] at y e none = absurd cc
sum_one f (x ∷ xs) zero y e none =
    let all = sum_by-cons f x xs in
    let first = ap f (same_Some x y e) in
    let rest = sum_none f xs (λ k z g. none (suc k) z g (λ c. absurd cc)) in
    omega (arith, all, first, rest)
sum_one f (x ∷ xs) (suc at) y e none =
    let all = sum_by-cons f x xs in
    let first = none 0 x refl (λ c. absurd cc) in
    let rest = sum_one f xs at y e (λ k z g apart. none (suc k) z g (λ c. apart (omega (arith, c)))) in
    omega (arith, all, first, rest)

-- what adds up over lists does over the lists of which one is made
pub sum_flat : {X Y : Type 0} (size : List Y → ℕ) (g : X → List Y) (xs : List X) → size [] ≡ 0 → ((us vs : List Y) → size (us ++ vs) ≡ size us + size vs) → size (flat_map g xs) ≡ sum_by (λ x. size (g x)) xs
sum_flat size g [] none more = none
sum_flat size g (x ∷ xs) none more =
    let all = sum_by-cons (λ x. size (g x)) x xs in
    let one = more (g x) (flat_map g xs) in
    let rest = sum_flat size g xs none more in
    omega (arith, all, one, rest)
