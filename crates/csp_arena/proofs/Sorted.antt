-- Numbers that don't fall and stand as often as those of a range are that range.
use Rattle.std.proofs.Common.{◌≡◌, ◌≢◌, ℕ, zero, suc, ◌+◌, ◌<◌, ◌≤◌, List, [], ◌∷◌, cond, ◌==◌, refl, sym, ap, ap₂, ◌∙◌, arith, All, ◌⊎◌, inl, inr}
use Rattle.std.specs.List.{range_with_len, count_by}
use Rattle.std.specs.List.Sorted.{IsNonDecreasingBy, IsPermutation}
use Rattle.std.proofs.lemmas.Bool.{cases_lt}
use Rattle.std.proofs.lemmas.Bool.Decides.{nat_tests}
use Rattle.std.proofs.lemmas.List.Elements.{All-head, All-tail}
use Rattle.std.proofs.lemmas.List.Sums.{sum_by-cons}
use Rattle.std.proofs.lemmas.List.Sorted.{IsNonDecreasingBy-drop, sum_by-IsPermutation}
use Rattle.csp_arena.specs.Cells.{PlainCell, HasEachOnce, numbers}

abbrev number : PlainCell → ℕ
number c = c.number

-- how often a number stands in a list
abbrev times : ℕ → List ℕ → ℕ
times k ns = count_by (λ m. m == k) ns

-- 1 where they are one number, else 0
abbrev one : ℕ → ℕ → ℕ
one n k = cond (n == k) 1 0

times_cons : (k n : ℕ) (ns : List ℕ) → times k (n ∷ ns) ≡ one n k + times k ns
times_cons k n ns = sum_by-cons (λ m. cond (m == k) 1 0) n ns

one_is : (n k : ℕ) → n ≡ k → one n k ≡ 1
one_is n k e = grind (arith, nat_tests)

one_is_not : (n k : ℕ) → n ≢ k → one n k ≡ 0
one_is_not n k e = grind (arith, nat_tests)

-- a number below all of them stands nowhere
times_below : (k : ℕ) (cells : List PlainCell) → All (λ c. k < number c) cells → times k (numbers cells) ≡ 0
times_below k [] low = refl
times_below k (c ∷ cells) low =
    let not : one c.number k ≡ 0 = one_is_not c.number k (λ e. omega (arith, e, All-head (λ c. k < number c) c cells low)) in
    omega (arith, times_cons k c.number (numbers cells), not, times_below k cells (All-tail (λ c. k < number c) c cells low))

times_before : (k a n : ℕ) → k < a → times k (range_with_len a n) ≡ 0
times_before k a zero h = refl
times_before k a (suc n) h =
    let not : one a k ≡ 0 = one_is_not a k (λ e. omega (arith, e, h)) in
    omega (arith, times_cons k a (range_with_len (a + 1) n), not, times_before k (a + 1) n (omega arith))

in_range : (a : ℕ) (cells : List PlainCell) (n : ℕ) → IsNonDecreasingBy number cells → ((k : ℕ) → times k (numbers cells) ≡ times k (range_with_len a n)) → numbers cells ≡ range_with_len a n
in_range a [] zero up same = refl
in_range a [] (suc n) up same = absurd (omega (arith, same a, times_cons a a (range_with_len (a + 1) n), one_is a a refl))
in_range a (c ∷ cells) zero up same = absurd (omega (arith, same c.number, times_cons c.number c.number (numbers cells), one_is c.number c.number refl))
in_range a (c ∷ cells) (suc n) up same =
    let head : c.number ≡ a = meets (cases_lt c.number a) (cases_lt a c.number) in
    ap₂ (λ k l. k ∷ l) head (in_range (a + 1) cells n (IsNonDecreasingBy-drop number 1 (c ∷ cells) up) (λ k.
    omega (arith, same k, times_cons k c.number (numbers cells), times_cons k a (range_with_len (a + 1) n), ap (λ m. one m k) head)))
  where
    meets : (c.number < a) ⊎ (a ≤ c.number) → (a < c.number) ⊎ (c.number ≤ a) → c.number ≡ a
    meets (inl low) other = absurd (omega (arith, same c.number, times_cons c.number c.number (numbers cells), one_is c.number c.number refl, times_before c.number a (suc n) low))
    meets (inr h) (inl high) =
        let none : times a (numbers (c ∷ cells)) ≡ 0 = times_below a (c ∷ cells) (λ k d h. omega (arith, up 0 k d (omega arith) h, high)) in
        absurd (omega (arith, same a, none, times_cons a a (range_with_len (a + 1) n), one_is a a refl))
    meets (inr h) (inr k) = omega arith

-- cells that are sorted by number, and have each of their region's numbers once, stand in order
pub sorted_in_order : (n : ℕ) (before cells : List PlainCell) → IsPermutation before cells → IsNonDecreasingBy number cells → HasEachOnce n (numbers before) → numbers cells ≡ range_with_len 0 n
sorted_in_order n before cells moved up once =
    in_range 0 cells n up (λ k. counts k cells ∙ sum_by-IsPermutation (λ c. cond (number c == k) 1 0) before cells moved ∙ sym (counts k before) ∙ once k)
  where
    counts : (k : ℕ) (xs : List PlainCell) → times k (numbers xs) ≡ count_by (λ c. number c == k) xs
    counts k [] = refl
    counts k (c ∷ xs) = times_cons k c.number (numbers xs) ∙ ap (λ m. one c.number k + m) (counts k xs) ∙ sym (sum_by-cons (λ d. cond (number d == k) 1 0) c xs)
