-- A number of few digits is the only one that has them.
use Rattle.std.proofs.Common.{◌≡◌, ℕ, zero, suc, ◌+◌, ◌/◌, ◌%◌, ◌<◌, ◌≤◌, Bool, true, false, cond, eqb, ltb, List, [], ◌∷◌, length, refl, ap, arith}
use Rattle.std.specs.Prelude.{⊤}
use Rattle.std.specs.Fmt.{decimal, digits, digits_onto, digit_glyph}
use Rattle.std.proofs.lemmas.Bool.{eqb-true, ltb-true, ltb-false}
use Rattle.std.proofs.lemmas.Fmt.{decimal_injective, length-decimal-le}

-- a number has so many digits before its last
abbrev HasBefore : ℕ → ℕ → Type 0
HasBefore zero n = ⊤
HasBefore (suc j) n = (0 < n / 10) × HasBefore j (n / 10)

more_digits : (j k n : ℕ) (acc : List ℕ) → j < k → HasBefore j n → j + 1 + length acc ≤ length (digits_onto k 10 false n acc)
more_digits j zero n acc room has = absurd (omega (arith, room))
more_digits zero (suc k) n acc room has = by_test (eqb (n / 10) 0)
  where
    more : List ℕ
    more = digit_glyph false (n % 10) ∷ acc

    longer : (k n : ℕ) (acc : List ℕ) → length acc ≤ length (digits_onto k 10 false n acc)
    longer zero n acc = omega arith
    longer (suc k) n acc = by_two (longer k (n / 10) (digit_glyph false (n % 10) ∷ acc)) (eqb (n / 10) 0)
      where
        by_two : length (digit_glyph false (n % 10) ∷ acc) ≤ length (digits_onto k 10 false (n / 10) (digit_glyph false (n % 10) ∷ acc)) → (t : Bool)
            → length acc ≤ length (cond t (digit_glyph false (n % 10) ∷ acc) (digits_onto k 10 false (n / 10) (digit_glyph false (n % 10) ∷ acc)))
        by_two later true = omega arith
        by_two later false = omega (arith, later)

    by_test : (t : Bool) → 0 + 1 + length acc ≤ length (cond t more (digits_onto k 10 false (n / 10) more))
    by_test true = omega arith
    by_test false = omega (arith, longer k (n / 10) more)
more_digits (suc j) (suc k) n acc room has = by_test (more_digits j k (n / 10) (digit_glyph false (n % 10) ∷ acc) (omega (arith, room)) has.1) (eqb (n / 10) 0) refl
  where
    more : List ℕ
    more = digit_glyph false (n % 10) ∷ acc

    by_test : j + 1 + length more ≤ length (digits_onto k 10 false (n / 10) more) → (t : Bool) → eqb (n / 10) 0 ≡ t → suc j + 1 + length acc ≤ length (cond t more (digits_onto k 10 false (n / 10) more))
    by_test later true none = absurd (omega (arith, has.0, eqb-true (n / 10) 0 none))
    by_test later false some = omega (arith, later)

five_digits : (n : ℕ) → 10000 ≤ n → 5 ≤ length (decimal n)
unfolding digits
five_digits n large =
    let at : (k : ℕ) → 4 < k → 5 ≤ length (digits_onto k 10 false n []) =
    λ k room. omega (arith, more_digits 4 k n [] room (omega (arith, large), (omega (arith, large), (omega (arith, large), (omega (arith, large), tt))))) in
    at 64 (omega arith)

-- a number of at most four digits is the only one with its digits
pub same_number : (n k : ℕ) → k < 10000 → decimal n ≡ decimal k → n ≡ k
same_number n k few same = by_test (ltb n 10000) refl
  where
    by_test : (t : Bool) → ltb n 10000 ≡ t → n ≡ k
    by_test true small = decimal_injective n k (omega (arith, ltb-true n 10000 small)) (omega (arith, few)) same
    by_test false large = absurd (omega (arith, five_digits n (omega (arith, ltb-false n 10000 large)), ap length same, length-decimal-le 4 k (omega arith) (omega (arith, few)) (omega (arith, few))))
