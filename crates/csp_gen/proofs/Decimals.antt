-- What is written in decimal digits is read as the same number, and the other way round.
use Rattle.std.proofs.Common.{◌≡◌, ℕ, ◌<◌, ◌^◌, Bool, true, false, not, ◌&&◌, eqb, List, [], ◌∷◌, length, get_or, arith, refl}
use Rattle.std.specs.Fmt.{decimal}
use Rattle.std.specs.Str.{all_ascii_digits}
use Rattle.std.proofs.lemmas.Bool.{and_parts, eqb-true}
use Rattle.std.proofs.lemmas.Fmt.{decimal_nonempty, first_decimal, digits_decimal, digits_value-decimal, decimal-digits_value}
use Rattle.csp_text.specs.Numbers.{begins_as_number, is_decimal, number_of}
use Rattle.csp_text.proofs.Public.{own}

both_true : (a b : Bool) → a ≡ true → b ≡ true → (a && b) ≡ true
both_true true true e f = refl
both_true true false e f = cc
both_true false b e f = cc

not_zero : (b : ℕ) → 48 < b → not (eqb b 48) ≡ true
not_zero b h = by_test (eqb b 48) refl
  where
    by_test : (t : Bool) → eqb b 48 ≡ t → not t ≡ true
    by_test true e = absurd (omega (arith, eqb-true b 48 e))
    by_test false e = refl

begins : (word : List ℕ) → 0 < length word → 48 < get_or word 0 0 → begins_as_number word ≡ true
begins [] some first = absurd (omega arith)
begins (b ∷ []) some first = refl
begins (b ∷ c ∷ bs) some first = not_zero b first

-- what is written is a decimal number
pub is_decimal-decimal : (n : ℕ) → 0 < n → n < 2 ^ 64 → is_decimal (decimal n) ≡ true
is_decimal-decimal n some h = both_true _ _ (begins (decimal n) (decimal_nonempty n h) (first_decimal n some h)) (digits_decimal own n h)

-- and is read as that number
pub number_of-decimal : (n : ℕ) → n < 2 ^ 64 → number_of (decimal n) ≡ n
number_of-decimal n h = digits_value-decimal own n h

no_more : (word : List ℕ) → begins_as_number word ≡ true → get_or word 0 0 ≡ 48 → length word ≡ 1
no_more [] is zero_first = cc
no_more (b ∷ []) is zero_first = refl
no_more (b ∷ c ∷ bs) is zero_first = by_test (eqb b 48) refl is
  where
    by_test : (t : Bool) → eqb b 48 ≡ t → not t ≡ true → length (b ∷ c ∷ bs) ≡ 1
    by_test true e h = cc
    by_test false e h = absurd (other e)
      where
        other : eqb b 48 ≡ false → ⊥
        other e = grind (arith, zero_first)

some : (word : List ℕ) → begins_as_number word ≡ true → 0 < length word
some [] h = cc
some (b ∷ bs) h = omega arith

-- a number that is read is written with the same digits
pub decimal-number_of : (word : List ℕ) → is_decimal word ≡ true → number_of word < 2 ^ 64 → decimal (number_of word) ≡ word
decimal-number_of word is h =
    let parts = and_parts (begins_as_number word) (all_ascii_digits word) is in
    decimal-digits_value own word parts.1 (some word parts.0) (no_more word parts.0) h
