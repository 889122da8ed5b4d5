-- Words whose bytes pass a test of ASCII bytes are ASCII, and what `parse` reads in digits.
use Rattle.std.proofs.Common.{◌≡◌, ℕ, ◌<◌, ◌^◌, Bool, true, ◌&&◌, eqb, leb, List, [], ◌∷◌, ◌||◌, length, arith, inl, inr, refl, ap, Result, Ok, Err, IsTrue}
use Rattle.std.specs.List.{list_all}
use Rattle.std.specs.Option.{SomeIff}
use Rattle.std.specs.Result.{result_ok, OkIff}
use Rattle.std.specs.Str.{IsAscii, all_ascii_digits}
use Rattle.std.specs.Str.Parse.{ParsesUnsigned, digits_value}
use Rattle.std.specs.Char.{is_ascii_digit}
use Rattle.std.proofs.lemmas.Str.Ascii.{IsAscii-nil, IsAscii-cons}
use Rattle.std.proofs.lemmas.Str.Parse.{IsNumeralModel, numerals_by_value, tells_all_ascii_digits, parse_digits}
use Rattle.std.proofs.lemmas.Bool.{and_parts, leb-true, eqb-true, or_cases}
use Rattle.csp_text.specs.Names.{is_letter, is_name_byte, begins_as_name, is_name}
use Rattle.csp_text.specs.Numbers.{begins_as_number, is_decimal, number_of}

pub digit_ascii : (b : ℕ) → is_ascii_digit b ≡ true → b < 128
digit_ascii b h = omega (arith, leb-true b 57 (and_parts (leb 48 b) (leb b 57) h).1)

letter_ascii : (b : ℕ) → is_letter b ≡ true → b < 128
letter_ascii b h = omega (arith, leb-true b 122 (and_parts (leb 97 b) (leb b 122) h).1)

pub name_byte_ascii : (b : ℕ) → is_name_byte b ≡ true → b < 128
name_byte_ascii b h =
    elim (or_cases (is_letter b || is_ascii_digit b) (eqb b 95) h) [
      | inl front ↦ elim (or_cases (is_letter b) (is_ascii_digit b) front) [ inl l ↦ letter_ascii b l | inr d ↦ digit_ascii b d ]
      | inr same ↦ omega (arith, eqb-true b 95 same)
    ]

pub IsAscii-from_test : (test : ℕ → Bool) → ((b : ℕ) → test b ≡ true → b < 128) → (bs : List ℕ) → list_all test bs ≡ true → IsAscii bs
IsAscii-from_test test small [] h = IsAscii-nil
IsAscii-from_test test small (b ∷ bs) h =
    let parts = and_parts (test b) (list_all test bs) h in
    IsAscii-cons b bs (small b parts.0) (IsAscii-from_test test small bs parts.1)

pub IsAscii-name : (word : List ℕ) → is_name word ≡ true → IsAscii word
IsAscii-name word h =
    IsAscii-from_test is_name_byte name_byte_ascii word (and_parts (begins_as_name word && leb (length word) 11) (list_all is_name_byte word) h).1

pub all_digits_is : (word : List ℕ) → list_all is_ascii_digit word ≡ all_ascii_digits word
all_digits_is [] = refl
all_digits_is (b ∷ bs) = ap (λ rest. is_ascii_digit b && rest) (all_digits_is bs)

pub IsAscii-decimal : (word : List ℕ) → is_decimal word ≡ true → IsAscii word
IsAscii-decimal word h =
    IsAscii-from_test is_ascii_digit digit_ascii word (rw (all_digits_is word) (and_parts (begins_as_number word) (all_ascii_digits word) h).1)

-- digits, and the number that they write
pub own : IsNumeralModel (λ ds. all_ascii_digits ds ≡ true) (digits_value 10)
own = numerals_by_value _ tells_all_ascii_digits

some_bytes : (word : List ℕ) → begins_as_number word ≡ true → 0 < length word
some_bytes [] h = cc
some_bytes (b ∷ []) h = omega arith
some_bytes (b ∷ c ∷ bs) h = omega arith

gives : {E : Type 0} (word : List ℕ) (r : Result ℕ E) → is_decimal word ≡ true → OkIff r ((0 < length word) × (number_of word < 2 ^ 64)) (number_of word) → SomeIff (result_ok r) (IsTrue (is_decimal word) × (number_of word < 2 ^ 64)) (number_of word)
gives word (Ok x) h e = ((h, e.0.1), e.1)
gives word (Err x) h e = λ k. e (some_bytes word (and_parts (begins_as_number word) (all_ascii_digits word) h).0, k.1)

pub number_gives : {E : Type 0} (word : List ℕ) (r : Result ℕ E) → is_decimal word ≡ true → ParsesUnsigned 64 10 word r → SomeIff (result_ok r) (IsTrue (is_decimal word) × (number_of word < 2 ^ 64)) (number_of word)
number_gives word r h e = gives word r h (parse_digits own 64 word r e (and_parts (begins_as_number word) (all_ascii_digits word) h).1)
