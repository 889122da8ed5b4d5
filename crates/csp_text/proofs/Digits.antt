-- Hexadecimal digits: their bytes, their values, the number of bytes that they write, and what `from_str_radix` reads in them.
use Rattle.std.proofs.Common.{◌≡◌, ◌≢◌, ℕ, ◌*◌, ◌%◌, ◌<◌, ◌≤◌, ◌^◌, Bool, true, false, cond, not, ◌&&◌, ◌||◌, eqb, List, [], ◌∷◌, length, get_or, Result, Ok, Err, arith, inl, inr, refl, sym, ap, subst}
use Rattle.std.specs.List.{list_all}
use Rattle.std.specs.Result.{OkIff, result_unwrap_or}
use Rattle.std.specs.Str.{IsAscii, bytes_eq}
use Rattle.std.specs.Char.{digit_value}
use Rattle.std.specs.Str.Parse.{AllDigits, ParsesUnsigned, digits_value}
use Rattle.std.proofs.lemmas.Bool.{and_parts, eqb-true, cases_lt}
use Rattle.std.proofs.lemmas.List.Sums.{AllPass-from_list_all}
use Rattle.std.proofs.lemmas.Int.Digits.{digits_value-lt}
use Rattle.std.proofs.lemmas.Str.Parse.{without_leading_plus_none}
use Rattle.hex.specs.Hex.{is_hex_digit}
use Rattle.hex.proofs.HexLemmas.{decode_of-digits, decode_of-ok}
use Rattle.csp_text.specs.Hexadecimal.{is_hex, hex_bytes, no_bytes, is_bytes, byte_digits, bytes_of, is_hex_word, hex_number}
use Rattle.csp_text.proofs.Bytes.{IsAscii-from_test}

hex_digit_ascii : (b : ℕ) → is_hex_digit b ≡ true → b < 128
hex_digit_ascii b h = grind (arith)

below_first_letter : (b : ℕ) → b < 65 → is_hex_digit b ≡ true → digit_value b < 16
below_first_letter b h is = grind (arith)

below_small_letter : (b : ℕ) → 65 ≤ b → b < 97 → is_hex_digit b ≡ true → digit_value b < 16
below_small_letter b least h is = grind (arith)

last_digit : (b : ℕ) → 97 ≤ b → is_hex_digit b ≡ true → b < 103
last_digit b least is = grind (arith)

small_value : (b : ℕ) → 97 ≤ b → b < 103 → digit_value b < 16
small_value b least most = grind (arith)

above : (b : ℕ) → 97 ≤ b → is_hex_digit b ≡ true → digit_value b < 16
above b least is = small_value b least (last_digit b least is)

hex_digit_below : (b : ℕ) → is_hex_digit b ≡ true → digit_value b < 16
hex_digit_below b h =
    elim (cases_lt b 65) [
      | inl low ↦ below_first_letter b low h
      | inr from ↦ elim (cases_lt b 97) [ inl low ↦ below_small_letter b from low h | inr high ↦ above b high h ]
    ]

hex_digit_no_plus : (b : ℕ) → is_hex_digit b ≡ true → b ≢ 43
hex_digit_no_plus b h e = grind (arith)

IsAscii-hex : (word : List ℕ) → list_all is_hex_digit word ≡ true → IsAscii word
IsAscii-hex word h = IsAscii-from_test is_hex_digit hex_digit_ascii word h

all_digits : (word : List ℕ) → list_all is_hex_digit word ≡ true → AllDigits 16 word
all_digits [] h = tt
all_digits (b ∷ bs) h =
    let parts = and_parts (is_hex_digit b) (list_all is_hex_digit bs) h in
    (hex_digit_below b parts.0, all_digits bs parts.1)

no_plus : (word : List ℕ) → list_all is_hex_digit word ≡ true → get_or word 0 0 ≢ 43
no_plus [] h = λ e. omega arith
no_plus (b ∷ bs) h = hex_digit_no_plus b (and_parts (is_hex_digit b) (list_all is_hex_digit bs) h).0

read : {E : Type 0} (r : Result ℕ E) (P : Type 0) (value : ℕ) → P → OkIff r P value → r ≡ Ok value
read (Ok x) P value p h = ap Ok h.1
read (Err e) P value p h = absurd (h p)

-- eight hexadecimal digits are read as the number that they write
pub hex_word_reads : {E : Type 0} (word : List ℕ) (r : Result ℕ E) → is_hex_word word ≡ true → ParsesUnsigned 32 16 word r → r ≡ Ok (hex_number word)
hex_word_reads word r h parses =
    let parts = and_parts (eqb (length word) 8) (list_all is_hex_digit word) h in
    let eight = eqb-true (length word) 8 parts.0 in
    let digits = all_digits word parts.1 in
    let bound : digits_value 16 word < 16 ^ 8 = subst (λ count. digits_value 16 word < 16 ^ count) eight (digits_value-lt 16 word digits) in
    read r _ (digits_value 16 word) ((omega arith, digits), bound) (rw (without_leading_plus_none word (no_plus word parts.1)) at parses)

-- pairs of digits are twice as many as the bytes that they write
length-hex_bytes : (word : List ℕ) → is_hex word ≡ true → length word ≡ 2 * length (hex_bytes word)
length-hex_bytes word h =
    let parts = and_parts (eqb (length word % 2) 0) (list_all is_hex_digit word) h in
    let found = decode_of-digits word (eqb-true (length word % 2) 0 parts.0) (AllPass-from_list_all is_hex_digit word parts.1) in
    let found_is : hex_bytes word ≡ found.0 = ap (λ r. result_unwrap_or r []) found.1 in
    rw found_is (decode_of-ok word found.0 found.1).2

pub IsAscii-hex_word : (word : List ℕ) → is_hex_word word ≡ true → IsAscii word
IsAscii-hex_word word h = IsAscii-hex word (and_parts (eqb (length word) 8) (list_all is_hex_digit word) h).1

hex_by_test : (word : List ℕ) (none : Bool) → (none || (not (eqb (length word) 0) && is_hex word)) ≡ true → is_hex (cond none [] word) ≡ true
hex_by_test word true h = refl
hex_by_test word false h = (and_parts (not (eqb (length word) 0)) (is_hex word) h).1

-- the digits of a word that writes bytes are pairs, as many as the bytes
pub is_hex-byte_digits : (word : List ℕ) → is_bytes word ≡ true → is_hex (byte_digits word) ≡ true
is_hex-byte_digits word h = hex_by_test word (bytes_eq word no_bytes) h

pub length-byte_digits : (word : List ℕ) → is_bytes word ≡ true → length (byte_digits word) ≡ 2 * length (bytes_of word)
length-byte_digits word h = length-hex_bytes (byte_digits word) (is_hex-byte_digits word h)

pub no_digits : (word : List ℕ) → bytes_eq word no_bytes ≡ true → [] ≡ byte_digits word
no_digits word h = sym (ap (λ none. cond none [] word) h)

pub own_digits : (word : List ℕ) → bytes_eq word no_bytes ≡ false → word ≡ byte_digits word
own_digits word h = sym (ap (λ none. cond none [] word) h)
