-- The digits of numbers and of bytes.
use Rattle.std.proofs.Common.{◌≡◌, ℕ, ◌+◌, ◌/◌, ◌%◌, ◌<◌, ◌≤◌, List, [], ◌∷◌, ◌++◌, refl, ap, ◌∙◌, arith}
use Rattle.std.proofs.lemmas.Fmt.{decimal_digit, decimal_step}
use Rattle.std.specs.Fmt.{decimal}
use Rattle.std.specs.List.{slice_index}
use Rattle.hex.specs.Hex.{encode_lower, encode_with, lower_digits}

pub one_digit : (n : ℕ) → n < 10 → decimal n ≡ (48 + n) ∷ []
one_digit n h = decimal_digit n h

pub two_digits : (n : ℕ) → 10 ≤ n → n < 100 → decimal n ≡ (48 + n / 10) ∷ (48 + n % 10) ∷ []
two_digits n low high = decimal_step n low (omega arith) ∙ ap (λ ds. ds ++ (48 + n % 10) ∷ []) (decimal_digit (n / 10) (omega arith))

pub encode_none : encode_lower [] ≡ []
unfolding encode_with
encode_none = refl

pub encode_one : (byte : ℕ) → encode_lower (byte ∷ []) ≡ slice_index lower_digits (byte / 16) ∷ slice_index lower_digits (byte % 16) ∷ []
unfolding encode_with
encode_one byte = refl

pub encode_append : (bytes more : List ℕ) → encode_lower (bytes ++ more) ≡ encode_lower bytes ++ encode_lower more
unfolding encode_with
encode_append [] more = refl
encode_append (byte ∷ bytes) more = ap (λ rest. slice_index lower_digits (byte / 16) ∷ slice_index lower_digits (byte % 16) ∷ rest) (encode_append bytes more)
