-- Decimal numbers.
use Rattle.std.specs.Prelude.{ℕ, Bool, true, false, not, ◌&&◌, ◌==◌, List, [], ◌∷◌}
use Rattle.std.specs.Str.{all_ascii_digits}
use Rattle.std.specs.Str.Parse.{digits_value}

-- there is a first byte, and where more follow it is no `0`
abbrev pub begins_as_number : List ℕ → Bool
begins_as_number [] = false
begins_as_number (b ∷ []) = true
begins_as_number (b ∷ c ∷ bs) = not (b == 48)

-- a decimal number: digits, without a sign, and without a leading zero where there are several
abbrev pub is_decimal : List ℕ → Bool
is_decimal word = begins_as_number word && all_ascii_digits word

-- the number that digits write, however many they are
abbrev pub number_of : List ℕ → ℕ
number_of digits = digits_value 10 digits
