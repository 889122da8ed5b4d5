-- Bytes and words as hexadecimal digits.
use Rattle.std.specs.Prelude.{ℕ, ◌%◌, Bool, not, ◌&&◌, ◌||◌, ◌==◌, List, [], length, codes, if◌then◌else◌}
use Rattle.std.specs.List.{list_all}
use Rattle.std.specs.Result.{result_unwrap_or}
use Rattle.std.specs.Str.{bytes_eq}
use Rattle.std.specs.Str.Parse.{digits_value}
use Rattle.hex.specs.Hex.{is_hex_digit, decode_of}
use Rattle.csp_text.specs.declared.hexadecimal.TheConstants.{WORD_DIGITS}

-- pairs of hexadecimal digits, in either case
abbrev pub is_hex : List ℕ → Bool
is_hex word = length word % 2 == 0 && list_all is_hex_digit word

-- the bytes that they write, the high digit of each first
abbrev pub hex_bytes : List ℕ → List ℕ
hex_bytes word = result_unwrap_or (decode_of word) []

-- how no bytes are written where there may be none
abbrev pub no_bytes : List ℕ
no_bytes = codes "-"

-- bytes as a word of a line: `-`, or pairs of hexadecimal digits
abbrev pub is_bytes : List ℕ → Bool
is_bytes word = bytes_eq word no_bytes || (not (length word == 0) && is_hex word)

-- the digits of such a word
abbrev pub byte_digits : List ℕ → List ℕ
byte_digits word = if bytes_eq word no_bytes then [] else word

-- the bytes that such a word writes
abbrev pub bytes_of : List ℕ → List ℕ
bytes_of word = hex_bytes (byte_digits word)

-- eight hexadecimal digits, in either case
abbrev pub is_hex_word : List ℕ → Bool
is_hex_word word = length word == WORD_DIGITS && list_all is_hex_digit word

-- the number that hexadecimal digits write
abbrev pub hex_number : List ℕ → ℕ
hex_number digits = digits_value 16 digits
