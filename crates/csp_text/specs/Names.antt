-- Names of nodes, applications and links.
use Rattle.std.specs.Prelude.{ℕ, Bool, false, ◌&&◌, ◌||◌, ◌==◌, nat_le, List, [], ◌∷◌, length}
use Rattle.std.specs.List.{list_all}
use Rattle.std.specs.Char.{is_ascii_digit}
use Rattle.csp_text.specs.declared.naming.TheConstants.{MAX_NAME}

-- a letter `a` to `z`
abbrev pub is_letter : ℕ → Bool
is_letter b = nat_le 97 b && nat_le b 122

-- a byte of a name: a letter, a digit or `_`
abbrev pub is_name_byte : ℕ → Bool
is_name_byte b = is_letter b || is_ascii_digit b || b == 95

-- the first byte is a letter
abbrev pub begins_as_name : List ℕ → Bool
begins_as_name [] = false
begins_as_name (b ∷ bs) = is_letter b

-- a name: a letter, and up to 10 letters, digits and `_`
abbrev pub is_name : List ℕ → Bool
is_name word = begins_as_name word && nat_le (length word) MAX_NAME && list_all is_name_byte word
