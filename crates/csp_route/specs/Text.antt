-- The text of a table: rows `ADDR[/MASK] IFACE [VIA]`, separated by commas.
use Rattle.std.specs.Prelude.{◌≡◌, ℕ, Bool, true, false, ◌&&◌, ◌==◌, if◌then◌else◌, nat_lt, nat_le, List, [], ◌∷◌, Option, None, Some, Result, Ok, Err, slice_get, map, take}
use Rattle.std.specs.List.{list_all, position}
use Rattle.std.specs.Str.{bytes_eq}
use Rattle.std.specs.FinMap as finite
use Rattle.arrayvec.specs.ArrayString.{ArrayString}
use Rattle.csp_text.specs.Numbers.{is_decimal, number_of}
use Rattle.csp_route.specs.declared.prefix.TheConstants.{MAX_MASK}
use Rattle.csp_route.specs.declared.row.Row.{Row}
use Rattle.csp_route.specs.declared.table.TheConstants.{MAX_ROWS}
use Rattle.csp_route.specs.declared.error.RouteError.{RouteError}
use Rattle.csp_route.specs.declared.error.RouteKind.{RouteKind}
use Rattle.csp_route.specs.declared.error.RouteKind.TheVariants.{Syntax, Range, NoInterface, Full}
use Rattle.csp_route.specs.declared.text.TheConstants.{MAX_IFACES}
use Rattle.csp_route.specs.Routes.{Routes, with_row}
use Rattle.csp_route.specs.Parts.{Part, end_of, start_of, rows_of, words_of, fields_of}

infixl 10 ◌>>=◌
-- the first error ends the judgement
abbrev pub ◌>>=◌ : {A B : Type 0} → Result A RouteError → (A → Result B RouteError) → Result B RouteError
◌>>=◌ (Ok a) f = f a
◌>>=◌ (Err e) f = Err e

-- an error at a place
abbrev pub refused : {A : Type 0} → ℕ → RouteKind → Result A RouteError
refused at kind = Err (record { at = at; kind = kind })

-- what must hold, else an error at a place
abbrev pub demand : Bool → ℕ → RouteKind → Result (Unit {0}) RouteError
demand true at kind = Ok tt
demand false at kind = refused at kind

-- the numbers of `ADDR` or `ADDR/MASK`, an address and at most so many bits; a mask that is not written is 5.
-- All after the first slash is the mask, and an error of the mask stands at its first byte
abbrev pub target_from : ℕ → List Part → Result (ℕ × ℕ) RouteError
target_from at (addr ∷ []) = do
  _ ← demand (is_decimal addr.bytes) at Syntax
  _ ← demand (nat_lt (number_of addr.bytes) 32) at Range
  Ok (number_of addr.bytes, MAX_MASK)
target_from at (addr ∷ mask ∷ []) = do
  _ ← demand (is_decimal addr.bytes) at Syntax
  _ ← demand (is_decimal mask.bytes) mask.at Syntax
  _ ← demand (nat_lt (number_of addr.bytes) 32) at Range
  _ ← demand (nat_le (number_of mask.bytes) MAX_MASK) mask.at Range
  Ok (number_of addr.bytes, number_of mask.bytes)
target_from at (addr ∷ mask ∷ more ∷ fields) = do
  _ ← demand (is_decimal addr.bytes) at Syntax
  refused mask.at Syntax
target_from at [] = refused at Syntax

-- the first word, `ADDR[/MASK]`
abbrev pub target_of : ℕ → Option Part → Result (ℕ × ℕ) RouteError
target_of missing None = refused missing Syntax
target_of missing (Some word) = target_from word.at (fields_of word)

-- the bytes of names
abbrev pub names_of : List ArrayString → List (List ℕ)
names_of names = map (λ name. name.bytes) names

-- the number of the first interface that has this name, of those that a row can name
abbrev pub iface_named : List (List ℕ) → List ℕ → Option ℕ
iface_named names word = position (λ name. bytes_eq name word) (take MAX_IFACES names)

-- a value, or else an error at a place
abbrev pub or_refused : {A : Type 0} → ℕ → RouteKind → Option A → Result A RouteError
or_refused at kind None = refused at kind
or_refused at kind (Some value) = Ok value

-- the second word, `IFACE`
abbrev pub iface_of : List (List ℕ) → ℕ → Option Part → Result ℕ RouteError
iface_of names missing None = refused missing Syntax
iface_of names missing (Some word) = or_refused word.at NoInterface (iface_named names word.bytes)

-- the third word, `VIA`, where there is one
abbrev pub via_of : Option Part → Result (Option ℕ) RouteError
via_of None = Ok None
via_of (Some word) = do
  _ ← demand (is_decimal word.bytes) word.at Syntax
  _ ← demand (nat_lt (number_of word.bytes) 32) word.at Range
  Ok (Some (number_of word.bytes))

-- no fourth word
abbrev pub nothing_of : Option Part → Result (Unit {0}) RouteError
nothing_of None = Ok tt
nothing_of (Some word) = refused word.at Syntax

-- what a row says, or its first word that is in error or missing; a missing word is missed where the row ends
unfoldable pub row_of : List (List ℕ) → Part → Result Row RouteError
row_of names row = do
  target ← target_of (end_of row) (slice_get (words_of row) 0)
  iface ← iface_of names (end_of row) (slice_get (words_of row) 1)
  via ← via_of (slice_get (words_of row) 2)
  _ ← nothing_of (slice_get (words_of row) 3)
  Ok (record { addr = target.0; mask = target.1; iface = iface; via = via })

-- the table with a row that stands at a place, or Full there where that makes more rows than a table has
abbrev pub put_at : ℕ → Routes → Row → Result Routes RouteError
put_at at table row = do
  _ ← demand (nat_le (finite.len (with_row table row)) MAX_ROWS) at Full
  Ok (with_row table row)

-- the table with the row of a part
abbrev pub with_part : List (List ℕ) → Routes → Part → Result Routes RouteError
with_part names table part = row_of names part >>= λ row. put_at (start_of part) table row

-- what is made of a table by the row of a part
abbrev pub ReadsRow : List (List ℕ) → Routes → Part → Result Routes RouteError → Type 0
ReadsRow names table part after = with_part names table part ≡ after

-- the table with these rows, one after the other, or the first row's error
unfoldable pub added : List (List ℕ) → Routes → List Part → Result Routes RouteError
added names table [] = Ok table
added names table (part ∷ parts) = with_part names table part >>= λ next. added names next parts

-- the table that a text says, or its first error; a text of nothing but spaces has no row
abbrev pub parsed : List (List ℕ) → List ℕ → Result Routes RouteError
parsed names text = if list_all (λ byte. byte == 32) text then Ok finite.empty else added names finite.empty (rows_of text)
