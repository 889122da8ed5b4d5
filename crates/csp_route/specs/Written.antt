-- The text that a table is written as.
use Rattle.std.specs.Prelude.{ℕ, ◌<◌, List, [], ◌∷◌, ◌++◌, map, Option, None, Some, slice_get, unwrap_or, IfSome, Bool, not, ◌&&◌, ◌==◌, length, IsTrue}
use Rattle.std.specs.List.{list_all, IsDistinct}
use Rattle.std.specs.Str.{bytes_eq}
use Rattle.std.specs.Fmt.{decimal}
use Rattle.std.specs.FinMap as finite
use Rattle.csp_route.specs.declared.prefix.Prefix.{Prefix}
use Rattle.csp_route.specs.declared.row.Row.{Row}
use Rattle.csp_route.specs.Routes.{Hop, Routes}

-- the name of an interface
abbrev pub name_at : List (List ℕ) → ℕ → List ℕ
name_at names iface = unwrap_or (slice_get names iface) []

-- a next hop, after the space before it
abbrev pub via_text : Option ℕ → List ℕ
via_text None = []
via_text (Some via) = 32 ∷ decimal via

-- the word `ADDR/MASK`
abbrev pub target_text : Prefix → List ℕ
target_text prefix = decimal prefix.addr ++ 47 ∷ decimal prefix.mask

-- a row: `ADDR/MASK IFACE [VIA]`
abbrev pub row_text : List (List ℕ) → Prefix × Hop → List ℕ
row_text names entry = target_text entry.0 ++ 32 ∷ (name_at names entry.1.iface ++ via_text entry.1.via)

-- texts one after the other, the first after `gap` and each other after a comma and a space
abbrev pub joined : List ℕ → List (List ℕ) → List ℕ
joined gap [] = []
joined gap (text ∷ texts) = gap ++ (text ++ joined (44 ∷ 32 ∷ []) texts)

-- the rows of a table in the order of their prefixes, joined by `, `
abbrev pub written : List (List ℕ) → Routes → List ℕ
written names table = joined [] (map (row_text names) (finite.entries table))

-- a byte stands nowhere in a text
abbrev pub lacks : ℕ → List ℕ → Bool
lacks byte text = list_all (λ b. not (b == byte)) text

-- a name that can stand in a row: it has a byte, but no space and no comma
abbrev pub is_word : List ℕ → Bool
is_word name = not (length name == 0) && lacks 32 name && lacks 44 name

-- names that can stand in a text and tell interfaces apart
pub record TellApart (names : List (List ℕ)) : Type 0 where
  pub words : IsTrue (list_all is_word names)
  pub distinct : IsDistinct bytes_eq names

-- the numbers of a row are in the ranges of their types
pub record IsWritable (row : Row) : Type 0 where
  pub addr : row.addr < 32
  pub iface : row.iface < 256
  pub via : IfSome row.via (λ via. via < 32)
