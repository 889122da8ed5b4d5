-- The steps by which rows are written.
use Rattle.std.proofs.Common.{◌≡◌, ℕ, zero, suc, ◌+◌, ◌<◌, sym, ap, ◌∙◌, subst, refl, arith, List, [], ◌∷◌, ◌++◌, length, map, drop, slice_index_or}
use mathlib.Core.List.{append_assoc}
use Rattle.std.specs.List.{All}
use Rattle.std.proofs.Math.Seq.{drop-cons}
use Rattle.std.proofs.lemmas.List.Elements.{All-nil, All-cons, All-head, All-tail}
use Rattle.arrayvec.specs.ArrayString.{ArrayString}
use Rattle.csp_route.specs.declared.prefix.Prefix.{Prefix}
use Rattle.csp_route.specs.declared.row.Row.{Row}
use Rattle.std.specs.FinMap as finite
use Rattle.csp_route.specs.Routes.{Hop, Routes, entry_of, IsWithin}
use Rattle.csp_route.specs.Text.{names_of}
use Rattle.csp_route.specs.Written.{name_at, row_text, joined}

-- the name that stands at an index, told of names as they are kept
pub name_here : (names : List ArrayString) (i : ℕ) (name : ArrayString) → i < length names → name ≡ slice_index_or names i name → name_at (names_of names) i ≡ name.bytes
name_here names i name low e = at names i low ∙ ap (λ (n : ArrayString). n.bytes) (sym e)
  where
    at : (ns : List ArrayString) (j : ℕ) → j < length ns → name_at (names_of ns) j ≡ (slice_index_or ns j name).bytes
    at [] j h = absurd (omega arith)
    at (n ∷ ns) zero h = refl
    at (n ∷ ns) (suc j) h = at ns j (omega arith)

-- four pieces, one after the other
pub pieces : (out target name via : List ℕ) → (((out ++ target) ++ 32 ∷ []) ++ name) ++ via ≡ out ++ (target ++ 32 ∷ (name ++ via))
pieces out target name via = simp append_assoc

-- the texts of rows
abbrev pub texts : List (List ℕ) → List Row → List (List ℕ)
texts names rows = map (row_text names) (map entry_of rows)

add_one : (n : ℕ) → suc n ≡ n + 1
add_one n = omega arith

-- what is left to write, after one more row
pub one_more : (names : List (List ℕ)) (rows : List Row) (i : ℕ) (row : Row) (gap : List ℕ) → i < length rows → row ≡ slice_index_or rows i row → joined gap (texts names (drop i rows)) ≡ gap ++ (row_text names (entry_of row) ++ joined (44 ∷ 32 ∷ []) (texts names (drop (i + 1) rows)))
one_more names rows i row gap low e =
    ap (λ rs. joined gap (texts names rs)) (drop-cons rows i row low ∙ ap (λ r. r ∷ drop (suc i) rows) (sym e) ∙ ap (λ k. row ∷ drop k rows) (add_one i))

pub row_added : (out gap text rest : List ℕ) → ((out ++ gap) ++ text) ++ rest ≡ out ++ (gap ++ (text ++ rest))
row_added out gap text rest = simp append_assoc

-- rows whose entries lead to interfaces that are there
rows_within : (count : ℕ) (rows : List Row) → All (λ (hop : Hop). hop.iface < count) (map (λ (e : Prefix × Hop). e.1) (map entry_of rows)) → All (λ (row : Row). row.iface < count) rows
rows_within count [] h = All-nil (λ (row : Row). row.iface < count)
rows_within count (row ∷ rows) h = All-cons (λ (row : Row). row.iface < count) row rows
    (All-head (λ (hop : Hop). hop.iface < count) _ _ h)
    (rows_within count rows (All-tail (λ (hop : Hop). hop.iface < count) _ _ h))

pub within : (count : ℕ) (rows : List Row) (table : Routes) → map entry_of rows ≡ finite.entries table → IsWithin count table → All (λ (row : Row). row.iface < count) rows
within count rows table e h = rows_within count rows (subst (λ (es : List (Prefix × Hop)). All (λ (hop : Hop). hop.iface < count) (map (λ (e : Prefix × Hop). e.1) es)) (sym e) h)
