-- Rows of one table put into another.
use Rattle.std.proofs.Common.{◌≡◌, ℕ, suc, length, drop, slice_index_or, ◌+◌, ◌<◌, ◌≤◌, sym, ap, ◌∙◌, subst, arith, cond, List, [], ◌∷◌, map, is_some, Bool, true, false}
use Rattle.std.specs.FinMap as finite
use Rattle.csp_route.specs.declared.prefix.Prefix.{Prefix}
use Rattle.csp_route.specs.declared.row.Row.{Row}
use Rattle.csp_route.specs.declared.table.TheConstants.{MAX_ROWS}
use Rattle.csp_route.specs.Routes.{Hop, Routes, with_row, with_entries, key_of, hop_of, entry_of, kept_key, HasNoRoom}
use Rattle.std.proofs.Math.Seq.{drop-cons}
use Rattle.std.proofs.lemmas.List.{drop_all}
use Rattle.std.proofs.lemmas.List.Elements.{All-get_or}
use Rattle.csp_route.specs.Kept.{IsKept, AreKept}
use Rattle.csp_route.proofs.PrefixOrder.{prefix_total}

add_one : (n : ℕ) → suc n ≡ n + 1
add_one n = omega arith

-- a row that is kept is put under its own prefix
pub kept_with : (table : Routes) (row : Row) → IsKept row → with_row table row ≡ finite.insert table (kept_key row) (hop_of row)
kept_with table row kept = ap (λ a. finite.insert table (record { addr = a; mask = row.mask }) (hop_of row)) kept.masked

-- a table only grows
grown : (b : Bool) (n : ℕ) → n ≤ cond b n (n + 1)
grown true n = omega arith
grown false n = omega arith

pub grows : (entries : List (Prefix × Hop)) (table : Routes) → finite.len table ≤ finite.len (with_entries table entries)
grows [] table = omega arith
grows (e ∷ es) table =
    let one : finite.len table ≤ finite.len (finite.insert table e.0 e.1) = subst (λ n. finite.len table ≤ n) (sym (finite.len-insert prefix_total table e.0 e.1)) (grown (finite.contains_key table e.0) (finite.len table)) in
    omega (arith, one, grows es (finite.insert table e.0 e.1))

-- a row that is refused would make more rows than a table has
pub over : (entries : List (Prefix × Hop)) (table : Routes) (row : Row) → IsKept row → HasNoRoom table (key_of row) → MAX_ROWS < finite.len (with_entries table (entry_of row ∷ entries))
over entries table row kept none =
    let more : finite.len (finite.insert table (key_of row) (hop_of row)) ≡ finite.len table + 1 = finite.len-insert prefix_total table (key_of row) (hop_of row) ∙ ap (λ o. cond (is_some o) (finite.len table) (finite.len table + 1)) none.1 in
    let same : finite.insert table (key_of row) (hop_of row) ≡ finite.insert table (kept_key row) (hop_of row) = kept_with table row kept in
    omega (arith, more, ap finite.len same, none.0, grows entries (finite.insert table (kept_key row) (hop_of row)))

next_row : (rows : List Row) (i : ℕ) (row : Row) → i < length rows → row ≡ slice_index_or rows i row → drop i rows ≡ row ∷ drop (i + 1) rows
next_row rows i row low e = drop-cons rows i row low ∙ ap (λ r. r ∷ drop (suc i) rows) (sym e) ∙ ap (λ k. row ∷ drop k rows) (add_one i)

kept_at : (rows : List Row) (i : ℕ) (row : Row) → AreKept rows → i < length rows → row ≡ slice_index_or rows i row → IsKept row
kept_at rows i row kept low e = subst IsKept (sym e) (All-get_or IsKept rows i row low kept.each)

-- what is left to put, after one more row
pub merge_step : (rows : List Row) (i : ℕ) (row : Row) (both after total : Routes) → AreKept rows → i < length rows → row ≡ slice_index_or rows i row → after ≡ with_row both row → with_entries both (map entry_of (drop i rows)) ≡ total → with_entries after (map entry_of (drop (i + 1) rows)) ≡ total
merge_step rows i row both after total kept low e is left =
    ap (λ t. with_entries t (map entry_of (drop (i + 1) rows))) (is ∙ kept_with both row (kept_at rows i row kept low e))
    ∙ ap (λ rs. with_entries both (map entry_of rs)) (sym (next_row rows i row low e))
    ∙ left

pub merge_over : (rows : List Row) (i : ℕ) (row : Row) (both total : Routes) → AreKept rows → i < length rows → row ≡ slice_index_or rows i row → HasNoRoom both (key_of row) → with_entries both (map entry_of (drop i rows)) ≡ total → MAX_ROWS < finite.len total
merge_over rows i row both total kept low e none left =
    subst (λ (t : Routes). MAX_ROWS < finite.len t) (ap (λ rs. with_entries both (map entry_of rs)) (sym (next_row rows i row low e)) ∙ left)
    (over (map entry_of (drop (i + 1) rows)) both row (kept_at rows i row kept low e) none)

pub merge_end : (rows : List Row) (i : ℕ) (both total : Routes) → length rows ≤ i → with_entries both (map entry_of (drop i rows)) ≡ total → both ≡ total
merge_end rows i both total past left = ap (λ rs. with_entries both (map entry_of rs)) (sym (drop_all i rows past)) ∙ left
