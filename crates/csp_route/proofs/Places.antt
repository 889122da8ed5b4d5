-- Where a row stands among rows in order, and what a write or an insert there makes of the map.
use Rattle.std.proofs.Common.{◌≡◌, ℕ, suc, ◌+◌, ◌<◌, ◌≤◌, sym, ap, ◌∙◌, subst, refl, arith, cond, List, [], ◌∷◌, length, map, slice_index_or, slice_set, Some, Result, Ok, Err}
use Rattle.std.specs.List.{insert}
use Rattle.std.specs.declared.cmp.Ordering.TheVariants.{Less, Equal, Greater}
use Rattle.std.specs.Ordering.{is_eq}
use Rattle.std.specs.FinMap.{find, put}
use Rattle.std.specs.FinMap.Entries.{by_order}
use Rattle.csp_route.specs.declared.prefix.Prefix.{Prefix}
use Rattle.csp_route.specs.declared.row.Row.{Row}
use Rattle.csp_route.specs.Prefix.{prefix_cmp}
use Rattle.csp_route.specs.Routes.{kept_key, hop_of, entry_of}
use Rattle.csp_route.specs.Kept.{place_from}
use Rattle.csp_route.proofs.PrefixOrder.{prefix_apart}

-- the row of the prefix is found: its place, and what a write there does
pub record Found (n p : ℕ) (prefix : Prefix) (rows : List Row) : Type 0 where
  pub at : ℕ
  pub place : p ≡ n + at
  pub inside : at < length rows
  pub item : (d : Row) → kept_key (slice_index_or rows at d) ≡ prefix
  pub hop : (d : Row) → find prefix_cmp prefix (map entry_of rows) ≡ Some (hop_of (slice_index_or rows at d))
  pub written : (row : Row) → kept_key row ≡ prefix → put prefix_cmp prefix (hop_of row) (map entry_of rows) ≡ map entry_of (slice_set rows at row)

-- no row of the prefix is found: the place for it, and what an insert there does
pub record Absent (n p : ℕ) (prefix : Prefix) (rows : List Row) : Type 0 where
  pub at : ℕ
  pub place : p ≡ n + at
  pub inside : at ≤ length rows
  pub inserted : (row : Row) → kept_key row ≡ prefix → put prefix_cmp prefix (hop_of row) (map entry_of rows) ≡ map entry_of (insert rows at row)

-- what a place says
pub Says : ℕ → Prefix → List Row → Result ℕ ℕ → Type 0
Says n prefix rows (Ok p) = Found n p prefix rows
Says n prefix rows (Err p) = Absent n p prefix rows

-- the row that a later place says, seen with one more row before it
found_later : (n p : ℕ) (prefix : Prefix) (x : Row) (rows : List Row) → prefix_cmp prefix (kept_key x) ≡ Greater → Found (n + 1) p prefix rows → Found n p prefix (x ∷ rows)
found_later n p prefix x rows above f = record {
  at = suc f.at;
  place = omega (arith, f.place);
  inside = omega (arith, f.inside);
  item = f.item;
  hop = λ d. ap (λ o. cond (is_eq o) (Some (hop_of x)) (find prefix_cmp prefix (map entry_of rows))) above ∙ f.hop d;
  written = λ row same. ap (λ o. by_order o ((prefix, hop_of row) ∷ entry_of x ∷ map entry_of rows) ((kept_key x, hop_of row) ∷ map entry_of rows) (entry_of x ∷ put prefix_cmp prefix (hop_of row) (map entry_of rows))) above ∙ ap (λ es. entry_of x ∷ es) (f.written row same);
}

absent_later : (n p : ℕ) (prefix : Prefix) (x : Row) (rows : List Row) → prefix_cmp prefix (kept_key x) ≡ Greater → Absent (n + 1) p prefix rows → Absent n p prefix (x ∷ rows)
absent_later n p prefix x rows above f = record {
  at = suc f.at;
  place = omega (arith, f.place);
  inside = omega (arith, f.inside);
  inserted = λ row same. ap (λ o. by_order o ((prefix, hop_of row) ∷ entry_of x ∷ map entry_of rows) ((kept_key x, hop_of row) ∷ map entry_of rows) (entry_of x ∷ put prefix_cmp prefix (hop_of row) (map entry_of rows))) above ∙ ap (λ es. entry_of x ∷ es) (f.inserted row same);
}

later : (n : ℕ) (prefix : Prefix) (x : Row) (rows : List Row) → prefix_cmp prefix (kept_key x) ≡ Greater → (r : Result ℕ ℕ) → Says (n + 1) prefix rows r → Says n prefix (x ∷ rows) r
unfolding Says
later n prefix x rows above (Ok p) h = found_later n p prefix x rows above h
later n prefix x rows above (Err p) h = absent_later n p prefix x rows above h

found_here : (n : ℕ) (prefix : Prefix) (x : Row) (rows : List Row) → prefix_cmp prefix (kept_key x) ≡ Equal → Found n n prefix (x ∷ rows)
found_here n prefix x rows ties = record {
  at = 0;
  place = omega arith;
  inside = omega arith;
  item = λ _. sym (prefix_apart prefix (kept_key x) ties);
  hop = λ d. ap (λ o. cond (is_eq o) (Some (hop_of x)) (find prefix_cmp prefix (map entry_of rows))) ties;
  written = λ row same. ap (λ o. by_order o ((prefix, hop_of row) ∷ entry_of x ∷ map entry_of rows) ((kept_key x, hop_of row) ∷ map entry_of rows) (entry_of x ∷ put prefix_cmp prefix (hop_of row) (map entry_of rows))) ties
      ∙ ap (λ k. (k, hop_of row) ∷ map entry_of rows) (sym (prefix_apart prefix (kept_key x) ties) ∙ sym same);
}

absent_here : (n : ℕ) (prefix : Prefix) (x : Row) (rows : List Row) → prefix_cmp prefix (kept_key x) ≡ Less → Absent n n prefix (x ∷ rows)
absent_here n prefix x rows below = record {
  at = 0;
  place = omega arith;
  inside = omega arith;
  inserted = λ row same. ap (λ o. by_order o ((prefix, hop_of row) ∷ entry_of x ∷ map entry_of rows) ((kept_key x, hop_of row) ∷ map entry_of rows) (entry_of x ∷ put prefix_cmp prefix (hop_of row) (map entry_of rows))) below
      ∙ ap (λ k. (k, hop_of row) ∷ entry_of x ∷ map entry_of rows) (sym same);
}

pub place_says : (n : ℕ) (prefix : Prefix) (rows : List Row) → Says n prefix rows (place_from n prefix rows)
unfolding Says
place_says n prefix [] = record { at = 0; place = omega arith; inside = omega arith; inserted = λ row same. ap (λ k. (k, hop_of row) ∷ []) (sym same) }
place_says n prefix (x ∷ rows) =
    elim (prefix_cmp prefix (kept_key x)) as (λ o. prefix_cmp prefix (kept_key x) ≡ o → Says n prefix (x ∷ rows) (by_order o (Err n) (Ok n) (place_from (n + 1) prefix rows))) [
      | Less ↦ λ e. absent_here n prefix x rows e
      | Equal ↦ λ e. found_here n prefix x rows e
      | Greater ↦ λ e. later n prefix x rows e _ (place_says (n + 1) prefix rows)
    ] refl

-- what the place at which a row is found says
pub found_at : (prefix : Prefix) (rows : List Row) (p : ℕ) → place_from 0 prefix rows ≡ Ok p → Found 0 p prefix rows
unfolding Says
found_at prefix rows p e = subst (Says 0 prefix rows) e (place_says 0 prefix rows)

pub absent_at : (prefix : Prefix) (rows : List Row) (p : ℕ) → place_from 0 prefix rows ≡ Err p → Absent 0 p prefix rows
unfolding Says
absent_at prefix rows p e = subst (Says 0 prefix rows) e (place_says 0 prefix rows)
