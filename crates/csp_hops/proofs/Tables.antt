-- A table that leads by addresses: what it finds, what a row that is put into it leaves, and what its rows say.
use Rattle.std.proofs.Common.{◌≡◌, ℕ, zero, suc, ◌+◌, ◌<◌, Bool, true, false, cond, Option, None, Some, Ordering, List, [], ◌∷◌, map, unwrap_or, refl, sym, ap, ◌∙◌, subst}
use Rattle.std.specs.Prelude.{IfSome}
use Rattle.std.specs.FinMap as finite
use Rattle.std.specs.FinMap.{find, put}
use Rattle.std.specs.FinMap.Entries.{by_order}
use Rattle.std.proofs.lemmas.List.Elements.{recursion_from_All}
use Rattle.std.specs.List.{All, AllByRecursion}
use Rattle.std.specs.Ordering.{eq_by_cmp}
use Rattle.std.specs.declared.cmp.Ordering.TheVariants.{Less, Equal, Greater}
use Rattle.csp_hops.specs.Hops.{LeadsByAddresses, NamesAddress}
use Rattle.csp_route.proofs.Public.{prefix_total}
use Rattle.csp_route.specs.Prefix.{prefix_cmp, prefix_of}
use Rattle.csp_route.specs.Routes.{Hop, Routes, entry_of, hop_of, key_of, longest_below, route_of, row_or, with_row}
use Rattle.csp_route.specs.declared.prefix.Prefix.{Prefix}
use Rattle.csp_route.specs.declared.prefix.TheConstants.{MAX_MASK}
use Rattle.csp_route.specs.declared.row.Row.{Row}
use Rattle.csp_stack.specs.Comes.{IsHop}
use Rattle.csp_stack.specs.Readings.{mark_of}

-- the hops of entries name addresses
abbrev NameAddresses : List (Prefix × Hop) → Type 0
NameAddresses entries = AllByRecursion NamesAddress (map (λ e. e.1) entries)

found_names : (entries : List (Prefix × Hop)) (prefix : Prefix) (hop : Hop) → NameAddresses entries → find prefix_cmp prefix entries ≡ Some hop → NamesAddress hop
found_names [] prefix hop all e = absurd cc
found_names (x ∷ entries) prefix hop all e =
    by (eq_by_cmp prefix_cmp prefix x.0) e (found_names entries prefix hop all.1)
  where
    by : (b : Bool) → cond b (Some x.1) (find prefix_cmp prefix entries) ≡ Some hop → (find prefix_cmp prefix entries ≡ Some hop → NamesAddress hop) → NamesAddress hop
    by true is rest = subst NamesAddress (ap (λ o. unwrap_or o x.1) is) all.0
    by false is rest = rest is

put_names : (prefix : Prefix) (hop : Hop) (entries : List (Prefix × Hop)) → NamesAddress hop → NameAddresses entries → NameAddresses (put prefix_cmp prefix hop entries)
put_names prefix hop [] is all = (is, tt)
put_names prefix hop (x ∷ entries) is all =
    by (prefix_cmp prefix x.0) (put_names prefix hop entries is all.1)
  where
    by : (o : Ordering) → NameAddresses (put prefix_cmp prefix hop entries)
        → NameAddresses (by_order o ((prefix, hop) ∷ x ∷ entries) ((x.0, hop) ∷ entries) (x ∷ put prefix_cmp prefix hop entries))
    by Less rest = (is, all)
    by Equal rest = (is, all.1)
    by Greater rest = (all.0, rest)

pub row_leads : (table : Routes) (row : Row) → NamesAddress (hop_of row) → LeadsByAddresses table → LeadsByAddresses (with_row table row)
row_leads table row is all =
    subst NameAddresses (sym (finite.entries-insert prefix_total table (key_of row) (hop_of row))) (put_names (key_of row) (hop_of row) (finite.entries table) is all)

-- the mark for such a hop
hop_marks : (via : Option ℕ) → IfSome via (λ via. via < 32) → IsHop (mark_of via)
hop_marks None is marked = absurd (marked refl)
hop_marks (Some via) is marked = is

-- the mark by a row
abbrev pub Marks : Row → Type 0
Marks row = IsHop (mark_of row.via)

below_marks : (bits : ℕ) (table : Routes) (addr : ℕ) → LeadsByAddresses table → IfSome (longest_below bits table addr) Marks
unfolding longest_below
below_marks zero table addr all = tt
below_marks (suc bits) table addr all =
    by (finite.get table (prefix_of addr bits)) refl (below_marks bits table addr all)
  where
    by : (o : Option Hop) → finite.get table (prefix_of addr bits) ≡ o → IfSome (longest_below bits table addr) Marks → IfSome (row_or (prefix_of addr bits) o (longest_below bits table addr)) Marks
    by None e rest = rest
    by (Some hop) e rest = hop_marks hop.via (found_names (finite.entries table) (prefix_of addr bits) hop all (sym (finite.get-entries table (prefix_of addr bits)) ∙ e))

-- a packet goes out by the row of its route with such a mark
pub route_marks : (table : Routes) (addr : ℕ) → LeadsByAddresses table → IfSome (route_of table addr) Marks
route_marks table addr all = below_marks (MAX_MASK + 1) table addr all

rows_name : (rows : List Row) → AllByRecursion (λ row. NamesAddress (hop_of row)) rows → NameAddresses (map entry_of rows)
rows_name [] all = tt
rows_name (row ∷ rows) all = (all.0, rows_name rows all.1)

pub rows_lead : (rows : List Row) (table : Routes) → map entry_of rows ≡ finite.entries table → All (λ row. NamesAddress (hop_of row)) rows → LeadsByAddresses table
rows_lead rows table same all = subst NameAddresses same (rows_name rows (recursion_from_All (λ (row : Row). NamesAddress (hop_of row)) rows all))
