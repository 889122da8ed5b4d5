-- The longest match: it is the best row, and where there is none, no row covers the address.
use Rattle.std.proofs.Common.{◌≡◌, ℕ, zero, suc, ◌+◌, ◌<◌, ◌≤◌, sym, ap, ◌∙◌, subst, refl, arith, cond, List, [], ◌∷◌, map, Option, Some, None, Ok, Err, slice_index_or, ⊎_elim, IfSome, IsNone, ◌↔◌}
use Rattle.std.specs.List.{All}
use Rattle.std.proofs.lemmas.Bool.{cases_lt}
use Rattle.std.specs.Ordering.{is_eq}
use Rattle.std.specs.declared.cmp.Ordering.TheVariants.{Less, Equal, Greater}
use Rattle.std.specs.FinMap as finite
use Rattle.std.specs.FinMap.{find}
use Rattle.std.proofs.lemmas.List.Elements.{All-head, All-tail}
use Rattle.csp_route.specs.declared.prefix.Prefix.{Prefix}
use Rattle.csp_route.specs.declared.row.Row.{Row}
use Rattle.csp_route.specs.declared.prefix.TheConstants.{MAX_MASK}
use Rattle.csp_route.specs.Prefix.{prefix_of, prefix_cmp, Covers}
use Rattle.csp_route.specs.Routes.{Hop, Routes, kept_key, hop_of, entry_of, row_or, row_from, longest_below, route_of, IsBest, NoneCovers}
use Rattle.csp_route.specs.Kept.{IsKept, AreKept, place_from}
use Rattle.csp_route.proofs.PrefixOrder.{prefix_apart}
use Rattle.csp_route.proofs.Views.{view, get-view, row_at_place, none_at_place}

-- every prefix of a table has at most the bits of an address
short_in : (rows : List Row) (prefix : Prefix) (hop : Hop) → All IsKept rows → find prefix_cmp prefix (map entry_of rows) ≡ Some hop → prefix.mask ≤ MAX_MASK
short_in [] prefix hop all e = absurd (cc)
short_in (x ∷ rows) prefix hop all e =
    elim (prefix_cmp prefix (kept_key x)) as (λ o. prefix_cmp prefix (kept_key x) ≡ o → cond (is_eq o) (Some (hop_of x)) (find prefix_cmp prefix (map entry_of rows)) ≡ Some hop → prefix.mask ≤ MAX_MASK) [
      | Less ↦ λ _ h. short_in rows prefix hop (All-tail IsKept x rows all) h
      | Equal ↦ λ ties _. subst (λ (k : Prefix). k.mask ≤ MAX_MASK) (sym (prefix_apart prefix (kept_key x) ties)) (All-head IsKept x rows all).short
      | Greater ↦ λ _ h. short_in rows prefix hop (All-tail IsKept x rows all) h
    ] refl e

pub short_view : (rows : List Row) (prefix : Prefix) (hop : Hop) → AreKept rows → finite.get (view rows) prefix ≡ Some hop → prefix.mask ≤ MAX_MASK
short_view rows prefix hop kept e = short_in rows prefix hop kept.each (sym (get-view rows kept prefix) ∙ e)

-- what is found below so many bits
pub record Longest (bits : ℕ) (table : Routes) (addr : ℕ) (row : Row) : Type 0 where
  pub listed : finite.get table (kept_key row) ≡ Some (hop_of row)
  pub covers : kept_key row ≡ prefix_of addr row.mask
  pub past : (mask : ℕ) → row.mask < mask → mask < bits → finite.get table (prefix_of addr mask) ≡ None

Finds : ℕ → Routes → ℕ → Option Row → Type 0
Finds bits table addr None = (mask : ℕ) → mask < bits → finite.get table (prefix_of addr mask) ≡ None
Finds bits table addr (Some row) = Longest bits table addr row

finds_more : (bits : ℕ) (table : Routes) (addr : ℕ) (found : Option Row) → finite.get table (prefix_of addr bits) ≡ None → Finds bits table addr found → Finds (suc bits) table addr found
unfolding Finds
finds_more bits table addr None e h = λ mask low. ⊎_elim (λ below. h mask below) (λ above. ap (λ m. finite.get table (prefix_of addr m)) (omega arith) ∙ e) (cases_lt mask bits)
finds_more bits table addr (Some row) e h = record {
  listed = h.listed;
  covers = h.covers;
  past = λ mask longer low. ⊎_elim (λ below. h.past mask longer below) (λ above. ap (λ m. finite.get table (prefix_of addr m)) (omega arith) ∙ e) (cases_lt mask bits);
}

longest_finds : (bits : ℕ) (table : Routes) (addr : ℕ) → Finds bits table addr (longest_below bits table addr)
unfolding Finds longest_below
longest_finds zero table addr = λ mask low. absurd (omega arith)
longest_finds (suc bits) table addr =
    elim (finite.get table (prefix_of addr bits)) as (λ o. finite.get table (prefix_of addr bits) ≡ o → Finds (suc bits) table addr (row_or (prefix_of addr bits) o (longest_below bits table addr))) [
      | None ↦ λ e. finds_more bits table addr _ e (longest_finds bits table addr)
      | Some hop ↦ λ e. record { listed = e; covers = refl; past = λ mask longer low. absurd (omega arith) }
    ] refl

-- a prefix that covers an address is the one of its length
covering : (prefix : Prefix) (addr : ℕ) → Covers prefix addr → prefix_of addr prefix.mask ≡ prefix
covering prefix addr e = λ i. record { addr = e i; mask = prefix.mask }

best_of : (rows : List Row) (addr : ℕ) (row : Row) → AreKept rows → Longest (MAX_MASK + 1) (view rows) addr row → IsBest (view rows) addr row
best_of rows addr row kept f = record {
  listed = f.listed;
  covers = sym (ap (λ (k : Prefix). k.addr) f.covers);
  longest = λ other hop is covers. ⊎_elim
      (λ longer. absurd (let short : other.mask ≤ MAX_MASK = short_view rows other hop kept is in let none = f.past other.mask longer (omega arith) in let same = covering other addr covers in cc))
      (λ within. within)
      (cases_lt row.mask other.mask);
}

best_if : (rows : List Row) (addr : ℕ) (found : Option Row) → AreKept rows → Finds (MAX_MASK + 1) (view rows) addr found → IfSome found (λ row. IsBest (view rows) addr row)
unfolding Finds
best_if rows addr None kept f = tt
best_if rows addr (Some row) kept f = best_of rows addr row kept f

pub route_best : (rows : List Row) (addr : ℕ) → AreKept rows → IfSome (route_of (view rows) addr) (λ row. IsBest (view rows) addr row)
route_best rows addr kept = best_if rows addr _ kept (longest_finds (MAX_MASK + 1) (view rows) addr)

none_if : (rows : List Row) (addr : ℕ) (found : Option Row) → AreKept rows → Finds (MAX_MASK + 1) (view rows) addr found → IsNone found ↔ NoneCovers (view rows) addr
unfolding Finds
none_if rows addr None kept f = (λ _ prefix covers. missing (finite.get (view rows) prefix) prefix refl covers, λ _. refl)
  where
    missing : (o : Option Hop) (prefix : Prefix) → finite.get (view rows) prefix ≡ o → Covers prefix addr → o ≡ None
    missing None prefix is covers = refl
    missing (Some hop) prefix is covers = absurd (let short : prefix.mask ≤ MAX_MASK = short_view rows prefix hop kept is in let none = f prefix.mask (omega arith) in let same = covering prefix addr covers in cc)
none_if rows addr (Some row) kept f = (λ e. absurd (cc), λ none. absurd (let is = none (kept_key row) (sym (ap (λ (k : Prefix). k.addr) f.covers)) in let listed = f.listed in cc))

pub route_none : (rows : List Row) (addr : ℕ) → AreKept rows → IsNone (route_of (view rows) addr) ↔ NoneCovers (view rows) addr
route_none rows addr kept = none_if rows addr _ kept (longest_finds (MAX_MASK + 1) (view rows) addr)

-- one step of the search, from the longer prefixes to the shorter
step_none : (bits : ℕ) (table : Routes) (addr : ℕ) → finite.get table (prefix_of addr bits) ≡ None → longest_below (suc bits) table addr ≡ longest_below bits table addr
unfolding longest_below
step_none bits table addr e = ap (λ o. row_or (prefix_of addr bits) o (longest_below bits table addr)) e

step_some : (bits : ℕ) (table : Routes) (addr : ℕ) (hop : Hop) → finite.get table (prefix_of addr bits) ≡ Some hop → longest_below (suc bits) table addr ≡ Some (row_from (prefix_of addr bits) hop)
unfolding longest_below
step_some bits table addr hop e = ap (λ o. row_or (prefix_of addr bits) o (longest_below bits table addr)) e

add_one : (n : ℕ) → n + 1 ≡ suc n
add_one n = omega arith

-- the same, told from the place at which the prefix is found, or would stand
pub found_step : (rows : List Row) (table : Routes) (mask addr p : ℕ) (row : Row) → AreKept rows → view rows ≡ table → place_from 0 (prefix_of addr mask) rows ≡ Ok p → row ≡ slice_index_or rows p row → longest_below (mask + 1) table addr ≡ Some row
found_step rows table mask addr p row kept shows e is =
    let at = row_at_place rows (prefix_of addr mask) p row kept e is in
    ap (λ n. longest_below n table addr) (add_one mask)
    ∙ step_some mask table addr (hop_of row) (ap (λ t. finite.get t (prefix_of addr mask)) (sym shows) ∙ at.0)
    ∙ ap (λ k. Some (row_from k (hop_of row))) (sym at.1)

pub absent_step : (rows : List Row) (table : Routes) (mask addr p : ℕ) → AreKept rows → view rows ≡ table → place_from 0 (prefix_of addr mask) rows ≡ Err p → longest_below (mask + 1) table addr ≡ longest_below mask table addr
absent_step rows table mask addr p kept shows e =
    ap (λ n. longest_below n table addr) (add_one mask)
    ∙ step_none mask table addr (ap (λ t. finite.get t (prefix_of addr mask)) (sym shows) ∙ none_at_place rows (prefix_of addr mask) p kept e)

-- what the answer says of the table, whatever it is
pub answer_best : (rows : List Row) (table : Routes) (addr : ℕ) (found : Option Row) → AreKept rows → view rows ≡ table → route_of table addr ≡ found → IfSome found (λ row. IsBest table addr row)
answer_best rows table addr found kept shows e =
    subst (λ (o : Option Row). IfSome o (λ row. IsBest table addr row)) e (subst (λ (t : Routes). IfSome (route_of t addr) (λ row. IsBest t addr row)) shows (route_best rows addr kept))

pub answer_none : (rows : List Row) (table : Routes) (addr : ℕ) (found : Option Row) → AreKept rows → view rows ≡ table → route_of table addr ≡ found → IsNone found ↔ NoneCovers table addr
answer_none rows table addr found kept shows e =
    subst (λ (o : Option Row). IsNone o ↔ NoneCovers table addr) e (subst (λ (t : Routes). IsNone (route_of t addr) ↔ NoneCovers t addr) shows (route_none rows addr kept))

-- once the prefix of no bits is tried, nothing is left
pub last_step : (rows : List Row) (table : Routes) (mask addr p : ℕ) → AreKept rows → view rows ≡ table → mask ≡ 0 → place_from 0 (prefix_of addr mask) rows ≡ Err p → longest_below (mask + 1) table addr ≡ route_of table addr → route_of table addr ≡ None
unfolding longest_below
last_step rows table mask addr p kept shows last e is =
    sym is ∙ absent_step rows table mask addr p kept shows e ∙ ap (λ n. longest_below n table addr) last
