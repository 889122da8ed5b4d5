-- What the map of a table is after a row is written or inserted.
use Rattle.std.proofs.Common.{◌≡◌, ℕ, ◌+◌, ◌-◌, ◌*◌, ◌/◌, ◌%◌, ◌^◌, ◌<◌, ◌≤◌, sym, ap, ◌∙◌, subst, refl, arith, cond, List, ◌∷◌, ◌++◌, length, map, take, drop, slice_index_or, slice_set, Option, Some, None, Ok, Err, Bool, true, false, is_some, IsTrue, T}
use Rattle.std.specs.List.{insert, refill, All}
use Rattle.std.specs.FinMap as finite
use Rattle.std.specs.FinMap.{find, put, is_sorted}
use Rattle.std.specs.FinMap.Entries.{is_sorted-put, length-put}
use Rattle.std.proofs.Math.Seq.{take-append_seam}
use Rattle.std.proofs.Math.Nat.{mul-mod_right}
use Rattle.std.proofs.lemmas.Nat.{pow_pos}
use Rattle.std.proofs.lemmas.List.{length-map, length-set}
use Rattle.std.proofs.lemmas.List.Edits.{length-insert}
use Rattle.std.proofs.lemmas.List.Elements.{All-set, All-take, All-drop, All-append, All-cons}
use Rattle.csp_route.specs.declared.prefix.Prefix.{Prefix}
use Rattle.csp_route.specs.declared.row.Row.{Row}
use Rattle.csp_route.specs.declared.prefix.TheConstants.{MAX_MASK}
use Rattle.csp_route.specs.declared.table.TheConstants.{MAX_ROWS}
use Rattle.csp_route.specs.Prefix.{masked, prefix_cmp}
use Rattle.csp_route.specs.Routes.{Hop, Routes, kept_key, key_of, hop_of, entry_of, with_row, row_from, HasNoRoom}
use Rattle.csp_route.specs.Kept.{IsKept, AreKept, place_from}
use Rattle.csp_route.proofs.PrefixOrder.{prefix_total}
use Rattle.csp_route.proofs.Places.{Found, Absent, found_at, absent_at}

-- a test that is true, in the two forms in which facts state it
passes : (b : Bool) → IsTrue b → T b
passes b e = subst T (sym e) tt

is_true : (b : Bool) → T b → IsTrue b
is_true true h = refl
is_true false h = absurd h

-- the map of a list of rows
abbrev pub view : List Row → Routes
view rows = finite.from_sorted (map entry_of rows)

pub get-view : (rows : List Row) → AreKept rows → (prefix : Prefix) → finite.get (view rows) prefix ≡ find prefix_cmp prefix (map entry_of rows)
get-view rows kept prefix = finite.get-from_sorted prefix_cmp (map entry_of rows) prefix (passes _ kept.in_order)

pub len-view : (rows : List Row) → AreKept rows → finite.len (view rows) ≡ length rows
len-view rows kept = finite.len-entries _ ∙ ap length (finite.entries-from_sorted prefix_cmp (map entry_of rows) (passes _ kept.in_order)) ∙ length-map rows entry_of

-- rows whose entries are those after a put
pub put_in_order : (rows after : List Row) (prefix : Prefix) (hop : Hop) → AreKept rows → put prefix_cmp prefix hop (map entry_of rows) ≡ map entry_of after → IsTrue (is_sorted prefix_cmp (map entry_of after))
put_in_order rows after prefix hop kept e = is_true _ (subst (λ (es : List (Prefix × Hop)). T (is_sorted prefix_cmp es)) e (is_sorted-put prefix_cmp prefix_total prefix hop (map entry_of rows) (passes _ kept.in_order)))

pub view_after_put : (rows after : List Row) (prefix : Prefix) (hop : Hop) → AreKept rows → put prefix_cmp prefix hop (map entry_of rows) ≡ map entry_of after → view after ≡ finite.insert (view rows) prefix hop
view_after_put rows after prefix hop kept e =
    finite.same_entries_map _ _ (
    finite.entries-from_sorted prefix_cmp (map entry_of after) (passes _ (put_in_order rows after prefix hop kept e))
    ∙ sym e
    ∙ ap (put prefix_cmp prefix hop) (sym (finite.entries-from_sorted prefix_cmp (map entry_of rows) (passes _ kept.in_order)))
    ∙ sym (finite.entries-insert prefix_total (view rows) prefix hop))

-- a map that grew by a put had no such prefix
not_longer : (found : Option Hop) (n : ℕ) → n + 1 ≡ cond (is_some found) n (n + 1) → found ≡ None
not_longer None n e = refl
not_longer (Some hop) n e = absurd (omega arith)

-- a prefix that is absent is not in the map
pub absent_get : (n p : ℕ) (prefix : Prefix) (rows : List Row) → AreKept rows → Absent n p prefix rows → finite.get (view rows) prefix ≡ None
absent_get n p prefix rows kept f =
    let row : Row = row_from prefix (record { iface = 0; via = None }) in
    get-view rows kept prefix
    ∙ not_longer _ (length (map entry_of rows)) (
    ap (λ k. k + 1) (length-map rows entry_of)
    ∙ sym (length-insert rows f.at row f.inside)
    ∙ sym (length-map (insert rows f.at row) entry_of)
    ∙ ap length (sym (f.inserted row refl))
    ∙ length-put prefix_cmp prefix_total prefix (hop_of row) (map entry_of rows) (passes _ kept.in_order))

-- a prefix that is found is in the map
pub found_get : (n p : ℕ) (prefix : Prefix) (rows : List Row) → AreKept rows → (f : Found n p prefix rows) → (d : Row) → finite.get (view rows) prefix ≡ Some (hop_of (slice_index_or rows f.at d))
found_get n p prefix rows kept f d = get-view rows kept prefix ∙ f.hop d

pub refill_whole : {X : Type 0} (xs ws : List X) → length ws ≡ length xs → refill (length xs) xs ws ≡ ws
refill_whole xs ws e = ap (λ n. take n (ws ++ drop (length ws) xs)) (sym e) ∙ take-append_seam ws _

-- an address that is masked stays as it is
cleared : (a d : ℕ) → 0 < d → (a - a % d) % d ≡ 0
cleared a d pos = let e : a - a % d ≡ d * (a / d) = omega arith in rw e (mul-mod_right d (a / d))

pub masked_twice : (addr mask : ℕ) → mask ≤ MAX_MASK → masked (masked addr mask) mask ≡ masked addr mask
masked_twice addr mask low =
    let none : masked addr mask % 2 ^ (MAX_MASK - mask) ≡ 0 = cleared addr (2 ^ (MAX_MASK - mask)) (pow_pos (MAX_MASK - mask)) in
    omega (arith, none)

pub kept_insert : (rows : List Row) (i : ℕ) (row : Row) → All IsKept rows → IsKept row → All IsKept (insert rows i row)
kept_insert rows i row all one = All-append IsKept (take i rows) (row ∷ drop i rows) (All-take IsKept i rows all) (All-cons IsKept row (drop i rows) one (All-drop IsKept i rows all))

-- the row at the place of a prefix is the one of the map
pub row_at_place : (rows : List Row) (prefix : Prefix) (p : ℕ) (row : Row) → AreKept rows → place_from 0 prefix rows ≡ Ok p → row ≡ slice_index_or rows p row → (finite.get (view rows) prefix ≡ Some (hop_of row)) × (kept_key row ≡ prefix)
row_at_place rows prefix p row kept e is =
    let f = found_at prefix rows p e in
    let here : slice_index_or rows f.at row ≡ row = ap (λ k. slice_index_or rows k row) (omega (arith, f.place)) ∙ sym is in
    (found_get 0 p prefix rows kept f row ∙ ap (λ x. Some (hop_of x)) here, ap kept_key (sym here) ∙ f.item row)

pub none_at_place : (rows : List Row) (prefix : Prefix) (p : ℕ) → AreKept rows → place_from 0 prefix rows ≡ Err p → finite.get (view rows) prefix ≡ None
none_at_place rows prefix p kept e = absent_get 0 p prefix rows kept (absent_at prefix rows p e)

-- a row as `set` keeps it
kept_row : (row kept : Row) → row.mask ≤ MAX_MASK → kept_key kept ≡ key_of row → IsKept kept
kept_row row kept low key = record {
  short = subst (λ (k : Prefix). k.mask ≤ MAX_MASK) (sym key) low;
  masked = subst (λ (k : Prefix). masked k.addr k.mask ≡ k.addr) (sym key) (masked_twice row.addr row.mask low);
}

-- what a write in place of a row of the same prefix makes
pub record SetsRow (rows after : List Row) (row : Row) : Type 0 where
  pub stays : AreKept after
  pub shows : view after ≡ with_row (view rows) row

set_put : (rows after : List Row) (row kept : Row) → AreKept rows → kept_key kept ≡ key_of row → hop_of kept ≡ hop_of row → All IsKept after → put prefix_cmp (key_of row) (hop_of kept) (map entry_of rows) ≡ map entry_of after → SetsRow rows after row
set_put rows after row kept are key hop all e =
    let is : put prefix_cmp (key_of row) (hop_of row) (map entry_of rows) ≡ map entry_of after = ap (λ h. put prefix_cmp (key_of row) h (map entry_of rows)) (sym hop) ∙ e in
    record { stays = record { in_order = put_in_order rows after (key_of row) (hop_of row) are is; each = all }; shows = view_after_put rows after (key_of row) (hop_of row) are is }

pub set_found : (rows after : List Row) (row kept : Row) (p : ℕ) → AreKept rows → row.mask ≤ MAX_MASK → kept_key kept ≡ key_of row → hop_of kept ≡ hop_of row → place_from 0 (key_of row) rows ≡ Ok p → after ≡ slice_set rows p kept → SetsRow rows after row
set_found rows after row kept p are low key hop e is =
    let f = found_at (key_of row) rows p e in
    let same : slice_set rows p kept ≡ after = sym is in
    let place : f.at ≡ p = omega (arith, f.place) in
    set_put rows after row kept are key hop
    (subst (All IsKept) same (All-set IsKept rows p kept (kept_row row kept low key) are.each))
    (f.written kept key ∙ ap (λ k. map entry_of (slice_set rows k kept)) place ∙ ap (map entry_of) same)

pub set_absent : (rows after : List Row) (row kept : Row) (p : ℕ) → AreKept rows → row.mask ≤ MAX_MASK → kept_key kept ≡ key_of row → hop_of kept ≡ hop_of row → place_from 0 (key_of row) rows ≡ Err p → after ≡ insert rows p kept → SetsRow rows after row
set_absent rows after row kept p are low key hop e is =
    let f = absent_at (key_of row) rows p e in
    let same : insert rows p kept ≡ after = sym is in
    let place : f.at ≡ p = omega (arith, f.place) in
    set_put rows after row kept are key hop
    (subst (All IsKept) same (kept_insert rows p kept are.each (kept_row row kept low key)))
    (f.inserted kept key ∙ ap (λ k. map entry_of (insert rows k kept)) place ∙ ap (map entry_of) same)

-- a row written in place, as a write through the slice leaves it
pub written_whole : (xs ys : List Row) (i : ℕ) (row : Row) → ys ≡ xs → refill (length xs) xs (slice_set ys i row) ≡ slice_set xs i row
written_whole xs ys i row e = refill_whole xs _ (length-set ys i row ∙ ap length e) ∙ ap (λ l. slice_set l i row) e

-- a table that cannot take a row, and one that can
pub no_room : (rows : List Row) (table : Routes) (prefix : Prefix) (p : ℕ) → AreKept rows → view rows ≡ table → place_from 0 prefix rows ≡ Err p → length rows ≡ MAX_ROWS → HasNoRoom table prefix
no_room rows table prefix p kept shows e full =
    subst (λ (t : Routes). HasNoRoom t prefix) shows (len-view rows kept ∙ full, none_at_place rows prefix p kept e)

pub room_at : (rows : List Row) (table : Routes) (prefix : Prefix) (p : ℕ) → AreKept rows → view rows ≡ table → place_from 0 prefix rows ≡ Ok p → HasNoRoom table prefix → ⊥
room_at rows table prefix p kept shows e none =
    let f = found_at prefix rows p e in
    let d : Row = row_from prefix (record { iface = 0; via = None }) in
    let there = found_get 0 p prefix rows kept f d in
    let gone : finite.get (view rows) prefix ≡ None = ap (λ t. finite.get t prefix) shows ∙ none.1 in
    cc

pub room_beyond : (rows : List Row) (table : Routes) (prefix : Prefix) → AreKept rows → view rows ≡ table → ¬ (length rows ≡ MAX_ROWS) → HasNoRoom table prefix → ⊥
room_beyond rows table prefix kept shows not_full none = not_full (sym (len-view rows kept) ∙ ap finite.len shows ∙ none.0)

-- how many rows the map has
pub most_view : (rows : List Row) (table : Routes) → AreKept rows → view rows ≡ table → length rows ≤ MAX_ROWS → finite.len table ≤ MAX_ROWS
most_view rows table kept shows most = subst (λ (t : Routes). finite.len t ≤ MAX_ROWS) shows (omega (arith, len-view rows kept, most))

-- the entries of the map are those of the rows
pub entries-view : (rows : List Row) → AreKept rows → finite.entries (view rows) ≡ map entry_of rows
entries-view rows kept = finite.entries-from_sorted prefix_cmp (map entry_of rows) (passes _ kept.in_order)
