-- Rows lead to interfaces that are there: through a look-up, a put, and a text that is read.
use Rattle.std.proofs.Common.{◌≡◌, ℕ, ◌<◌, sym, ap, ◌∙◌, subst, refl, arith, cond, List, [], ◌∷◌, length, map, take, Option, Some, None, Result, Ok, Err, Bool, true, false, nat_lt, IfOk}
use Rattle.std.specs.List.{All, position_or_len}
use Rattle.std.specs.Str.{bytes_eq}
use Rattle.std.specs.Ordering.{eq_by_cmp}
use Rattle.std.specs.declared.cmp.Ordering.TheVariants.{Less, Equal, Greater}
use Rattle.std.specs.FinMap as finite
use Rattle.std.specs.FinMap.{find, put}
use Rattle.std.specs.FinMap.Entries.{by_order}
use Rattle.std.proofs.lemmas.Bool.{ltb-true}
use Rattle.std.proofs.lemmas.List.{length-take, length-map}
use Rattle.std.proofs.lemmas.List.Elements.{All-nil, All-cons, All-head, All-tail}
use Rattle.csp_route.specs.declared.prefix.Prefix.{Prefix}
use Rattle.csp_route.specs.declared.row.Row.{Row}
use Rattle.csp_route.specs.declared.error.RouteError.{RouteError}
use Rattle.csp_route.specs.declared.text.TheConstants.{MAX_IFACES}
use Rattle.csp_route.specs.Prefix.{prefix_cmp}
use Rattle.csp_route.specs.Parts.{Part, start_of, rows_of}
use Rattle.csp_route.specs.Routes.{Hop, Routes, key_of, hop_of, with_row, with_entries, merged, IsWithin, IsBest}
use Rattle.csp_route.specs.Text.{◌>>=◌, demand, row_of, iface_named, iface_of, or_refused, put_at, with_part, added, parsed, names_of}
use Rattle.arrayvec.specs.ArrayString.{ArrayString}
use Rattle.csp_route.proofs.PrefixOrder.{prefix_total}
use Rattle.csp_route.proofs.RoundTrip.{empty_view}
use Rattle.csp_route.specs.declared.error.RouteKind.TheVariants.{NoInterface, Full}
use Rattle.csp_route.proofs.Rows.{judged}
use Rattle.csp_route.proofs.Reading.{row_judged}

-- a hop that leads to one of so many interfaces
abbrev pub Leads : ℕ → Hop → Type 0
Leads count hop = hop.iface < count

-- the hops of entries
abbrev hops : List (Prefix × Hop) → List Hop
hops entries = map (λ e. e.1) entries

found_leads : (count : ℕ) (entries : List (Prefix × Hop)) (prefix : Prefix) (hop : Hop) → All (Leads count) (hops entries) → find prefix_cmp prefix entries ≡ Some hop → Leads count hop
found_leads count [] prefix hop all e = absurd (cc)
found_leads count (x ∷ entries) prefix hop all e =
    elim (eq_by_cmp prefix_cmp prefix x.0) as (λ b. cond b (Some x.1) (find prefix_cmp prefix entries) ≡ Some hop → Leads count hop) [
      | true ↦ λ h. let same : x.1 ≡ hop = cc in subst (Leads count) same (All-head (Leads count) x.1 (hops entries) all)
      | false ↦ λ h. found_leads count entries prefix hop (All-tail (Leads count) x.1 (hops entries) all) h
    ] e

-- the best row leads to an interface that is there
pub best_leads : (count : ℕ) (table : Routes) (addr : ℕ) (row : Row) → IsWithin count table → IsBest table addr row → row.iface < count
best_leads count table addr row all best = found_leads count (finite.entries table) _ (hop_of row) all (sym (finite.get-entries table _) ∙ best.listed)

put_leads : (count : ℕ) (prefix : Prefix) (hop : Hop) (entries : List (Prefix × Hop)) → Leads count hop → All (Leads count) (hops entries) → All (Leads count) (hops (put prefix_cmp prefix hop entries))
put_leads count prefix hop [] leads all = All-cons (Leads count) hop [] leads (All-nil (Leads count))
put_leads count prefix hop (x ∷ entries) leads all =
    elim (prefix_cmp prefix x.0) as (λ o. All (Leads count) (hops (by_order o ((prefix, hop) ∷ x ∷ entries) ((x.0, hop) ∷ entries) (x ∷ put prefix_cmp prefix hop entries)))) [
      | Less ↦ All-cons (Leads count) hop (hops (x ∷ entries)) leads all
      | Equal ↦ All-cons (Leads count) hop (hops entries) leads (All-tail (Leads count) x.1 (hops entries) all)
      | Greater ↦ All-cons (Leads count) x.1 (hops (put prefix_cmp prefix hop entries)) (All-head (Leads count) x.1 (hops entries) all) (put_leads count prefix hop entries leads (All-tail (Leads count) x.1 (hops entries) all))
    ]

insert_within : (count : ℕ) (table : Routes) (prefix : Prefix) (hop : Hop) → IsWithin count table → Leads count hop → IsWithin count (finite.insert table prefix hop)
insert_within count table prefix hop all leads =
    subst (λ (es : List (Prefix × Hop)). All (Leads count) (hops es)) (sym (finite.entries-insert prefix_total table prefix hop)) (put_leads count prefix hop (finite.entries table) leads all)

-- a row that leads to an interface that is there keeps a table so
pub row_within : (count : ℕ) (table : Routes) (row : Row) → IsWithin count table → row.iface < count → IsWithin count (with_row table row)
row_within count table row all leads = insert_within count table (key_of row) (hop_of row) all leads

entries_within : (count : ℕ) (table : Routes) (entries : List (Prefix × Hop)) → IsWithin count table → All (Leads count) (hops entries) → IsWithin count (with_entries table entries)
entries_within count table [] all more = all
entries_within count table (e ∷ entries) all more =
    entries_within count (finite.insert table e.0 e.1) entries (insert_within count table e.0 e.1 all (All-head (Leads count) e.1 (hops entries) more)) (All-tail (Leads count) e.1 (hops entries) more)

pub merged_within : (count : ℕ) (table more : Routes) → IsWithin count table → IsWithin count more → IsWithin count (merged table more)
merged_within count table more all others = entries_within count table (finite.entries more) all others

-- ---- a text

-- a name's place is among the names
named_within : (names : List (List ℕ)) (word : List ℕ) (b : Bool) (i : ℕ) → nat_lt (position_or_len (λ name. bytes_eq name word) (take MAX_IFACES names)) (length (take MAX_IFACES names)) ≡ b → cond b (Some (position_or_len (λ name. bytes_eq name word) (take MAX_IFACES names))) None ≡ Some i → i < length names
named_within names word true i t e =
    let same : position_or_len (λ name. bytes_eq name word) (take MAX_IFACES names) ≡ i = cc in
    omega (arith, same, ltb-true _ _ t, length-take MAX_IFACES names)
named_within names word false i t e = absurd (cc)

named_so : (names : List (List ℕ)) (at : ℕ) (word : List ℕ) (found : Option ℕ) (i : ℕ) → iface_named names word ≡ found → or_refused at NoInterface found ≡ Ok i → i < length names
named_so names at word None i e h = absurd (cc)
named_so names at word (Some j) i e h = let same : j ≡ i = cc in subst (λ k. k < length names) same (named_within names word _ j refl e)

iface_within : (names : List (List ℕ)) (missing : ℕ) (word : Option Part) (i : ℕ) → iface_of names missing word ≡ Ok i → i < length names
iface_within names missing None i e = absurd (cc)
iface_within names missing (Some word) i e = named_so names word.at word.bytes _ i refl e

-- the interface of a row that is read
judged_within : (names : List (List ℕ)) (t : Result (ℕ × ℕ) RouteError) (i : Result ℕ RouteError) (v : Result (Option ℕ) RouteError) (n : Result (Unit {0}) RouteError) (row : Row) → ((k : ℕ) → i ≡ Ok k → k < length names) → judged t i v n ≡ Ok row → row.iface < length names
judged_within names (Err e) i v n row known h = absurd (cc)
judged_within names (Ok t) (Err e) v n row known h = absurd (cc)
judged_within names (Ok t) (Ok i) (Err e) n row known h = absurd (cc)
judged_within names (Ok t) (Ok i) (Ok v) (Err e) row known h = absurd (cc)
judged_within names (Ok t) (Ok i) (Ok v) (Ok n) row known h = let same : i ≡ row.iface = cc in subst (λ k. k < length names) same (known i refl)

pub row_of_within : (names : List (List ℕ)) (part : Part) (row : Row) → row_of names part ≡ Ok row → row.iface < length names
row_of_within names part row e = judged_within names _ _ _ _ row (λ k h. iface_within names _ _ k h) (sym (row_judged names part) ∙ e)

put_at_within : (count at : ℕ) (table next : Routes) (row : Row) (b : Bool) → IsWithin count table → row.iface < count → (demand b at Full >>= λ _. Ok (with_row table row)) ≡ Ok next → IsWithin count next
put_at_within count at table next row true all leads e = let same : with_row table row ≡ next = cc in subst (IsWithin count) same (row_within count table row all leads)
put_at_within count at table next row false all leads e = absurd (cc)

part_within : (names : List (List ℕ)) (table next : Routes) (part : Part) (read : Result Row RouteError) → IsWithin (length names) table → row_of names part ≡ read → (read >>= λ row. put_at (start_of part) table row) ≡ Ok next → IsWithin (length names) next
part_within names table next part (Err e) all is h = absurd (cc)
part_within names table next part (Ok row) all is h = put_at_within (length names) (start_of part) table next row _ all (row_of_within names part row is) h

-- one part, and then those after it
then_within : (names : List (List ℕ)) (parts : List Part) (table after : Routes) (part : Part) (read : Result Routes RouteError) → IsWithin (length names) table → with_part names table part ≡ read → ((next : Routes) → IsWithin (length names) next → added names next parts ≡ Ok after → IsWithin (length names) after) → (read >>= λ t. added names t parts) ≡ Ok after → IsWithin (length names) after
then_within names parts table after part (Err x) all is later h = absurd (cc)
then_within names parts table after part (Ok next) all is later h = later next (part_within names table next part _ all refl is) h

added_within : (names : List (List ℕ)) (parts : List Part) (table after : Routes) → IsWithin (length names) table → added names table parts ≡ Ok after → IsWithin (length names) after
unfolding added
added_within names [] table after all e = let same : table ≡ after = cc in subst (IsWithin (length names)) same all
added_within names (part ∷ parts) table after all e = then_within names parts table after part (with_part names table part) all refl (λ next within h. added_within names parts next after within h) e

no_entries : finite.entries (finite.empty {X = Hop} {R = prefix_cmp}) ≡ []
no_entries = ap finite.entries (sym empty_view) ∙ finite.entries-from_sorted prefix_cmp [] tt

pub empty_within : (count : ℕ) → IsWithin count finite.empty
empty_within count = subst (λ (es : List (Prefix × Hop)). All (Leads count) (hops es)) (sym no_entries) (All-nil (Leads count))

parsed_by : (names : List (List ℕ)) (text : List ℕ) (blank : Bool) (table : Routes) → cond blank (Ok finite.empty) (added names finite.empty (rows_of text)) ≡ Ok table → IsWithin (length names) table
parsed_by names text true table e = let same : finite.empty ≡ table = cc in subst (IsWithin (length names)) same (empty_within (length names))
parsed_by names text false table e = added_within names (rows_of text) finite.empty table (empty_within (length names)) e

-- every row that a text says leads to an interface that has a name
pub parsed_within : (names : List (List ℕ)) (text : List ℕ) (read : Result Routes RouteError) → parsed names text ≡ read → IfOk read (λ table. IsWithin (length names) table)
parsed_within names text (Ok table) e = parsed_by names text _ table e
parsed_within names text (Err x) e = tt

-- the same, told of names as they are kept
pub parsed_known : (names : List ArrayString) (text : List ℕ) (read : Result Routes RouteError) → read ≡ parsed (names_of names) text → IfOk read (λ table. IsWithin (length names) table)
parsed_known names text read e =
    subst (λ n. IfOk read (λ table. IsWithin n table)) (length-map names (λ (name : ArrayString). name.bytes)) (parsed_within (names_of names) text read (sym e))
