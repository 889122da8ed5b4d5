-- What is written of a table is read as that table.
use Rattle.std.proofs.Common.{◌≡◌, ℕ, zero, suc, ◌+◌, ◌<◌, ◌≤◌, sym, ap, ◌∙◌, subst, refl, arith, List, [], ◌∷◌, ◌++◌, length, map, Bool, true, false, not, ◌&&◌, ◌==◌, Ok, IsTrue, T}
use mathlib.Core.List.{append_assoc}
use Rattle.std.specs.List.{All, list_all, IsDistinct}
use Rattle.std.specs.Str.{bytes_eq}
use Rattle.std.specs.Fmt.{decimal}
use Rattle.std.specs.Ordering.{is_lt, ordering_reverse}
use Rattle.std.specs.declared.cmp.Ordering.{Ordering}
use Rattle.std.specs.declared.cmp.Ordering.TheVariants.{Less, Equal, Greater}
use Rattle.std.specs.FinMap as finite
use Rattle.std.specs.FinMap.{put, is_sorted}
use Rattle.std.specs.FinMap.Entries.{by_order, below_all}
use Rattle.std.proofs.lemmas.List.{append-nil, map-append, length-append, length-map}
use Rattle.std.proofs.lemmas.List.Elements.{All-nil, All-cons, All-head, All-tail, All-push}
use Rattle.csp_route.specs.declared.prefix.Prefix.{Prefix}
use Rattle.csp_route.specs.declared.row.Row.{Row}
use Rattle.csp_route.specs.declared.table.TheConstants.{MAX_ROWS}
use Rattle.csp_route.specs.Prefix.{prefix_cmp}
use Rattle.csp_route.specs.Parts.{Part, placed, start_of}
use Rattle.csp_route.specs.Routes.{Hop, Routes, entry_of, kept_key, hop_of, with_row, IsWithin}
use Rattle.csp_route.specs.Kept.{IsKept, AreKept}
use Rattle.csp_route.specs.Text.{◌>>=◌, row_of, put_at, with_part, added, parsed, names_of}
use Rattle.arrayvec.specs.ArrayString.{ArrayString}
use Rattle.csp_route.specs.Written.{row_text, joined, written, name_at, is_word, IsWritable, TellApart}
use Rattle.csp_route.proofs.PrefixOrder.{prefix_total}
use Rattle.csp_route.proofs.Views.{view, view_after_put, put_in_order, most_view, entries-view}
use Rattle.csp_route.proofs.Texts.{texts, within}
use Rattle.csp_route.proofs.Merges.{kept_with}
use Rattle.csp_route.proofs.Puts.{put_ok, parsed_rows}
use Rattle.csp_route.proofs.Numerals.{Free, plain, free_when}
use Rattle.csp_route.proofs.Splits.{cut, split_joined, not_blank, begins}
use Rattle.csp_route.proofs.Reading.{Fits, row_judged, row_read, row_free}

-- ---- a row after all that stand in the table

both : (a b : Bool) → T a → T b → T (a && b)
both true b h k = k
both false b h k = absurd h

first_of : (a b : Bool) → T (a && b) → T a
first_of true b h = tt
first_of false b h = absurd h

second_of : (a b : Bool) → T (a && b) → T b
second_of true b h = h
second_of false b h = absurd h

less : (o : Ordering) → T (is_lt o) → o ≡ Less
less Less h = refl
less Equal h = absurd h
less Greater h = absurd h

-- a key that is below those of a list is below that of one of its entries
below_mid : (k : Prefix) (es : List (Prefix × Hop)) (e : Prefix × Hop) (fs : List (Prefix × Hop)) → T (below_all prefix_cmp k (es ++ e ∷ fs)) → prefix_cmp k e.0 ≡ Less
below_mid k [] e fs h = less _ (first_of _ _ h)
below_mid k (x ∷ es) e fs h = below_mid k es e fs (second_of _ _ h)

-- an entry that stands after all others is put at the end
put_last : (es : List (Prefix × Hop)) (e : Prefix × Hop) (fs : List (Prefix × Hop)) → T (is_sorted prefix_cmp (es ++ e ∷ fs)) → put prefix_cmp e.0 e.1 es ≡ es ++ e ∷ []
put_last [] e fs h = refl
put_last (x ∷ es) e fs h =
    let above : prefix_cmp e.0 x.0 ≡ Greater = prefix_total.antisymm e.0 x.0 ∙ ap ordering_reverse (below_mid x.0 es e fs (first_of _ _ h)) in
    ap (λ o. by_order o (e ∷ x ∷ es) ((x.0, e.1) ∷ es) (x ∷ put prefix_cmp e.0 e.1 es)) above ∙ ap (λ l. x ∷ l) (put_last es e fs (second_of _ _ h))

-- ---- one row after the other

-- the space before a row that is not the first
abbrev gap_of : Bool → List ℕ
gap_of true = 32 ∷ []
gap_of false = []

row_again : (names : List (List ℕ)) (row : Row) (later : Bool) (at : ℕ) → IsDistinct bytes_eq names → Fits names row → row_of names (record { at = at; bytes = gap_of later ++ row_text names (entry_of row) }) ≡ Ok row
row_again names row true at distinct fits =
    row_judged names (record { at = at; bytes = 32 ∷ row_text names (entry_of row) })
    ∙ row_read names row (at + length (32 ∷ row_text names (entry_of row))) (at + 0 + 1) distinct fits
row_again names row false at distinct fits =
    row_judged names (record { at = at; bytes = row_text names (entry_of row) })
    ∙ row_read names row (at + length (row_text names (entry_of row))) at distinct fits

-- what a table is after the next of its rows is read
record Next (names : List (List ℕ)) (done : List Row) (row : Row) (part : Part) : Type 0 where
  kept : AreKept (done ++ row ∷ [])
  reads : with_part names (view done) part ≡ Ok (view (done ++ row ∷ []))

next_read : (names : List (List ℕ)) (done : List Row) (row : Row) (rest : List Row) (part : Part) → row_of names part ≡ Ok row → IsKept row → AreKept done → T (is_sorted prefix_cmp (map entry_of done ++ entry_of row ∷ map entry_of rest)) → length done + 1 ≤ MAX_ROWS → Next names done row part
next_read names done row rest part e kept are order most =
    let last : put prefix_cmp (kept_key row) (hop_of row) (map entry_of done) ≡ map entry_of (done ++ row ∷ []) = put_last (map entry_of done) (entry_of row) (map entry_of rest) order ∙ sym (map-append entry_of done (row ∷ [])) in
    let after : AreKept (done ++ row ∷ []) = record { in_order = put_in_order done (done ++ row ∷ []) (kept_key row) (hop_of row) are last; each = All-push IsKept done row are.each kept } in
    let shows : view (done ++ row ∷ []) ≡ with_row (view done) row = view_after_put done (done ++ row ∷ []) (kept_key row) (hop_of row) are last ∙ sym (kept_with (view done) row kept) in
    let long : length (done ++ row ∷ []) ≤ MAX_ROWS = omega (arith, length-append done (row ∷ []), most) in
    record {
      kept = after;
      reads = ap (λ r. r >>= λ x. put_at (start_of part) (view done) x) e ∙ put_ok (start_of part) (view done) (view (done ++ row ∷ [])) row shows (most_view (done ++ row ∷ []) (view (done ++ row ∷ [])) after refl long);
    }

read_all : (names : List (List ℕ)) (done rest : List Row) (later : Bool) (at : ℕ) → IsDistinct bytes_eq names → All (Fits names) rest → AreKept done → T (is_sorted prefix_cmp (map entry_of done ++ map entry_of rest)) → length done + length rest ≤ MAX_ROWS → added names (view done) (placed at (cut (gap_of later) (texts names rest))) ≡ Ok (view (done ++ rest))
unfolding added
read_all names done [] later at distinct fits are order most = ap (λ d. Ok (view d)) (sym (append-nil done))
read_all names done (row ∷ rest) later at distinct fits are order most =
    let fit = All-head (Fits names) row rest fits in
    let next = next_read names done row rest (record { at = at; bytes = gap_of later ++ row_text names (entry_of row) }) (row_again names row later at distinct fit) fit.kept are order (omega (arith, most)) in
    let there : map entry_of done ++ entry_of row ∷ map entry_of rest ≡ map entry_of (done ++ row ∷ []) ++ map entry_of rest =
    sym (ap (λ es. es ++ map entry_of rest) (map-append entry_of done (row ∷ [])) ∙ append_assoc (map entry_of done) (entry_of row ∷ []) (map entry_of rest)) in
    let place = at + length (gap_of later ++ row_text names (entry_of row)) + 1 in
    ap (λ r. r >>= λ x. added names x (placed place (cut (32 ∷ []) (texts names rest)))) next.reads
    ∙ read_all names (done ++ row ∷ []) rest true place distinct (All-tail (Fits names) row rest fits) next.kept
    (subst (λ (es : List (Prefix × Hop)). T (is_sorted prefix_cmp es)) there order)
    (omega (arith, length-append done (row ∷ []), most))
    ∙ ap (λ d. Ok (view d)) (append_assoc done (row ∷ []) rest)

-- ---- the whole text

texts_free : (names : List (List ℕ)) (rows : List Row) → All (Fits names) rows → All (Free 44) (texts names rows)
texts_free names [] fits = All-nil (Free 44)
texts_free names (row ∷ rows) fits = All-cons (Free 44) (row_text names (entry_of row)) (texts names rows)
    (row_free names row (All-head (Fits names) row rows fits))
    (texts_free names rows (All-tail (Fits names) row rows fits))

pub empty_view : view [] ≡ finite.empty
empty_view = finite.empty_of_len _ (finite.len-entries _ ∙ ap length (finite.entries-from_sorted prefix_cmp [] tt))

no_rows : AreKept []
no_rows = record { in_order = refl; each = All-nil IsKept }

sorted_of : (b : Bool) → IsTrue b → T b
sorted_of b e = subst T (sym e) tt

pub read_back : (names : List (List ℕ)) (rows : List Row) → IsDistinct bytes_eq names → All (Fits names) rows → AreKept rows → length rows ≤ MAX_ROWS → parsed names (joined [] (texts names rows)) ≡ Ok (view rows)
read_back names [] distinct fits are most = ap Ok (sym empty_view)
read_back names (row ∷ rows) distinct fits are most =
    let addr = plain row.addr ((All-head (Fits names) row rows fits).ranges.addr) in
    let text = row_text names (entry_of row) in
    let front : list_all (λ byte. byte == 32) (decimal row.addr) ≡ false = begins (decimal row.addr) addr.no_space addr.filled in
    let dark : list_all (λ byte. byte == 32) (joined [] (texts names (row ∷ rows))) ≡ false =
    not_blank text (joined (44 ∷ 32 ∷ []) (texts names rows)) (not_blank (decimal row.addr ++ 47 ∷ decimal row.mask) _ (not_blank (decimal row.addr) _ front)) in
    parsed_rows names (joined [] (texts names (row ∷ rows))) dark
    ∙ ap (λ parts. added names finite.empty (placed 0 parts)) (split_joined [] text (texts names rows) (All-nil (λ b. (b == 44) ≡ false)) (texts_free names (row ∷ rows) fits))
    ∙ ap (λ table. added names table (placed 0 (cut [] (texts names (row ∷ rows))))) (sym empty_view)
    ∙ read_all names [] (row ∷ rows) false 0 distinct fits no_rows (sorted_of _ are.in_order) (omega (arith, most))

-- ---- what the writer knows of its rows and names

and_first : (a b : Bool) → (a && b) ≡ true → a ≡ true
and_first true b h = refl
and_first false b h = absurd (cc)

and_second : (a b : Bool) → (a && b) ≡ true → b ≡ true
and_second true b h = h
and_second false b h = absurd (cc)

not_true : (b : Bool) → not b ≡ true → b ≡ false
not_true true e = absurd (cc)
not_true false e = refl

word_at : (names : List (List ℕ)) (i : ℕ) → list_all is_word names ≡ true → i < length names → is_word (name_at names i) ≡ true
word_at [] i e low = absurd (omega arith)
word_at (name ∷ names) zero e low = and_first _ _ e
word_at (name ∷ names) (suc i) e low = word_at names i (and_second _ _ e) (omega arith)

fit : (names : List (List ℕ)) (row : Row) → IsTrue (list_all is_word names) → IsKept row → IsWritable row → row.iface < length names → Fits names row
fit names row words kept ranges known =
    let name = name_at names row.iface in
    let word : is_word name ≡ true = word_at names row.iface words known in
    record {
      kept = kept;
      ranges = ranges;
      known = known;
      no_space = free_when 32 name (and_second _ _ (and_first _ _ word));
      no_comma = free_when 44 name (and_second _ _ word);
      named = not_true _ (and_first _ _ (and_first _ _ word));
    }

all_fit : (names : List (List ℕ)) (rows : List Row) → IsTrue (list_all is_word names) → All IsKept rows → All IsWritable rows → All (λ (row : Row). row.iface < length names) rows → All (Fits names) rows
all_fit names [] words kept ranges known = All-nil (Fits names)
all_fit names (row ∷ rows) words kept ranges known = All-cons (Fits names) row rows
    (fit names row words (All-head IsKept row rows kept) (All-head IsWritable row rows ranges) (All-head (λ (r : Row). r.iface < length names) row rows known))
    (all_fit names rows words (All-tail IsKept row rows kept) (All-tail IsWritable row rows ranges) (All-tail (λ (r : Row). r.iface < length names) row rows known))

-- the map of rows is told by its entries
view_of : (rows : List Row) (table : Routes) → AreKept rows → map entry_of rows ≡ finite.entries table → view rows ≡ table
view_of rows table are e = finite.same_entries_map _ _ (entries-view rows are ∙ e)

pub reads_back : (names : List ArrayString) (rows : List Row) (table : Routes) → AreKept rows → map entry_of rows ≡ finite.entries table → length rows ≤ MAX_ROWS → All IsWritable rows → IsWithin (length names) table → TellApart (names_of names) → parsed (names_of names) (written (names_of names) table) ≡ Ok table
reads_back names rows table are e most ranges known apart =
    let count : length (names_of names) ≡ length names = length-map names (λ (name : ArrayString). name.bytes) in
    let there : All (λ (row : Row). row.iface < length (names_of names)) rows = within (length (names_of names)) rows table e (subst (λ n. IsWithin n table) (sym count) known) in
    ap (λ es. parsed (names_of names) (joined [] (map (row_text (names_of names)) es))) (sym e)
    ∙ read_back (names_of names) rows apart.distinct (all_fit (names_of names) rows apart.words are.each ranges there) are most
    ∙ ap Ok (view_of rows table are e)
