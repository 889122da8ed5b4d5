-- A row that was written is read as it was.
use Rattle.std.proofs.Common.{◌≡◌, ℕ, zero, suc, ◌+◌, ◌<◌, ◌≤◌, ap, ◌∙◌, refl, arith, cond, List, [], ◌∷◌, ◌++◌, length, take, Bool, true, false, not, ◌&&◌, ◌==◌, nat_lt, nat_le, Option, None, Some, Result, Ok, slice_get, slice_index_or, IfSome}
use Rattle.std.specs.List.{All, slice_split, position_or_len, prefix_len, IsDistinct}
use Rattle.std.specs.Str.{bytes_eq}
use Rattle.std.specs.Fmt.{decimal}
use Rattle.std.proofs.lemmas.Bool.Decides.{nat_tests}
use Rattle.std.proofs.lemmas.Slice.Eq.{bytes_eq-Decides}
use Rattle.std.proofs.lemmas.Map.Keys.{IsDistinct-head, IsDistinct-tail}
use Rattle.std.proofs.lemmas.List.{append-nil, length-take}
use Rattle.std.proofs.lemmas.List.Elements.{All-nil, All-cons, All-append, All-from_recursion, All-get_or}
use Rattle.csp_route.specs.declared.prefix.Prefix.{Prefix}
use Rattle.csp_route.specs.declared.prefix.TheConstants.{MAX_MASK}
use Rattle.csp_route.specs.declared.row.Row.{Row}
use Rattle.csp_route.specs.declared.text.TheConstants.{MAX_IFACES}
use Rattle.csp_route.specs.declared.error.RouteError.{RouteError}
use Rattle.csp_route.specs.declared.error.RouteKind.TheVariants.{Syntax, Range, NoInterface}
use Rattle.csp_route.specs.Parts.{Part, placed, filled, parts_of, words_of, end_of}
use Rattle.csp_route.specs.Routes.{entry_of, kept_key}
use Rattle.csp_route.specs.Text.{◌>>=◌, demand, target_from, target_of, iface_named, iface_of, via_of, nothing_of, or_refused, row_of}
use Rattle.csp_route.specs.Written.{name_at, via_text, target_text, row_text, IsWritable}
use Rattle.csp_route.specs.Kept.{IsKept}
use Rattle.csp_route.proofs.Numerals.{Free, Plain, plain}
use Rattle.csp_route.proofs.Splits.{split_first, split_only, filled_word, longer}
use Rattle.csp_route.proofs.Rows.{judged, whole}

-- ---- the word `ADDR/MASK`

-- the judgement of its two numbers
abbrev judged_target : ℕ → ℕ → (digits more : Bool) → ℕ → ℕ → Result (ℕ × ℕ) RouteError
judged_target at mask_at digits more addr mask =
    demand digits at Syntax >>= λ _. demand more mask_at Syntax >>= λ _. demand (nat_lt addr 32) at Range >>= λ _. demand (nat_le mask MAX_MASK) mask_at Range >>= λ _. Ok (addr, mask)

judged_fits : (at mask_at addr mask : ℕ) → addr < 32 → mask ≤ MAX_MASK → judged_target at mask_at true true addr mask ≡ Ok (addr, mask)
judged_fits at mask_at addr mask low short =
    let a : nat_lt addr 32 ≡ true = grind (arith, nat_tests) in
    let m : nat_le mask MAX_MASK ≡ true = grind (arith, nat_tests) in
    λ i. demand (a i) at Range >>= λ _. demand (m i) mask_at Range >>= λ _. Ok (addr, mask)

fields_read : (prefix : Prefix) (at : ℕ) → prefix.addr < 32 → prefix.mask ≤ MAX_MASK → slice_split (λ b. b == 47) (target_text prefix) ≡ decimal prefix.addr ∷ decimal prefix.mask ∷ []
fields_read prefix at low short =
    split_first 47 (decimal prefix.addr) (decimal prefix.mask) (plain prefix.addr low).no_slash
    ∙ ap (λ parts. decimal prefix.addr ∷ parts) (split_only 47 (decimal prefix.mask) (plain prefix.mask (omega arith)).no_slash)

pub target_read : (prefix : Prefix) (missing at : ℕ) → prefix.addr < 32 → prefix.mask ≤ MAX_MASK → target_of missing (Some (record { at = at; bytes = target_text prefix })) ≡ Ok (prefix.addr, prefix.mask)
target_read prefix missing at low short =
    let addr = plain prefix.addr low in
    let mask : Plain prefix.mask = plain prefix.mask (omega arith) in
    ap (λ parts. target_from at (placed at parts)) (fields_read prefix at low short)
    ∙ (λ i. judged_target at (at + length (decimal prefix.addr) + 1) (addr.digits i) (mask.digits i) (addr.value i) (mask.value i))
    ∙ judged_fits at (at + length (decimal prefix.addr) + 1) prefix.addr prefix.mask low short

-- ---- the word `VIA`

judged_via : ℕ → ℕ → Bool → Result (Option ℕ) RouteError
judged_via at via digits = demand digits at Syntax >>= λ _. demand (nat_lt via 32) at Range >>= λ _. Ok (Some via)

pub via_read : (via at : ℕ) → via < 32 → via_of (Some (record { at = at; bytes = decimal via })) ≡ Ok (Some via)
unfolding judged_via
via_read via at low =
    let digits = plain via low in
    let small : nat_lt via 32 ≡ true = grind (arith, nat_tests) in
    (λ i. judged_via at (digits.value i) (digits.digits i)) ∙ (λ i. demand (small i) at Range >>= λ _. Ok (Some via))

-- ---- the word `IFACE`

-- a name at an index, told as a list's element
name_or : (names : List (List ℕ)) (i : ℕ) → name_at names i ≡ slice_index_or names i []
name_or [] i = refl
name_or (x ∷ names) zero = refl
name_or (x ∷ names) (suc i) = name_or names i

-- the place of a name among names that differ
place_of_name : (names : List (List ℕ)) (i n : ℕ) → IsDistinct bytes_eq names → i < length names → i < n → prefix_len (λ name. not (bytes_eq name (name_at names i))) (take n names) ≡ i
place_of_name [] i n distinct inside low = absurd (omega arith)
place_of_name (x ∷ names) i zero distinct inside low = absurd (omega arith)
place_of_name (x ∷ names) zero (suc n) distinct inside low =
    let same : bytes_eq x x ≡ true = (bytes_eq-Decides x x).1 refl in
    ap (λ b. cond (not b) (1 + prefix_len (λ name. not (bytes_eq name x)) (take n names)) 0) same
place_of_name (x ∷ names) (suc i) (suc n) distinct inside low =
    let apart : All (λ y. bytes_eq x y ≡ false) names = All-from_recursion (λ y. bytes_eq x y ≡ false) names (IsDistinct-head bytes_eq x names distinct) in
    let here : bytes_eq x (name_at names i) ≡ false = ap (bytes_eq x) (name_or names i) ∙ All-get_or (λ y. bytes_eq x y ≡ false) names i [] (omega arith) apart in
    let later : prefix_len (λ name. not (bytes_eq name (name_at names i))) (take n names) ≡ i = place_of_name names i n (IsDistinct-tail bytes_eq x names distinct) (omega arith) (omega arith) in
    ap (λ b. cond (not b) (1 + prefix_len (λ name. not (bytes_eq name (name_at names i))) (take n names)) 0) here ∙ omega (arith, later)

-- a name is found at its own index
pub named_read : (names : List (List ℕ)) (i : ℕ) → IsDistinct bytes_eq names → i < length names → i < MAX_IFACES → iface_named names (name_at names i) ≡ Some i
named_read names i distinct inside low =
    let place : position_or_len (λ name. bytes_eq name (name_at names i)) (take MAX_IFACES names) ≡ i = place_of_name names i MAX_IFACES distinct inside low in
    let there : nat_lt i (length (take MAX_IFACES names)) ≡ true = let long : i < length (take MAX_IFACES names) = omega (arith, length-take MAX_IFACES names) in grind (arith, nat_tests) in
    (λ k. cond (nat_lt (place k) (length (take MAX_IFACES names))) (Some (place k)) None) ∙ (λ k. cond (there k) (Some i) None)

-- ---- the words of a row

-- the word of a next hop, where there is one
abbrev via_words : ℕ → Option ℕ → List Part
via_words at None = []
via_words at (Some via) = record { at = at; bytes = decimal via } ∷ []

abbrev row_words : ℕ → List ℕ → List ℕ → Option ℕ → List Part
row_words at target name via =
    record { at = at; bytes = target }
    ∷ record { at = at + length target + 1; bytes = name }
    ∷ via_words (at + length target + 1 + length name + 1) via

name_words : (at : ℕ) (name : List ℕ) (via : Option ℕ) → Free 32 name → (length name == 0) ≡ false → IfSome via (λ v. v < 32) → filled (parts_of 32 at (name ++ via_text via)) ≡ record { at = at; bytes = name } ∷ via_words (at + length name + 1) via
name_words at name None free some fits =
    ap (λ text. filled (parts_of 32 at text)) (append-nil name)
    ∙ ap (λ parts. filled (placed at parts)) (split_only 32 name free)
    ∙ filled_word at name [] some
name_words at name (Some via) free some fits =
    let digits = plain via fits in
    ap (λ parts. filled (placed at parts)) (split_first 32 name (decimal via) free)
    ∙ filled_word at name (parts_of 32 (at + length name + 1) (decimal via)) some
    ∙ ap (λ parts. record { at = at; bytes = name } ∷ filled (placed (at + length name + 1) parts)) (split_only 32 (decimal via) digits.no_space)
    ∙ ap (λ words. record { at = at; bytes = name } ∷ words) (filled_word (at + length name + 1) (decimal via) [] digits.filled)

words_read : (at : ℕ) (target name : List ℕ) (via : Option ℕ) → Free 32 target → (length target == 0) ≡ false → Free 32 name → (length name == 0) ≡ false → IfSome via (λ v. v < 32) → filled (parts_of 32 at (target ++ 32 ∷ (name ++ via_text via))) ≡ row_words at target name via
words_read at target name via free some free_name some_name fits =
    ap (λ parts. filled (placed at parts)) (split_first 32 target (name ++ via_text via) free)
    ∙ filled_word at target (parts_of 32 (at + length target + 1) (name ++ via_text via)) some
    ∙ ap (λ words. record { at = at; bytes = target } ∷ words) (name_words (at + length target + 1) name via free_name some_name fits)

-- ---- the row

-- what is asked of a row and of the names
pub record Fits (names : List (List ℕ)) (row : Row) : Type 0 where
  pub kept : IsKept row
  pub ranges : IsWritable row
  pub known : row.iface < length names
  pub no_space : Free 32 (name_at names row.iface)
  pub no_comma : Free 44 (name_at names row.iface)
  pub named : (length (name_at names row.iface) == 0) ≡ false

target_free : (c : ℕ) (prefix : Prefix) → Free c (decimal prefix.addr) → Free c (decimal prefix.mask) → (47 == c) ≡ false → Free c (target_text prefix)
target_free c prefix addr mask slash = All-append (λ b. (b == c) ≡ false) (decimal prefix.addr) (47 ∷ decimal prefix.mask) addr (All-cons (λ b. (b == c) ≡ false) 47 (decimal prefix.mask) slash mask)

-- a row's judgement, from its words
abbrev pub judged_words : List (List ℕ) → ℕ → List Part → Result Row RouteError
judged_words names missing words = judged (target_of missing (slice_get words 0)) (iface_of names missing (slice_get words 1)) (via_of (slice_get words 2)) (nothing_of (slice_get words 3))

pub row_judged : (names : List (List ℕ)) (part : Part) → row_of names part ≡ judged_words names (end_of part) (words_of part)
unfolding row_of
row_judged names part = refl

via_judged : (names : List (List ℕ)) (missing at : ℕ) (target name : List ℕ) (via : Option ℕ) (t : ℕ × ℕ) (i : ℕ) → IfSome via (λ v. v < 32) → target_of missing (Some (record { at = at; bytes = target })) ≡ Ok t → iface_of names missing (Some (record { at = at + length target + 1; bytes = name })) ≡ Ok i → judged_words names missing (row_words at target name via) ≡ Ok (record { addr = t.0; mask = t.1; iface = i; via = via })
via_judged names missing at target name None t i fits first second = whole _ _ _ _ t i None tt first second refl refl
via_judged names missing at target name (Some via) t i fits first second = whole _ _ _ _ t i (Some via) tt first second (via_read via _ fits) refl

pub row_read : (names : List (List ℕ)) (row : Row) (missing at : ℕ) → IsDistinct bytes_eq names → Fits names row → judged_words names missing (filled (parts_of 32 at (row_text names (entry_of row)))) ≡ Ok row
row_read names row missing at distinct fits =
    let addr = plain row.addr fits.ranges.addr in
    let short : row.mask < 32 = omega (arith, fits.kept.short) in
    let mask = plain row.mask short in
    ap (judged_words names missing) (words_read at (target_text (kept_key row)) (name_at names row.iface) row.via
    (target_free 32 (kept_key row) addr.no_space mask.no_space refl) (longer (decimal row.addr) (47 ∷ decimal row.mask) addr.filled)
    fits.no_space fits.named fits.ranges.via)
    ∙ via_judged names missing at (target_text (kept_key row)) (name_at names row.iface) row.via (row.addr, row.mask) row.iface fits.ranges.via
    (target_read (kept_key row) missing at fits.ranges.addr fits.kept.short)
    (ap (or_refused _ NoInterface) (named_read names row.iface distinct fits.known fits.ranges.iface))

-- a row's text has no comma
pub row_free : (names : List (List ℕ)) (row : Row) → Fits names row → Free 44 (row_text names (entry_of row))
row_free names row fits =
    let addr = plain row.addr fits.ranges.addr in
    let short : row.mask < 32 = omega (arith, fits.kept.short) in
    let mask = plain row.mask short in
    All-append (λ b. (b == 44) ≡ false) (target_text (kept_key row)) (32 ∷ (name_at names row.iface ++ via_text row.via))
    (target_free 44 (kept_key row) addr.no_comma mask.no_comma refl)
    (All-cons (λ b. (b == 44) ≡ false) 32 (name_at names row.iface ++ via_text row.via) refl
    (All-append (λ b. (b == 44) ≡ false) (name_at names row.iface) (via_text row.via) fits.no_comma (via_free row.via fits.ranges.via)))
  where
    via_free : (via : Option ℕ) → IfSome via (λ v. v < 32) → Free 44 (via_text via)
    via_free None h = All-nil (λ b. (b == 44) ≡ false)
    via_free (Some via) h = All-cons (λ b. (b == 44) ≡ false) 32 (decimal via) refl ((plain via h).no_comma)
