-- Lines cut into their words, and texts into their lines.
use Rattle.std.proofs.Common.{◌≡◌, ℕ, ◌-◌, ◌<◌, Bool, true, false, cond, not, ◌&&◌, eqb, leb, List, [], ◌∷◌, ◌++◌, length, take, get_or, refl, ap, ◌∙◌, append_assoc, append-nil, length-append, arith}
use Rattle.std.specs.Prelude.{filter}
use Rattle.std.specs.List.{AllByRecursion, list_all, slice_split, onto_first, join_with_byte}
use Rattle.std.specs.Str.{all_ascii_digits}
use Rattle.std.proofs.lemmas.Bool.{and_parts, leb-true, le-leb, eqb-true}
use Rattle.std.proofs.Math.Seq.{get_or-append_seam, take-append_seam}
use Rattle.std.proofs.lemmas.List.Concat.{flat_map-append}
use Rattle.std.proofs.lemmas.List.Splits.{slice_split-cons_no}
use Rattle.csp_text.specs.Cut.{lines_of, words_of, without_line_feed}
use Rattle.csp_scene.specs.Judge.{is_printable}
use Rattle.csp_gen.specs.Lines.{text_of}

-- no byte is c
abbrev pub Lacks : ℕ → List ℕ → Type 0
Lacks c bytes = AllByRecursion (λ b. eqb b c ≡ false) bytes

pub cut_at : (c : ℕ) (w rest : List ℕ) → eqb c c ≡ true → Lacks c w → slice_split (λ b. eqb b c) (w ++ c ∷ rest) ≡ w ∷ slice_split (λ b. eqb b c) rest
cut_at c [] rest same h = ap (λ t. cond t ([] ∷ slice_split (λ b. eqb b c) rest) (onto_first c (slice_split (λ b. eqb b c) rest))) same
cut_at c (x ∷ xs) rest same h = slice_split-cons_no (λ b. eqb b c) x (xs ++ c ∷ rest) h.0 ∙ ap (onto_first x) (cut_at c xs rest same h.1)

pub cut_last : (c : ℕ) (w : List ℕ) → Lacks c w → slice_split (λ b. eqb b c) w ≡ w ∷ []
cut_last c [] h = refl
cut_last c (x ∷ xs) h = slice_split-cons_no (λ b. eqb b c) x xs h.0 ∙ ap (onto_first x) (cut_last c xs h.1)

-- ---- words

abbrev pub IsWord : List ℕ → Type 0
IsWord w = Lacks 32 w × (0 < length w)

split_join : (w : List ℕ) (ws : List (List ℕ)) → AllByRecursion IsWord (w ∷ ws) → slice_split (λ b. eqb b 32) (join_with_byte 32 (w ∷ ws)) ≡ w ∷ ws
split_join w [] all = cut_last 32 w all.0.0
split_join w (v ∷ vs) all = cut_at 32 w (join_with_byte 32 (v ∷ vs)) refl all.0.0 ∙ ap (λ (ws : List (List ℕ)). w ∷ ws) (split_join v vs all.1)

keeps : (w : List ℕ) (ws : List (List ℕ)) → 0 < length w → filter (λ word. not (eqb (length word) 0)) (w ∷ ws) ≡ w ∷ filter (λ word. not (eqb (length word) 0)) ws
keeps [] ws h = absurd (omega arith)
keeps (x ∷ xs) ws h = by_test (eqb (length (x ∷ xs)) 0) refl
  where
    by_test : (t : Bool) → eqb (length (x ∷ xs)) 0 ≡ t → cond (not t) ((x ∷ xs) ∷ filter (λ word. not (eqb (length word) 0)) ws) (filter (λ word. not (eqb (length word) 0)) ws) ≡ (x ∷ xs) ∷ filter (λ word. not (eqb (length word) 0)) ws
    by_test true e = absurd (omega (arith, eqb-true (length (x ∷ xs)) 0 e))
    by_test false e = refl

all_kept : (ws : List (List ℕ)) → AllByRecursion IsWord ws → filter (λ word. not (eqb (length word) 0)) ws ≡ ws
all_kept [] all = refl
all_kept (w ∷ ws) all = keeps w ws all.0.1 ∙ ap (λ (ws : List (List ℕ)). w ∷ ws) (all_kept ws all.1)

-- words joined by spaces are cut into these words again
pub words_back : (w : List ℕ) (ws : List (List ℕ)) → AllByRecursion IsWord (w ∷ ws) → words_of (join_with_byte 32 (w ∷ ws)) ≡ w ∷ ws
words_back w ws all = ap (filter (λ word. not (eqb (length word) 0))) (split_join w ws all) ∙ all_kept (w ∷ ws) all

opposite : (t : Bool) → not t ≡ true → t ≡ false
opposite true e = cc
opposite false e = refl

plain : (bytes : List ℕ) → list_all (λ b. not (eqb b 32)) bytes ≡ true → Lacks 32 bytes
plain [] all = tt
plain (b ∷ bytes) all = let parts = and_parts (not (eqb b 32)) (list_all (λ b. not (eqb b 32)) bytes) all in (opposite (eqb b 32) parts.0, plain bytes parts.1)

-- a literal word, by looking
pub literal : (word : List ℕ) → list_all (λ b. not (eqb b 32)) word ≡ true → 0 < length word → IsWord word
literal word lacks some = (plain word lacks, some)

-- ---- digits and printable bytes

above : (b c : ℕ) → c < b → eqb b c ≡ false
above b c h = by_test (eqb b c) refl
  where
    by_test : (t : Bool) → eqb b c ≡ t → t ≡ false
    by_test true e = absurd (omega (arith, eqb-true b c e))
    by_test false e = refl

pub digits_lack : (w : List ℕ) → all_ascii_digits w ≡ true → Lacks 32 w
digits_lack [] all = tt
digits_lack (b ∷ bs) all =
    let parts = and_parts (leb 48 b && leb b 57) (all_ascii_digits bs) all in
    (above b 32 (omega (arith, leb-true 48 b (and_parts (leb 48 b) (leb b 57) parts.0).0)), digits_lack bs parts.1)

both_true : (a b : Bool) → a ≡ true → b ≡ true → (a && b) ≡ true
both_true true true e f = refl
both_true true false e f = cc
both_true false b e f = cc

pub all_pass_join : (p : ℕ → Bool) (xs ys : List ℕ) → list_all p xs ≡ true → list_all p ys ≡ true → list_all p (xs ++ ys) ≡ true
all_pass_join p [] ys a b = b
all_pass_join p (x ∷ xs) ys a b = let parts = and_parts (p x) (list_all p xs) a in both_true (p x) (list_all p (xs ++ ys)) parts.0 (all_pass_join p xs ys parts.1 b)

pub digits_printable : (w : List ℕ) → all_ascii_digits w ≡ true → list_all is_printable w ≡ true
digits_printable [] all = refl
digits_printable (b ∷ bs) all =
    let parts = and_parts (leb 48 b && leb b 57) (all_ascii_digits bs) all in
    let range = and_parts (leb 48 b) (leb b 57) parts.0 in
    let low = leb-true 48 b range.0 in
    let high = leb-true b 57 range.1 in
    both_true (is_printable b) (list_all is_printable bs) (both_true (leb 32 b) (leb b 126) (le-leb 32 b (omega arith)) (le-leb b 126 (omega arith))) (digits_printable bs parts.1)

pub printable_lacks : (line : List ℕ) → list_all is_printable line ≡ true → Lacks 10 line
printable_lacks [] all = tt
printable_lacks (b ∷ bs) all =
    let parts = and_parts (is_printable b) (list_all is_printable bs) all in
    (above b 10 (omega (arith, leb-true 32 b (and_parts (leb 32 b) (leb b 126) parts.0).0)), printable_lacks bs parts.1)

-- ---- lines

split_front : (front : List (List ℕ)) (last : List ℕ) → AllByRecursion (Lacks 10) front → Lacks 10 last → slice_split (λ b. eqb b 10) (text_of front ++ last) ≡ front ++ last ∷ []
split_front [] last all h = cut_last 10 last h
split_front (line ∷ front) last all h =
    ap (slice_split (λ b. eqb b 10)) (regroup line (text_of front) last) ∙ cut_at 10 line (text_of front ++ last) refl all.0 ∙ ap (λ (ls : List (List ℕ)). line ∷ ls) (split_front front last all.1 h)
  where
    regroup : (a b c : List ℕ) → ((a ++ 10 ∷ []) ++ b) ++ c ≡ a ++ 10 ∷ (b ++ c)
    regroup a b c = simp append_assoc

without_end : (t : List ℕ) → without_line_feed (t ++ 10 ∷ []) ≡ t
without_end t =
    let count : length (t ++ 10 ∷ []) - 1 ≡ length t = omega (arith, length-append t (10 ∷ [])) in
    ap (λ k. cond (eqb (get_or (t ++ 10 ∷ []) k 0) 10) (take k (t ++ 10 ∷ [])) (t ++ 10 ∷ [])) count
    ∙ ap (λ b. cond (eqb b 10) (take (length t) (t ++ 10 ∷ [])) (t ++ 10 ∷ [])) (get_or-append_seam t 10 [] 0)
    ∙ take-append_seam t (10 ∷ [])

lines_end : (t : List ℕ) → lines_of (t ++ 10 ∷ []) ≡ slice_split (λ b. eqb b 10) t
lines_end t =
    let some : eqb (length (t ++ 10 ∷ [])) 0 ≡ false = above (length (t ++ 10 ∷ [])) 0 (omega (arith, length-append t (10 ∷ []))) in
    ap (λ u. cond u [] (slice_split (λ b. eqb b 10) (without_line_feed (t ++ 10 ∷ [])))) some ∙ ap (slice_split (λ b. eqb b 10)) (without_end t)

ends : (front : List (List ℕ)) (last : List ℕ) → text_of (front ++ last ∷ []) ≡ (text_of front ++ last) ++ 10 ∷ []
ends front last = simp (flat_map-append, append_assoc, append-nil)

-- lines with their line feeds are cut into these lines again
pub lines_back : (front : List (List ℕ)) (last : List ℕ) → AllByRecursion (Lacks 10) front → Lacks 10 last → lines_of (text_of (front ++ last ∷ [])) ≡ front ++ last ∷ []
lines_back front last all h = ap lines_of (ends front last) ∙ lines_end (text_of front ++ last) ∙ split_front front last all h
