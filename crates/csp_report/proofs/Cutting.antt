-- Lines of words, joined to a text and cut again.
use Rattle.std.proofs.Common.{◌≡◌, ℕ, zero, suc, ◌+◌, ◌-◌, ◌≤◌, ◌/◌, ◌%◌, Bool, true, false, cond, eqb, ltb, List, [], ◌∷◌, ◌++◌, length, take, drop, get_or, map, refl, ap, ◌∙◌, append_assoc, append-nil, length-append, arith}
use Rattle.std.specs.Prelude.{codes}
use Rattle.std.specs.List.{AllByRecursion, slice_split, onto_first, join_with_byte}
use Rattle.std.specs.Fmt.{decimal, digits, digits_onto, digit_glyph}
use Rattle.std.proofs.Math.Seq.{get_or-append_seam, take-append_seam, drop-append_seam}
use Rattle.std.proofs.lemmas.Bool.{eqb-true}
use Rattle.std.proofs.lemmas.List.Splits.{slice_split-cons_no}
use Rattle.csp_text.specs.Cut.{lines_of, without_line_feed}
use Rattle.csp_report.specs.Lines.{Line, text_of}
use Rattle.csp_report.specs.Summary.{last_two}
use Rattle.csp_report.proofs.Feeds.{Lacks, not_eqb}

-- ---- words of a line, and lines of a text

cut_at : (c : ℕ) (w rest : List ℕ) → eqb c c ≡ true → Lacks c w → slice_split (λ b. eqb b c) (w ++ c ∷ rest) ≡ w ∷ slice_split (λ b. eqb b c) rest
cut_at c [] rest same h = ap (λ t. cond t ([] ∷ slice_split (λ b. eqb b c) rest) (onto_first c (slice_split (λ b. eqb b c) rest))) same
cut_at c (x ∷ xs) rest same h = slice_split-cons_no (λ b. eqb b c) x (xs ++ c ∷ rest) h.0 ∙ ap (onto_first x) (cut_at c xs rest same h.1)

cut_last : (c : ℕ) (w : List ℕ) → Lacks c w → slice_split (λ b. eqb b c) w ≡ w ∷ []
cut_last c [] h = refl
cut_last c (x ∷ xs) h = slice_split-cons_no (λ b. eqb b c) x xs h.0 ∙ ap (onto_first x) (cut_last c xs h.1)

-- parts joined with a byte that none of them has
split_join : (c : ℕ) → eqb c c ≡ true → (part : List ℕ) (parts : List (List ℕ)) → AllByRecursion (Lacks c) (part ∷ parts) → slice_split (λ b. eqb b c) (join_with_byte c (part ∷ parts)) ≡ part ∷ parts
split_join c same part [] all = cut_last c part all.0
split_join c same part (next ∷ parts) all =
    cut_at c part (join_with_byte c (next ∷ parts)) same all.0 ∙ ap (λ (more : List (List ℕ)). part ∷ more) (split_join c same next parts all.1)

-- the words of a line, joined and cut again
abbrev pub recut : Line → Line
recut words = slice_split (λ b. eqb b 32) (join_with_byte 32 words)

pub recut_is : (word : List ℕ) (words : Line) → AllByRecursion (Lacks 32) (word ∷ words) → recut (word ∷ words) ≡ word ∷ words
recut_is word words all = split_join 32 refl word words all

without_end : (t : List ℕ) → without_line_feed (t ++ 10 ∷ []) ≡ t
without_end t =
    let count : length (t ++ 10 ∷ []) - 1 ≡ length t = omega (arith, length-append t (10 ∷ [])) in
    ap (λ k. cond (eqb (get_or (t ++ 10 ∷ []) k 0) 10) (take k (t ++ 10 ∷ [])) (t ++ 10 ∷ [])) count
    ∙ ap (λ b. cond (eqb b 10) (take (length t) (t ++ 10 ∷ [])) (t ++ 10 ∷ [])) (get_or-append_seam t 10 [] 0)
    ∙ take-append_seam t (10 ∷ [])

lines_end : (t : List ℕ) → lines_of (t ++ 10 ∷ []) ≡ slice_split (λ b. eqb b 10) t
lines_end t =
    let some : eqb (length (t ++ 10 ∷ [])) 0 ≡ false = not_eqb (length (t ++ 10 ∷ [])) 0 (omega (arith, length-append t (10 ∷ []))) in
    ap (λ u. cond u [] (slice_split (λ b. eqb b 10) (without_line_feed (t ++ 10 ∷ [])))) some ∙ ap (slice_split (λ b. eqb b 10)) (without_end t)

abbrev joined_words : Line → List ℕ
joined_words words = join_with_byte 32 words

ends : (line : Line) (lines : List Line) → text_of (line ∷ lines) ≡ join_with_byte 10 (map joined_words (line ∷ lines)) ++ 10 ∷ []
ends line [] = append-nil (joined_words line ++ 10 ∷ [])
ends line (next ∷ lines) =
    ap (λ (t : List ℕ). (joined_words line ++ 10 ∷ []) ++ t) (ends next lines) ∙ regroup (joined_words line) (join_with_byte 10 (map joined_words (next ∷ lines)))
  where
    regroup : (a b : List ℕ) → (a ++ 10 ∷ []) ++ (b ++ 10 ∷ []) ≡ (a ++ 10 ∷ b) ++ 10 ∷ []
    regroup a b = simp append_assoc

each_joined : (lines : List Line) → AllByRecursion (λ words. Lacks 10 (join_with_byte 32 words)) lines → AllByRecursion (Lacks 10) (map joined_words lines)
each_joined [] all = tt
each_joined (line ∷ lines) all = (all.0, each_joined lines all.1)

-- a text of lines without line feeds has these lines
pub lines_back : (lines : List Line) → AllByRecursion (λ words. Lacks 10 (join_with_byte 32 words)) lines → lines_of (text_of lines) ≡ map (λ words. join_with_byte 32 words) lines
lines_back [] all = refl
lines_back (line ∷ lines) all =
    ap lines_of (ends line lines) ∙ lines_end (join_with_byte 10 (map joined_words (line ∷ lines))) ∙ split_join 10 refl (joined_words line) (map joined_words lines) (each_joined (line ∷ lines) all)

pub cut_each : (lines : List Line) → map (slice_split (λ b. eqb b 32)) (map (λ (words : Line). join_with_byte 32 words) lines) ≡ map recut lines
cut_each [] = refl
cut_each (line ∷ lines) = ap (λ (more : List Line). recut line ∷ more) (cut_each lines)

-- ---- the last two

pub last_two_are : (xs : List (List ℕ)) (a b : List ℕ) → last_two (xs ++ a ∷ b ∷ []) ≡ a ∷ b ∷ []
last_two_are xs a b =
    let count : length (xs ++ a ∷ b ∷ []) - 2 ≡ length xs = omega (arith, length-append xs (a ∷ b ∷ [])) in
    ap (λ n. drop n (xs ++ a ∷ b ∷ [])) count ∙ drop-append_seam xs (a ∷ b ∷ [])

-- ---- the number whose digits are `0`

more_digits : (k n : ℕ) (acc : List ℕ) → length acc ≤ length (digits_onto k 10 false n acc)
more_digits zero n acc = omega arith
more_digits (suc k) n acc = by_test (more_digits k (n / 10) more) (eqb (n / 10) 0)
  where
    more : List ℕ
    more = digit_glyph false (n % 10) ∷ acc

    by_test : length more ≤ length (digits_onto k 10 false (n / 10) more) → (t : Bool) → length acc ≤ length (cond t more (digits_onto k 10 false (n / 10) more))
    by_test later true = omega arith
    by_test later false = omega (arith, later)

small_glyph : (d : ℕ) → digit_glyph false d ≡ 48 → d ≡ 0
small_glyph d e = by_test (ltb d 10) e
  where
    by_test : (t : Bool) → cond t (48 + d) (87 + d) ≡ 48 → d ≡ 0
    by_test true f = omega (arith, f)
    by_test false f = absurd (omega (arith, f))

first_is : (a : ℕ) (more : List ℕ) (b : ℕ) → a ∷ more ≡ b ∷ [] → a ≡ b
first_is a more b e = ap (λ (xs : List ℕ). get_or xs 0 0) e

zero_digits : (k n : ℕ) → digits_onto (suc (suc k)) 10 false n [] ≡ 48 ∷ [] → n ≡ 0
zero_digits k n e = by_test (eqb (n / 10) 0) refl e
  where
    glyph : ℕ
    glyph = digit_glyph false (n % 10)

    by_test : (t : Bool) → eqb (n / 10) 0 ≡ t → cond t (glyph ∷ []) (digits_onto (suc k) 10 false (n / 10) (glyph ∷ [])) ≡ 48 ∷ [] → n ≡ 0
    by_test true small f =
        let none : n / 10 ≡ 0 = eqb-true (n / 10) 0 small in
        let last : n % 10 ≡ 0 = small_glyph (n % 10) (first_is glyph [] 48 f) in
        omega arith
    by_test false large f = absurd (two (eqb (n / 10 / 10) 0) f)
      where
        next : List ℕ
        next = digit_glyph false (n / 10 % 10) ∷ glyph ∷ []

        two : (t : Bool) → cond t next (digits_onto k 10 false (n / 10 / 10) next) ≡ 48 ∷ [] → ⊥
        two true g = omega (arith, ap (λ (xs : List ℕ). length xs) g)
        two false g = omega (arith, ap (λ (xs : List ℕ). length xs) g, more_digits k (n / 10 / 10) next)

pub none_counted : (n : ℕ) → decimal n ≡ codes "0" → n ≡ 0
unfolding digits
none_counted n e = let at : (k : ℕ) → digits_onto (suc (suc k)) 10 false n [] ≡ 48 ∷ [] → n ≡ 0 = λ k. zero_digits k n in at 62 e
