-- The lines of a summary, appended one after the other; and that those of its lines which are a node's or a bridge's add up.
use Rattle.std.proofs.Common.{◌≡◌, ℕ, zero, suc, ◌+◌, ◌-◌, ◌<◌, Bool, true, false, cond, eqb, List, [], ◌∷◌, ◌++◌, length, take, drop, get_or, map, refl, sym, ap, subst, ◌∙◌, append_assoc, length-drop, arith}
use Rattle.std.specs.Prelude.{IsTrue, codes, filter, count_by}
use Rattle.std.specs.Fmt.{decimal}
use Rattle.std.specs.List.{AllByRecursion, flat_map, slice_split, onto_first, join_with_byte}
use Rattle.std.proofs.lemmas.Bool.{eqb-true}
use Rattle.std.proofs.Math.Seq.{take-length}
use Rattle.std.proofs.lemmas.List.{take_more, drop-map, length-map}
use Rattle.std.proofs.lemmas.List.Concat.{flat_map-append}
use Rattle.std.proofs.lemmas.List.Splits.{length-slice_split}
use Rattle.csp_text.specs.Cut.{lines_of, without_line_feed}
use Rattle.csp_report.specs.Lines.{Line, text_of}
use Rattle.csp_report.specs.PlacesAddUp.{AddsUp, is_of_node, PlacesAddUp}
use Rattle.csp_report.specs.Summary.{begins, gen_line, took_line, last_two, summary_lines, joined, summary}
use Rattle.csp_report.proofs.Feeds.{Lacks, all_joined, Lacks-decimal, plain, split_lines}

-- ---- one part after the other

-- the last two of some lines, taken as the program takes them
pub last_is : {X : Type 0} (text : X → List ℕ) (xs : List X) (k : ℕ) → k ≡ length xs - 2 → map text (take (length xs - k) (drop k xs)) ≡ last_two (map text xs)
last_is text xs k e =
    ap (map text) (ap (λ n. take n (drop k xs)) (sym (length-drop k xs)) ∙ take-length (drop k xs)) ∙ sym (drop-map text k xs)
    ∙ ap (λ n. drop n (map text xs)) (e ∙ ap (λ n. n - 2) (sym (length-map xs text)))

five : (f : List ℕ → List ℕ) (s : List ℕ) (t n o k l : List (List ℕ)) → ((((s ++ flat_map f t) ++ flat_map f n) ++ flat_map f o) ++ flat_map f k) ++ flat_map f l ≡ s ++ flat_map f (t ++ n ++ o ++ k ++ l)
five f s t n o k l = simp (flat_map-append, append_assoc)

-- the five parts are all lines
pub parts_joined : (packets : ℕ) (lines last : List (List ℕ)) (s a b c d e : List ℕ) → a ≡ s ++ joined (gen_line packets ∷ []) → b ≡ a ++ joined (filter (begins (codes "end ")) lines) → c ≡ b ++ joined (filter (begins (codes "node ")) lines)
    → d ≡ c ++ joined (took_line lines ∷ []) → e ≡ d ++ joined last → last ≡ last_two lines → e ≡ s ++ joined (summary_lines packets lines)
unfolding summary_lines
parts_joined packets lines last s a b c d e e1 e2 e3 e4 e5 e6 =
    e5 ∙ ap (λ (t : List (List ℕ)). d ++ joined t) e6
    ∙ ap (λ (x : List ℕ). x ++ joined (last_two lines)) (e4 ∙ ap (λ (x : List ℕ). x ++ joined (took_line lines ∷ [])) (e3 ∙ ap (λ (x : List ℕ). x ++ joined (filter (begins (codes "node ")) lines)) (e2 ∙ ap (λ (x : List ℕ). x ++ joined (filter (begins (codes "end ")) lines)) e1)))
    ∙ five (λ line. line ++ 10 ∷ []) s (gen_line packets ∷ []) (filter (begins (codes "end ")) lines) (filter (begins (codes "node ")) lines) (took_line lines ∷ []) (last_two lines)

pub summary_is : (packets : ℕ) (report : List ℕ) → joined (summary_lines packets (lines_of report)) ≡ summary packets report
unfolding summary
summary_is packets report = refl

-- ---- the lines of a text have no line feed

abbrev ends_line : ℕ → Bool
ends_line b = eqb b 10

onto_lacks : (x : ℕ) (parts : List (List ℕ)) → eqb x 10 ≡ false → AllByRecursion (Lacks 10) parts → AllByRecursion (Lacks 10) (onto_first x parts)
onto_lacks x [] h all = ((h, tt), tt)
onto_lacks x (part ∷ parts) h all = ((h, all.0), all.1)

parts_lack : (text : List ℕ) → AllByRecursion (Lacks 10) (slice_split ends_line text)
parts_lack [] = (tt, tt)
parts_lack (x ∷ xs) = by_test (parts_lack xs) (eqb x 10) refl
  where
    by_test : AllByRecursion (Lacks 10) (slice_split ends_line xs) → (t : Bool) → eqb x 10 ≡ t → AllByRecursion (Lacks 10) (cond t ([] ∷ slice_split ends_line xs) (onto_first x (slice_split ends_line xs)))
    by_test later true e = (tt, later)
    by_test later false e = onto_lacks x (slice_split ends_line xs) e later

lines_lack : (text : List ℕ) → AllByRecursion (Lacks 10) (lines_of text)
lines_lack text = by_test (eqb (length text) 0)
  where
    by_test : (t : Bool) → AllByRecursion (Lacks 10) (cond t [] (slice_split ends_line (without_line_feed text)))
    by_test true = tt
    by_test false = parts_lack (without_line_feed text)

-- ---- what holds of each part of a text holds of each line

onto-append : (x : ℕ) (parts : List (List ℕ)) → 0 < length parts → onto_first x (parts ++ [] ∷ []) ≡ onto_first x parts ++ [] ∷ []
onto-append x [] some = absurd (omega arith)
onto-append x (part ∷ parts) some = refl

split_end : (text : List ℕ) → slice_split ends_line (text ++ 10 ∷ []) ≡ slice_split ends_line text ++ [] ∷ []
split_end [] = refl
split_end (x ∷ xs) = by_test (split_end xs) (eqb x 10)
  where
    by_test : slice_split ends_line (xs ++ 10 ∷ []) ≡ slice_split ends_line xs ++ [] ∷ [] → (t : Bool) → cond t ([] ∷ slice_split ends_line (xs ++ 10 ∷ [])) (onto_first x (slice_split ends_line (xs ++ 10 ∷ [])))
        ≡ cond t ([] ∷ slice_split ends_line xs) (onto_first x (slice_split ends_line xs)) ++ [] ∷ []
    by_test later true = ap (λ (parts : List (List ℕ)). [] ∷ parts) later
    by_test later false = ap (onto_first x) later ∙ onto-append x (slice_split ends_line xs) (omega (arith, length-slice_split ends_line xs))

front_of : {X : Type 0} (P : X → Type 0) (xs ys : List X) → AllByRecursion P (xs ++ ys) → AllByRecursion P xs
front_of P [] ys all = tt
front_of P (x ∷ xs) ys all = (all.0, front_of P xs ys all.1)

-- a text whose last byte is this one
last_byte : (text : List ℕ) → get_or text (length text - 1) 0 ≡ 10 → text ≡ take (length text - 1) text ++ 10 ∷ []
last_byte [] e = absurd (omega arith)
last_byte (x ∷ xs) e =
    let text : List ℕ = x ∷ xs in
    let h : length text - 1 < length text = omega arith in
    let all : length text - 1 + 1 ≡ length text = omega arith in
    sym (take-length text) ∙ ap (λ n. take n text) (sym all) ∙ take_more text (length text - 1) 0 h ∙ ap (λ b. take (length text - 1) text ++ b ∷ []) e

module _ (Q : List ℕ → Type 0) where
  cut_keeps : (text : List ℕ) → AllByRecursion Q (slice_split ends_line text) → (t : Bool) → eqb (get_or text (length text - 1) 0) 10 ≡ t → AllByRecursion Q (slice_split ends_line (cond t (take (length text - 1) text) text))
  cut_keeps text all false e = all
  cut_keeps text all true e =
      let whole = last_byte text (eqb-true (get_or text (length text - 1) 0) 10 e) in
      let front = take (length text - 1) text in
      front_of Q (slice_split ends_line front) ([] ∷ []) (subst (λ (parts : List (List ℕ)). AllByRecursion Q parts) (ap (slice_split ends_line) whole ∙ split_end front) all)

  lines_keep : (text : List ℕ) → AllByRecursion Q (slice_split ends_line text) → AllByRecursion Q (lines_of text)
  lines_keep text all = by_test (eqb (length text) 0)
    where
      by_test : (t : Bool) → AllByRecursion Q (cond t [] (slice_split ends_line (without_line_feed text)))
      by_test true = tt
      by_test false = cut_keeps text all (eqb (get_or text (length text - 1) 0) 10) refl

-- ---- and of those that a summary takes

filter_keeps : {X : Type 0} (P : X → Type 0) (test : X → Bool) (xs : List X) → AllByRecursion P xs → AllByRecursion P (filter test xs)
filter_keeps P test [] all = tt
filter_keeps P test (x ∷ xs) all = by_test (filter_keeps P test xs all.1) (test x)
  where
    by_test : AllByRecursion P (filter test xs) → (t : Bool) → AllByRecursion P (cond t (x ∷ filter test xs) (filter test xs))
    by_test later true = (all.0, later)
    by_test later false = later

drop_keeps : {X : Type 0} (P : X → Type 0) (n : ℕ) (xs : List X) → AllByRecursion P xs → AllByRecursion P (drop n xs)
drop_keeps P zero xs all = all
drop_keeps P (suc n) [] all = tt
drop_keeps P (suc n) (x ∷ xs) all = drop_keeps P n xs all.1

both_keep : {X : Type 0} (P Q : X → Type 0) (xs : List X) → AllByRecursion P xs → AllByRecursion Q xs → AllByRecursion (λ x. P x × Q x) xs
both_keep P Q [] a b = tt
both_keep P Q (x ∷ xs) a b = ((a.0, b.0), both_keep P Q xs a.1 b.1)

abbrev MayStand : List ℕ → Type 0
MayStand line = IsTrue (is_of_node line) → AddsUp line

abbrev IsFine : List ℕ → Type 0
IsFine line = Lacks 10 line × MayStand line

never : {A : Type 0} → false ≡ true → A
never {A} h = absurd (contradicts h)
  where
    contradicts : false ≡ true → ⊥
    contradicts h = cc

number_lacks : (words : List ℕ) (n : ℕ) → Lacks 10 words → Lacks 10 (words ++ decimal n)
number_lacks words n all = all_joined (λ b. eqb b 10 ≡ false) words (decimal n) all (Lacks-decimal 10 (omega arith) n)

gen_fine : (packets : ℕ) → IsFine (gen_line packets)
gen_fine packets = (number_lacks (codes "csp-gen ") packets (plain (codes "csp-gen ") refl), λ is. never is)

took_fine : (lines : List (List ℕ)) → IsFine (took_line lines)
took_fine lines = (number_lacks (codes "took ") (count_by (begins (codes "took ")) lines) (plain (codes "took ") refl), λ is. never is)

fine_lines : (packets : ℕ) (lines : List (List ℕ)) → AllByRecursion IsFine lines → AllByRecursion IsFine (summary_lines packets lines)
unfolding summary_lines
fine_lines packets lines all =
    let es : List (List ℕ) = filter (begins (codes "end ")) lines in
    let ns : List (List ℕ) = filter (begins (codes "node ")) lines in
    all_joined IsFine ((gen_line packets ∷ []) ++ es ++ ns ++ (took_line lines ∷ [])) (last_two lines)
    (all_joined IsFine ((gen_line packets ∷ []) ++ es ++ ns) (took_line lines ∷ [])
    (all_joined IsFine ((gen_line packets ∷ []) ++ es) ns
    (all_joined IsFine (gen_line packets ∷ []) es (gen_fine packets, tt) (filter_keeps IsFine (begins (codes "end ")) lines all))
    (filter_keeps IsFine (begins (codes "node ")) lines all))
    (took_fine lines, tt))
    (drop_keeps IsFine (length lines - 2) lines all)

-- lines as those of one word each
abbrev one_word : List ℕ → Line
one_word line = line ∷ []

as_words : (lines : List (List ℕ)) → joined lines ≡ text_of (map one_word lines)
as_words [] = refl
as_words (line ∷ lines) = ap (λ (t : List ℕ). (line ++ 10 ∷ []) ++ t) (as_words lines)

worded : (lines : List (List ℕ)) → AllByRecursion IsFine lines → AllByRecursion (λ words. IsFine (join_with_byte 32 words)) (map one_word lines)
worded [] all = tt
worded (line ∷ lines) all = (all.0, worded lines all.1)

-- the summary of a report whose lines add up is such a text
pub summary_adds_up : (packets : ℕ) (report : List ℕ) → PlacesAddUp report → PlacesAddUp (summary packets report)
unfolding summary
summary_adds_up packets report adds =
    let fine = fine_lines packets (lines_of report) (both_keep (Lacks 10) MayStand (lines_of report) (lines_lack report) (lines_keep MayStand report adds)) in
    subst PlacesAddUp (sym (as_words (summary_lines packets (lines_of report)))) (split_lines MayStand (λ is. never is) (map one_word (summary_lines packets (lines_of report))) (worded (summary_lines packets (lines_of report)) fine))
