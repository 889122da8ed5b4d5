-- A text of lines of words, cut into lines and words again: what each line gives.
use Rattle.std.proofs.Common.{◌≡◌, ℕ, zero, suc, ◌+◌, ◌-◌, ◌<◌, ◌/◌, ◌%◌, Bool, true, false, cond, ◌&&◌, eqb, ltb, List, [], ◌∷◌, ◌++◌, length, take, get_or, map, flat_map, refl, sym, ap, ◌∙◌, append_assoc, append-nil, length-append, arith}
use Rattle.std.specs.List.{AllByRecursion, slice_split, onto_first, join_with_byte, list_all}
use Rattle.std.specs.Fmt.{decimal, digits, digits_onto, digit_glyph}
use Rattle.std.proofs.Math.Seq.{get_or-append_seam, take-append_seam}
use Rattle.std.proofs.lemmas.Bool.{eqb-true, ltb-true}
use Rattle.std.proofs.lemmas.List.Splits.{slice_split-cons_no, slice_split-cons_yes, length-slice_split}
use Rattle.csp_text.specs.Cut.{lines_of, without_line_feed}
use Rattle.csp_text.specs.Names.{is_name_byte, is_name}
use Rattle.csp_report.specs.Lines.{Line, text_of}

-- ---- lists cut at a byte

-- the parts of a list that these bytes separate
abbrev pub cut : ℕ → List ℕ → List (List ℕ)
cut c bytes = slice_split (λ b. eqb b c) bytes

onto_front : {X : Type 0} (x : X) (parts more : List (List X)) → 0 < length parts → onto_first x (parts ++ more) ≡ onto_first x parts ++ more
onto_front x [] more some = absurd (omega (arith, some))
onto_front x (part ∷ parts) more some = refl

-- where a list has the byte, it is cut there
cut_seam : (c : ℕ) (front rest : List ℕ) → eqb c c ≡ true → cut c (front ++ c ∷ rest) ≡ cut c front ++ cut c rest
cut_seam c [] rest same = slice_split-cons_yes (λ b. eqb b c) c rest same
cut_seam c (x ∷ front) rest same = by_test (eqb x c) refl (cut_seam c front rest same)
  where
    by_test : (t : Bool) → eqb x c ≡ t → cut c (front ++ c ∷ rest) ≡ cut c front ++ cut c rest → cut c (x ∷ (front ++ c ∷ rest)) ≡ cut c (x ∷ front) ++ cut c rest
    by_test true e later =
        slice_split-cons_yes (λ b. eqb b c) x (front ++ c ∷ rest) e ∙ ap (λ (parts : List (List ℕ)). [] ∷ parts) later
        ∙ sym (ap (λ (parts : List (List ℕ)). parts ++ cut c rest) (slice_split-cons_yes (λ b. eqb b c) x front e))
    by_test false e later =
        slice_split-cons_no (λ b. eqb b c) x (front ++ c ∷ rest) e ∙ ap (onto_first x) later
        ∙ onto_front x (cut c front) (cut c rest) (omega (arith, length-slice_split (λ b. eqb b c) front))
        ∙ sym (ap (λ (parts : List (List ℕ)). parts ++ cut c rest) (slice_split-cons_no (λ b. eqb b c) x front e))

cut_joined : (c : ℕ) → eqb c c ≡ true → (part : List ℕ) (parts : List (List ℕ)) → cut c (join_with_byte c (part ∷ parts)) ≡ flat_map (cut c) (part ∷ parts)
cut_joined c same part [] = sym (append-nil (cut c part))
cut_joined c same part (next ∷ parts) = cut_seam c part (join_with_byte c (next ∷ parts)) same ∙ ap (λ (more : List (List ℕ)). cut c part ++ more) (cut_joined c same next parts)

-- no byte is c
abbrev pub Lacks : ℕ → List ℕ → Type 0
Lacks c bytes = AllByRecursion (λ b. eqb b c ≡ false) bytes

-- without the byte it is the one part
pub cut_none : (c : ℕ) (bytes : List ℕ) → Lacks c bytes → cut c bytes ≡ bytes ∷ []
cut_none c [] lacks = refl
cut_none c (x ∷ bytes) lacks = slice_split-cons_no (λ b. eqb b c) x bytes lacks.0 ∙ ap (onto_first x) (cut_none c bytes lacks.1)

-- and parts without it are those that it joins
pub cut_parts : (c : ℕ) → eqb c c ≡ true → (part : List ℕ) (parts : List (List ℕ)) → AllByRecursion (Lacks c) (part ∷ parts) → cut c (join_with_byte c (part ∷ parts)) ≡ part ∷ parts
cut_parts c same part [] all = cut_none c part all.0
cut_parts c same part (next ∷ parts) all =
    cut_seam c part (join_with_byte c (next ∷ parts)) same ∙ ap (λ (ps : List (List ℕ)). ps ++ cut c (join_with_byte c (next ∷ parts))) (cut_none c part all.0)
    ∙ ap (λ (more : List (List ℕ)). part ∷ more) (cut_parts c same next parts all.1)

-- ---- the lines of a text of lines

without_end : (t : List ℕ) → without_line_feed (t ++ 10 ∷ []) ≡ t
without_end t =
    let count : length (t ++ 10 ∷ []) - 1 ≡ length t = omega (arith, length-append t (10 ∷ [])) in
    ap (λ k. cond (eqb (get_or (t ++ 10 ∷ []) k 0) 10) (take k (t ++ 10 ∷ [])) (t ++ 10 ∷ [])) count
    ∙ ap (λ b. cond (eqb b 10) (take (length t) (t ++ 10 ∷ [])) (t ++ 10 ∷ [])) (get_or-append_seam t 10 [] 0)
    ∙ take-append_seam t (10 ∷ [])

not_eqb : (a c : ℕ) → c < a → eqb a c ≡ false
not_eqb a c h = by_test (eqb a c) refl
  where
    by_test : (t : Bool) → eqb a c ≡ t → t ≡ false
    by_test true e = absurd (omega (arith, h, eqb-true a c e))
    by_test false e = refl

lines_end : (t : List ℕ) → lines_of (t ++ 10 ∷ []) ≡ cut 10 t
lines_end t =
    let some : eqb (length (t ++ 10 ∷ [])) 0 ≡ false = not_eqb (length (t ++ 10 ∷ [])) 0 (omega (arith, length-append t (10 ∷ []))) in
    ap (λ u. cond u [] (cut 10 (without_line_feed (t ++ 10 ∷ [])))) some ∙ ap (cut 10) (without_end t)

-- a line's words with a space between each two
abbrev pub joined_words : Line → List ℕ
joined_words words = join_with_byte 32 words

ends : (line : Line) (lines : List Line) → text_of (line ∷ lines) ≡ join_with_byte 10 (map joined_words (line ∷ lines)) ++ 10 ∷ []
ends line [] = append-nil (joined_words line ++ 10 ∷ [])
ends line (next ∷ lines) =
    ap (λ (t : List ℕ). (joined_words line ++ 10 ∷ []) ++ t) (ends next lines) ∙ regroup (joined_words line) (join_with_byte 10 (map joined_words (next ∷ lines)))
  where
    regroup : (a b : List ℕ) → (a ++ 10 ∷ []) ++ (b ++ 10 ∷ []) ≡ (a ++ 10 ∷ b) ++ 10 ∷ []
    regroup a b = simp append_assoc

cut_each : (lines : List Line) → flat_map (cut 10) (map joined_words lines) ≡ flat_map (λ words. cut 10 (joined_words words)) lines
cut_each [] = refl
cut_each (line ∷ lines) = ap (λ (more : List (List ℕ)). cut 10 (joined_words line) ++ more) (cut_each lines)

-- a text's lines are what its line feeds make of each
pub lines_back : (lines : List Line) → lines_of (text_of lines) ≡ flat_map (λ words. cut 10 (joined_words words)) lines
lines_back [] = refl
lines_back (line ∷ lines) =
    ap lines_of (ends line lines) ∙ lines_end (join_with_byte 10 (map joined_words (line ∷ lines))) ∙ cut_joined 10 refl (joined_words line) (map joined_words lines) ∙ cut_each (line ∷ lines)

-- ---- words that have neither spaces nor line feeds

both : (a b : Bool) → (a && b) ≡ true → (a ≡ true) × (b ≡ true)
both true true e = (refl, refl)
both true false e = cc
both false b e = cc

lacks_more : (c : ℕ) (xs ys : List ℕ) → Lacks c xs → Lacks c ys → Lacks c (xs ++ ys)
lacks_more c [] ys a b = b
lacks_more c (x ∷ xs) ys a b = (a.0, lacks_more c xs ys a.1 b)

-- words without a byte that is no space, joined
pub lacks_joined : (c : ℕ) → eqb 32 c ≡ false → (words : Line) → AllByRecursion (Lacks c) words → Lacks c (joined_words words)
lacks_joined c space [] all = tt
lacks_joined c space (x ∷ []) all = all.0
lacks_joined c space (x ∷ y ∷ xs) all = lacks_more c x (32 ∷ joined_words (y ∷ xs)) all.0 (space, lacks_joined c space (y ∷ xs) all.1)

-- a byte that is below the digits, and so in no number, no name and no fixed word
pub record IsBelow (c : ℕ) : Type 0 where
  pub low : c < 48
  pub unnamed : is_name_byte c ≡ false

module _ (c : ℕ) (below : IsBelow c) where
  -- bytes that are all above it lack it, by looking
  pub fixed_lacks : (bytes : List ℕ) → list_all (λ b. ltb 47 b) bytes ≡ true → Lacks c bytes
  fixed_lacks [] all = tt
  fixed_lacks (b ∷ bytes) all =
      let parts : (ltb 47 b ≡ true) × (list_all (λ a. ltb 47 a) bytes ≡ true) = both (ltb 47 b) (list_all (λ a. ltb 47 a) bytes) all in
      (not_eqb b c (omega (arith, below.low, ltb-true 47 b parts.0)), fixed_lacks bytes parts.1)

  glyph_lacks : (d : ℕ) → eqb (digit_glyph false d) c ≡ false
  glyph_lacks d = elim (ltb d 10) as (λ t. eqb (cond t (48 + d) (87 + d)) c ≡ false) [ true ↦ not_eqb (48 + d) c (omega (arith, below.low)) | false ↦ not_eqb (87 + d) c (omega (arith, below.low)) ]

  digits_lack : (k n : ℕ) (acc : List ℕ) → Lacks c acc → Lacks c (digits_onto k 10 false n acc)
  digits_lack zero n acc a = a
  digits_lack (suc k) n acc a =
      let more : List ℕ = digit_glyph false (n % 10) ∷ acc in
      let here : Lacks c more = (glyph_lacks (n % 10), a) in
      elim (eqb (n / 10) 0) as (λ t. Lacks c (cond t more (digits_onto k 10 false (n / 10) more))) [ true ↦ here | false ↦ digits_lack k (n / 10) more here ]

  -- so does a number
  pub number_lacks : (n : ℕ) → Lacks c (decimal n)
  unfolding digits
  number_lacks n = let at : (k : ℕ) → Lacks c (digits_onto k 10 false n []) = λ k. digits_lack k n [] tt in at 64

  not_that : (b : ℕ) → is_name_byte b ≡ true → (t : Bool) → eqb b c ≡ t → t ≡ false
  not_that b stands true e = let same : is_name_byte b ≡ is_name_byte c = ap is_name_byte (eqb-true b c e) in let never : is_name_byte c ≡ false = below.unnamed in cc
  not_that b stands false e = refl

  bytes_lack : (name : List ℕ) → list_all is_name_byte name ≡ true → Lacks c name
  bytes_lack [] all = tt
  bytes_lack (b ∷ bs) all =
      let parts : (is_name_byte b ≡ true) × (list_all is_name_byte bs ≡ true) = both (is_name_byte b) (list_all is_name_byte bs) all in
      (not_that b parts.0 (eqb b c) refl, bytes_lack bs parts.1)

  -- and a name
  pub name_lacks : (name : List ℕ) → is_name name ≡ true → Lacks c name
  name_lacks name is = bytes_lack name (both _ (list_all is_name_byte name) is).1
