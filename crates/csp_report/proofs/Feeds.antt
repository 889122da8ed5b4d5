-- A text of lines without line feeds, cut at its line feeds, gives the lines back.
use Rattle.std.proofs.Common.{◌≡◌, ℕ, zero, suc, ◌+◌, ◌<◌, ◌/◌, ◌%◌, Bool, true, false, cond, ◌&&◌, not, eqb, ltb, List, [], ◌∷◌, ◌++◌, refl, sym, ap, subst, ◌∙◌, append_assoc, arith}
use Rattle.std.proofs.lemmas.Bool.{eqb-true}
use Rattle.std.proofs.lemmas.List.Splits.{slice_split-cons_no}
use Rattle.std.specs.List.{AllByRecursion, list_all, slice_split, onto_first, join_with_byte}
use Rattle.std.specs.Fmt.{digits, decimal, digits_onto, digit_glyph}
use Rattle.std.specs.Prelude.{slice_index}
use Rattle.hex.specs.Hex.{lower_digits, encode_with, encode_lower}
use Rattle.csp_text.specs.Names.{is_name_byte, is_name}
use Rattle.csp_report.specs.Lines.{Line, text_of}

-- no byte is c
abbrev pub Lacks : ℕ → List ℕ → Type 0
Lacks c bytes = AllByRecursion (λ b. eqb b c ≡ false) bytes

pub all_joined : {X : Type 0} (P : X → Type 0) (xs ys : List X) → AllByRecursion P xs → AllByRecursion P ys → AllByRecursion P (xs ++ ys)
all_joined P [] ys a b = b
all_joined P (x ∷ xs) ys a b = (a.0, all_joined P xs ys a.1 b)

pub Lacks-join : (c : ℕ) → eqb 32 c ≡ false → (words : Line) → AllByRecursion (Lacks c) words → Lacks c (join_with_byte 32 words)
Lacks-join c space [] all = tt
Lacks-join c space (x ∷ []) all = all.0
Lacks-join c space (x ∷ y ∷ xs) all = all_joined (λ b. eqb b c ≡ false) x (32 ∷ join_with_byte 32 (y ∷ xs)) all.0 (space, Lacks-join c space (y ∷ xs) all.1)

split_line : (line rest : List ℕ) → Lacks 10 line → slice_split (λ b. eqb b 10) (line ++ 10 ∷ rest) ≡ line ∷ slice_split (λ b. eqb b 10) rest
split_line [] rest h = refl
split_line (x ∷ xs) rest h = slice_split-cons_no (λ b. eqb b 10) x (xs ++ 10 ∷ rest) h.0 ∙ ap (onto_first x) (split_line xs rest h.1)

-- what holds of each line holds of each part
pub split_lines : (Q : List ℕ → Type 0) → Q [] → (lines : List Line) → AllByRecursion (λ words. Lacks 10 (join_with_byte 32 words) × Q (join_with_byte 32 words)) lines → AllByRecursion Q (slice_split (λ b. eqb b 10) (text_of lines))
split_lines Q last [] all = (last, tt)
split_lines Q last (words ∷ lines) all =
    let line = join_with_byte 32 words in
    let cut : slice_split (λ b. eqb b 10) ((line ++ 10 ∷ []) ++ text_of lines) ≡ line ∷ slice_split (λ b. eqb b 10) (text_of lines) = rw append_assoc (split_line line (text_of lines) all.0.0) in
    subst (λ (parts : List (List ℕ)). AllByRecursion Q parts) (sym cut) (all.0.1, split_lines Q last lines all.1)

pub not_eqb : (a c : ℕ) → c < a → eqb a c ≡ false
not_eqb a c h = by_test (eqb a c) refl
  where
    by_test : (t : Bool) → eqb a c ≡ t → t ≡ false
    by_test true e = absurd (omega (arith, eqb-true a c e))
    by_test false e = refl

Lacks-glyph : (c d : ℕ) → c < 48 → eqb (digit_glyph false d) c ≡ false
Lacks-glyph c d h = elim (ltb d 10) as (λ t. eqb (cond t (48 + d) (87 + d)) c ≡ false) [ true ↦ not_eqb (48 + d) c (omega arith) | false ↦ not_eqb (87 + d) c (omega arith) ]

Lacks-digits : (c : ℕ) → c < 48 → (k n : ℕ) (acc : List ℕ) → Lacks c acc → Lacks c (digits_onto k 10 false n acc)
Lacks-digits c h zero n acc a = a
Lacks-digits c h (suc k) n acc a =
    let more = digit_glyph false (n % 10) ∷ acc in
    let here : Lacks c more = (Lacks-glyph c (n % 10) h, a) in
    elim (eqb (n / 10) 0) as (λ t. Lacks c (cond t more (digits_onto k 10 false (n / 10) more))) [ true ↦ here | false ↦ Lacks-digits c h k (n / 10) more here ]

-- decimal digits are above every byte below 48
pub Lacks-decimal : (c : ℕ) → c < 48 → (n : ℕ) → Lacks c (decimal n)
unfolding digits
Lacks-decimal c h n =
    let at : (k : ℕ) → Lacks c (digits_onto k 10 false n []) = λ k. Lacks-digits c h k n [] tt in
    at 64

both : (a b : Bool) → (a && b) ≡ true → (a ≡ true) × (b ≡ true)
both true true e = (refl, refl)
both true false e = cc
both false b e = cc

not_that : (c b : ℕ) → is_name_byte c ≡ false → is_name_byte b ≡ true → (t : Bool) → eqb b c ≡ t → t ≡ false
not_that c b lacks stands true e = let same : is_name_byte b ≡ is_name_byte c = ap is_name_byte (eqb-true b c e) in cc
not_that c b lacks stands false e = refl

Lacks-name_bytes : (c : ℕ) → is_name_byte c ≡ false → (name : List ℕ) → list_all is_name_byte name ≡ true → Lacks c name
Lacks-name_bytes c lacks [] all = tt
Lacks-name_bytes c lacks (b ∷ bs) all =
    let parts = both (is_name_byte b) (list_all is_name_byte bs) all in
    (not_that c b lacks parts.0 (eqb b c) refl, Lacks-name_bytes c lacks bs parts.1)

-- a name has only letters, digits and `_`
pub Lacks-name : (c : ℕ) → is_name_byte c ≡ false → (name : List ℕ) → is_name name ≡ true → Lacks c name
Lacks-name c lacks name is = Lacks-name_bytes c lacks name (both _ (list_all is_name_byte name) is).1

-- a literal has no line feed, by looking
pub plain : (bytes : List ℕ) → list_all (λ b. not (eqb b 10)) bytes ≡ true → Lacks 10 bytes
plain [] all = tt
plain (b ∷ bytes) all = let parts = both (not (eqb b 10)) (list_all (λ b. not (eqb b 10)) bytes) all in (opposite (eqb b 10) parts.0, plain bytes parts.1)
  where
    opposite : (t : Bool) → not t ≡ true → t ≡ false
    opposite true e = cc
    opposite false e = refl

digit_lacks : (digits : List ℕ) → Lacks 10 digits → (i : ℕ) → eqb (slice_index digits i) 10 ≡ false
digit_lacks [] all i = refl
digit_lacks (d ∷ digits) all zero = all.0
digit_lacks (d ∷ digits) all (suc i) = digit_lacks digits all.1 i

-- hexadecimal digits have no line feed
pub Lacks-hex : (bytes : List ℕ) → Lacks 10 (encode_lower bytes)
unfolding encode_with
Lacks-hex [] = tt
Lacks-hex (b ∷ bytes) = (digit_lacks lower_digits (plain lower_digits refl) (b / 16), (digit_lacks lower_digits (plain lower_digits refl) (b % 16), Lacks-hex bytes))
