-- How texts that were joined are cut again.
use Rattle.std.proofs.Common.{◌≡◌, ℕ, sym, ap, ◌∙◌, refl, arith, cond, List, [], ◌∷◌, ◌++◌, length, true, false, not, ◌&&◌, ◌==◌}
use mathlib.Core.List.{append_assoc}
use Rattle.std.specs.List.{All, list_all, slice_split}
use Rattle.std.proofs.lemmas.Bool.Decides.{nat_tests}
use Rattle.std.proofs.lemmas.List.{append-nil}
use Rattle.std.proofs.lemmas.List.Splits.{slice_split_at, slice_split_none}
use Rattle.std.proofs.lemmas.List.Elements.{All-nil, All-cons, All-head, All-tail, All-append}
use Rattle.csp_route.specs.Parts.{Part, filled}
use Rattle.csp_route.specs.Written.{joined}
use Rattle.csp_route.proofs.Numerals.{Free}

-- the first part, where a separator follows it
pub split_first : (c : ℕ) (xs ys : List ℕ) → Free c xs → slice_split (λ b. b == c) (xs ++ c ∷ ys) ≡ xs ∷ slice_split (λ b. b == c) ys
split_first c xs ys free = slice_split_at (λ b. b == c) xs c ys free (same c)
  where
    same : (n : ℕ) → (n == n) ≡ true
    same n = grind (arith, nat_tests)

pub split_only : (c : ℕ) (xs : List ℕ) → Free c xs → slice_split (λ b. b == c) xs ≡ xs ∷ []
split_only c xs free = slice_split_none (λ b. b == c) xs free

-- the parts that texts make: the first after `gap`, and each other after a space
abbrev pub cut : List ℕ → List (List ℕ) → List (List ℕ)
cut gap [] = []
cut gap (text ∷ texts) = (gap ++ text) ∷ cut (32 ∷ []) texts

-- texts that are joined by commas and spaces are cut at the commas
pub split_joined : (gap text : List ℕ) (texts : List (List ℕ)) → Free 44 gap → All (Free 44) (text ∷ texts) → slice_split (λ b. b == 44) (joined gap (text ∷ texts)) ≡ cut gap (text ∷ texts)
split_joined gap text [] free all =
    ap (slice_split (λ b. b == 44)) (ap (λ t. gap ++ t) (append-nil text))
    ∙ split_only 44 (gap ++ text) (All-append (λ b. (b == 44) ≡ false) gap text free (All-head (Free 44) text [] all))
split_joined gap text (next ∷ texts) free all =
    ap (slice_split (λ b. b == 44)) (sym (append_assoc gap text (44 ∷ joined (32 ∷ []) (next ∷ texts))))
    ∙ split_first 44 (gap ++ text) (joined (32 ∷ []) (next ∷ texts)) (All-append (λ b. (b == 44) ≡ false) gap text free (All-head (Free 44) text (next ∷ texts) all))
    ∙ ap (λ parts. (gap ++ text) ∷ parts) (split_joined (32 ∷ []) next texts space (All-tail (Free 44) text (next ∷ texts) all))
  where
    space : Free 44 (32 ∷ [])
    space = All-cons (λ b. (b == 44) ≡ false) 32 [] refl (All-nil (λ b. (b == 44) ≡ false))

-- a part with a byte is a word, and one without is none
pub filled_word : (at : ℕ) (bytes : List ℕ) (parts : List Part) → (length bytes == 0) ≡ false → filled (record { at = at; bytes = bytes } ∷ parts) ≡ record { at = at; bytes = bytes } ∷ filled parts
filled_word at bytes parts e = ap (λ b. cond (not b) (record { at = at; bytes = bytes } ∷ filled parts) (filled parts)) e

-- a text with a byte in front has one
pub longer : (xs ys : List ℕ) → (length xs == 0) ≡ false → (length (xs ++ ys) == 0) ≡ false
longer [] ys e = absurd (cc)
longer (x ∷ xs) ys e = grind (arith, nat_tests)

-- a text that begins with other bytes than spaces is not blank
pub not_blank : (xs ys : List ℕ) → list_all (λ byte. byte == 32) xs ≡ false → list_all (λ byte. byte == 32) (xs ++ ys) ≡ false
not_blank [] ys e = absurd (cc)
not_blank (x ∷ xs) ys e =
    elim (x == 32) as (λ t. (x == 32) ≡ t → (t && list_all (λ byte. byte == 32) xs) ≡ false → (t && list_all (λ byte. byte == 32) (xs ++ ys)) ≡ false) [
      | true ↦ λ _ h. not_blank xs ys h
      | false ↦ λ _ _. refl
    ] refl e

pub begins : (xs : List ℕ) → Free 32 xs → (length xs == 0) ≡ false → list_all (λ byte. byte == 32) xs ≡ false
begins [] free e = absurd (cc)
begins (x ∷ xs) free e = ap (λ t. t && list_all (λ byte. byte == 32) xs) (All-head (λ b. (b == 32) ≡ false) x xs free)
