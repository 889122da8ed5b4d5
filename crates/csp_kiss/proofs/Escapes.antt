-- Escapes, when one more byte comes, and undone after they were made.
use Rattle.std.proofs.Common.{◌≡◌, ℕ, Bool, true, false, cond, eqb, List, [], ◌∷◌, ◌++◌, refl, sym, ap, ◌∙◌, append_assoc, append-nil}
use Rattle.csp_kiss.specs.Stream.{meaning, undone}
use Rattle.csp_kiss.specs.Reading.{is_escaping}
use Rattle.csp_kiss.specs.declared.TheConstants.{FESC}

-- what one byte adds
abbrev pub adds : Bool → ℕ → List ℕ
adds false byte = cond (eqb byte FESC) [] (byte ∷ [])
adds true byte = meaning byte

abbrev pub escapes : Bool → ℕ → Bool
escapes false byte = eqb byte FESC
escapes true byte = false

pub is_escaping-push : (escaping : Bool) (bytes : List ℕ) (byte : ℕ) → is_escaping escaping (bytes ++ byte ∷ []) ≡ escapes (is_escaping escaping bytes) byte
unfolding is_escaping
is_escaping-push false [] byte = refl
is_escaping-push true [] byte = refl
is_escaping-push false (first ∷ bytes) byte = is_escaping-push (eqb first FESC) bytes byte
is_escaping-push true (first ∷ bytes) byte = is_escaping-push false bytes byte

pub undone-push : (escaping : Bool) (bytes : List ℕ) (byte : ℕ) → undone escaping (bytes ++ byte ∷ []) ≡ undone escaping bytes ++ adds (is_escaping escaping bytes) byte
unfolding undone is_escaping
undone-push false [] byte = elim (eqb byte FESC) as (λ b. cond b [] (byte ∷ []) ≡ cond b [] (byte ∷ [])) [ true ↦ refl | false ↦ refl ]
undone-push true [] byte = append-nil (meaning byte)
undone-push false (first ∷ bytes) byte =
    elim (eqb first FESC) as (λ b. cond b (undone true (bytes ++ byte ∷ [])) (first ∷ undone false (bytes ++ byte ∷ [])) ≡ cond b (undone true bytes) (first ∷ undone false bytes) ++ adds (is_escaping b bytes) byte)
    [ true ↦ undone-push true bytes byte | false ↦ ap (λ rest. first ∷ rest) (undone-push false bytes byte) ]
undone-push true (first ∷ bytes) byte =
    ap (λ rest. meaning first ++ rest) (undone-push false bytes byte) ∙ sym (append_assoc (meaning first) (undone false bytes) (adds (is_escaping false bytes) byte))
