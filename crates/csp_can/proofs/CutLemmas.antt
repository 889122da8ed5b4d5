use Rattle.std.proofs.Common.{◌≡◌, ℕ, zero, suc, ◌+◌, ◌-◌, ◌<◌, ◌≤◌, List, [], ◌∷◌, ◌++◌, Option, None, length, take, drop, map, refl, ap, ◌∙◌, sym, add-one, arith}
use Rattle.std.proofs.lemmas.List.{drop-drop, length-drop, length-take}
use native.Mathlib.Numerals.{unary_clauses}
use Rattle.csp_can.specs.declared.identifiers.Identifier.{Identifier}
use Rattle.std.specs.Option.{option_to_list}
use Rattle.csp_can.specs.declared.frames.CanFrame.{CanFrame}
use Rattle.csp_can.specs.Frames.{written}
use Rattle.csp_can.specs.Fragments.{more_frame, more_frames, frames_after, first_head, fragments_of}

-- dropping what `take` took is dropping
pub drop_taken : (n : ℕ) (xs : List ℕ) → drop (length (take n xs)) xs ≡ drop n xs
drop_taken zero xs = refl
drop_taken (suc n) [] = refl
drop_taken (suc n) (x ∷ xs) = drop_taken n xs

-- what comes after the bytes of one frame
pub drop_piece : (n given : ℕ) (payload : List ℕ) → drop (given + length (take n (drop given payload))) payload ≡ drop n (drop given payload)
drop_piece n given payload = sym (drop-drop (length (take n (drop given payload))) given payload) ∙ drop_taken n (drop given payload)

-- the first of the MORE frames that are left
pub more_frames-first : (head : Identifier) (left : ℕ) (rest : List ℕ) → 0 < left → more_frames head left rest ≡ more_frame head (left - 1) rest ∷ more_frames head (left - 1) (drop 8 rest)
more_frames-first head zero rest h = absurd (omega arith)
more_frames-first head (suc n) rest h = simp unary_clauses

-- one more frame given, of those still to come
pub to_come-next : (first first' : Option CanFrame) (head : Identifier) (left given given' : ℕ) (payload : List ℕ) (frame : CanFrame)
    → first ≡ None → first' ≡ None → 0 < left → frame ≡ written (more_frame head (left - 1) (drop given payload)) → given' ≡ given + length frame.bytes.items
    → option_to_list first ++ map written (more_frames head left (drop given payload)) ≡ frame ∷ (option_to_list first' ++ map written (more_frames head (left - 1) (drop given' payload)))
to_come-next first first' head left given given' payload frame e e' h made moved =
    let n : ℕ = 8 in
    let at : given' ≡ given + length (take 8 (drop given payload)) = moved ∙ ap (λ (f : CanFrame). given + length f.bytes.items) made in
    let later : drop given' payload ≡ drop 8 (drop given payload) = ap (λ (g : ℕ). drop g payload) at ∙ drop_piece 8 given payload in
    let front : option_to_list first ++ map written (more_frames head left (drop given payload)) ≡ map written (more_frames head left (drop given payload)) = ap (λ (o : Option CanFrame). option_to_list o ++ map written (more_frames head left (drop given payload))) e in
    let back : option_to_list first' ++ map written (more_frames head (left - 1) (drop given' payload)) ≡ map written (more_frames head (left - 1) (drop given' payload)) = ap (λ (o : Option CanFrame). option_to_list o ++ map written (more_frames head (left - 1) (drop given' payload))) e' in
    front ∙ ap (map written) (more_frames-first head left (drop given payload) h)
    ∙ (λ i. sym made i ∷ map written (more_frames head (left - 1) (sym later i)))
    ∙ ap (λ (fs : List CanFrame). frame ∷ fs) (sym back)

-- no frame carries more than what is left
pub piece_fits : (given : ℕ) (payload : List ℕ) (piece : List ℕ) → given ≤ length payload → piece ≡ take 8 (drop given payload) → given + length piece ≤ length payload
piece_fits given payload piece h e =
    let short : (n : ℕ) (xs : List ℕ) → length (take n xs) ≤ length xs = λ n xs. omega (arith, length-take n xs) in
    omega (arith, ap length e, short 8 (drop given payload), length-drop given payload)

-- what comes after the first is shorter
pub one_fewer : {A : Type 0} (old : List A) (x : A) (new : List A) → old ≡ x ∷ new → length new < length old
one_fewer old x new e = omega (arith, ap length e)

-- as many MORE frames as were asked for
pub more_frames-length : (head : Identifier) (left : ℕ) (rest : List ℕ) → length (map written (more_frames head left rest)) ≡ left
more_frames-length head zero rest = refl
more_frames-length head (suc n) rest = ap suc (more_frames-length head n (drop 8 rest))

-- a packet's frames are the first and those after it
pub fragments_length : (header : ℕ) (payload : List ℕ) (dest id : ℕ) → length (map written (fragments_of header payload dest id)) ≡ frames_after (length payload) + 1
fragments_length header payload dest id =
    ap suc (more_frames-length (first_head header payload dest id) (frames_after (length payload)) (drop 2 payload)) ∙ sym (add-one (frames_after (length payload)))
