-- bytes read as numbers are the bytes that the numbers are written as
use Rattle.std.proofs.Common.{◌≡◌, ℕ, ◌+◌, ◌*◌, ◌-◌, ◌/◌, ◌%◌, ◌<◌, List, [], ◌∷◌, ◌++◌, length, take, drop, get_or, arith, ap, ◌∙◌, refl}
use Rattle.std.specs.Int.{w16, to_be_bytes, from_be_bytes}
use Rattle.std.proofs.lemmas.List.{take-append-drop, length-drop, get_or-drop}

-- two bytes are those of the number that they are read as
pub pair_written : (x y n : ℕ) → x < 256 → y < 256 → n ≡ from_be_bytes w16 (x ∷ y ∷ []) → to_be_bytes w16 n ≡ x ∷ y ∷ []
pair_written x y n p q e =
    let sum : n ≡ 256 * x + y = omega arith in
    let high : n / 256 % 256 ≡ x = omega arith in
    let low : n % 256 ≡ y = omega arith in
    cc

-- a list of five elements
pub five : (bs : List ℕ) → length bs ≡ 5 → bs ≡ get_or bs 0 0 ∷ get_or bs 1 0 ∷ get_or bs 2 0 ∷ get_or bs 3 0 ∷ get_or bs 4 0 ∷ []
five (a ∷ b ∷ c ∷ d ∷ e ∷ []) h = refl
five [] h = absurd (omega arith)
five (a ∷ []) h = absurd (omega arith)
five (a ∷ b ∷ []) h = absurd (omega arith)
five (a ∷ b ∷ c ∷ []) h = absurd (omega arith)
five (a ∷ b ∷ c ∷ d ∷ []) h = absurd (omega arith)
five (a ∷ b ∷ c ∷ d ∷ e ∷ f ∷ bs) h = absurd (omega arith)

-- a payload is what stands before its last five bytes and the head that they are read as
pub head_written : (payload before bytes : List ℕ) (seq ack : ℕ) → before ≡ take (length payload - 5) payload →
    bytes ≡ drop (length payload - 5) payload → length before + 5 ≡ length payload → ((i : ℕ) → get_or payload i 0 < 256) →
    seq ≡ from_be_bytes w16 (get_or bytes 1 0 ∷ get_or bytes 2 0 ∷ []) → ack ≡ from_be_bytes w16 (get_or bytes 3 0 ∷ get_or bytes 4 0 ∷ []) →
    payload ≡ before ++ (get_or bytes 0 0 ∷ to_be_bytes w16 seq ++ to_be_bytes w16 ack)
head_written payload before bytes seq ack front back sum small s a =
    let whole : take (length payload - 5) payload ++ drop (length payload - 5) payload ≡ payload = take-append-drop (length payload - 5) payload in
    let are_five : length bytes ≡ 5 = ap length back ∙ length-drop (length payload - 5) payload ∙ omega arith in
    let small_last : (i : ℕ) → get_or bytes i 0 < 256 = λ i. rw (back, get_or-drop) (small (length payload - 5 + i)) in
    let seq_is : to_be_bytes w16 seq ≡ get_or bytes 1 0 ∷ get_or bytes 2 0 ∷ [] = pair_written _ _ seq (small_last 1) (small_last 2) s in
    let ack_is : to_be_bytes w16 ack ≡ get_or bytes 3 0 ∷ get_or bytes 4 0 ∷ [] = pair_written _ _ ack (small_last 3) (small_last 4) a in
    let last = five bytes are_five in
    cc
