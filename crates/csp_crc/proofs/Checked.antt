-- A payload and its CRC, from the bytes that they stand in.
use Rattle.std.proofs.Common.{◌≡◌, ℕ, ◌+◌, ◌-◌, ◌<◌, ◌≤◌, List, ◌++◌, length, take, drop, get_or, arith, ap, sym, ◌∙◌, refl, Some, None, ◌≢◌}
use Rattle.std.specs.Int.{w32, to_be_bytes, from_be_bytes}
use Rattle.std.proofs.lemmas.Nat.{be_bytes_4}
use Rattle.std.proofs.lemmas.List.{take-append-drop, length-drop, get_or-drop}
use Rattle.std.proofs.lemmas.Bool.{lt-ltb, le-ltb, eq-eqb, ne_eqb}
use Rattle.csp_crc.specs.Check.{payload_of}
use Rattle.csp_crc.specs.Crc.{crc_of, checked}

pub checked-parts : (bytes payload last : List ℕ) (found : ℕ) → length payload + 4 ≡ length bytes →
    payload ≡ take (length bytes - 4) bytes → last ≡ drop (length bytes - 4) bytes → ((i : ℕ) → get_or bytes i 0 < 256) →
    found ≡ from_be_bytes w32 last → found ≡ crc_of payload → bytes ≡ checked payload
unfolding checked
checked-parts bytes payload last found sum front back small reads same =
    let whole : take (length bytes - 4) bytes ++ drop (length bytes - 4) bytes ≡ bytes = take-append-drop (length bytes - 4) bytes in
    let four : length last ≡ 4 = ap length back ∙ length-drop (length bytes - 4) bytes ∙ omega arith in
    let small_last : (i : ℕ) → get_or last i 0 < 256 = λ i. rw (back, get_or-drop) (small (length bytes - 4 + i)) in
    let written : to_be_bytes w32 found ≡ last = be_bytes_4 last found four small_last reads in
    let crc : to_be_bytes w32 (crc_of payload) ≡ last = ap (λ n. to_be_bytes w32 n) (sym same) ∙ written in
    rw crc (rw (front, back) (sym whole))

-- ---- the same by a test

pub payload_of-short : (bytes : List ℕ) → length bytes < 4 → payload_of bytes ≡ None
unfolding payload_of
payload_of-short bytes h = rw (lt-ltb (length bytes) 4 h) refl

pub payload_of-right : (bytes payload last : List ℕ) (found : ℕ) → 4 ≤ length bytes →
    payload ≡ take (length bytes - 4) bytes → last ≡ drop (length bytes - 4) bytes →
    found ≡ from_be_bytes w32 last → found ≡ crc_of payload → payload_of bytes ≡ Some payload
unfolding payload_of
payload_of-right bytes payload last found h front back reads same =
    let stands : from_be_bytes w32 (drop (length bytes - 4) bytes) ≡ found = ap (λ bs. from_be_bytes w32 bs) (sym back) ∙ sym reads in
    let belongs : crc_of (take (length bytes - 4) bytes) ≡ found = ap crc_of (sym front) ∙ sym same in
    rw (le-ltb (length bytes) 4 h, stands, belongs, eq-eqb found found refl, ← front) refl

pub payload_of-wrong : (bytes payload last : List ℕ) (found wanted : ℕ) → 4 ≤ length bytes →
    payload ≡ take (length bytes - 4) bytes → last ≡ drop (length bytes - 4) bytes →
    found ≡ from_be_bytes w32 last → wanted ≡ crc_of payload → found ≢ wanted → payload_of bytes ≡ None
unfolding payload_of
payload_of-wrong bytes payload last found wanted h front back reads is differ =
    let stands : from_be_bytes w32 (drop (length bytes - 4) bytes) ≡ found = ap (λ bs. from_be_bytes w32 bs) (sym back) ∙ sym reads in
    let belongs : crc_of (take (length bytes - 4) bytes) ≡ wanted = ap crc_of (sym front) ∙ sym is in
    rw (le-ltb (length bytes) 4 h, stands, belongs, ne_eqb found wanted differ) refl
