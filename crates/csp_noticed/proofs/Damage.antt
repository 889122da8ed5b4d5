-- A message and its CRC, of which one bit was turned over.
use Rattle.std.proofs.Common.{◌≡◌, ◌≢◌, ℕ, zero, suc, ◌+◌, ◌-◌, ◌*◌, ◌/◌, ◌%◌, ◌^◌, ◌<◌, ◌≤◌, List, true, ◌++◌, append_assoc, length-append, length, get_or, take, drop, inl, inr, refl, ap, sym, ◌∙◌, arith, bit_xor}
use Rattle.std.proofs.lemmas.Bool.{cases_lt, cases_eq}
use Rattle.std.proofs.lemmas.List.{get_or-set_same, get_or-set_other, set-append_left, set-append_right, get_or_append_left, get_or-append_right, get_or_past, get_or-take, length-set, length-take, length-drop, take-append-drop}
use Rattle.std.proofs.lemmas.Nat.{be_bytes_4, from_be_bytes-to_be_bytes_4, xor_lt}
use Rattle.std.proofs.Math.Seq.{set_out}
use Rattle.std.specs.Int.{w32, to_be_bytes, from_be_bytes}
use Rattle.csp_crc.specs.Crc.{crc_of, checked}
use Rattle.csp_crc.proofs.Public.{crc_of-lt}
use Rattle.csp_kiss.specs.declared.event.KissEvent.TheVariants.{BadCrc}
use Rattle.csp_kiss.specs.Stream.{judged}
use Rattle.csp_kiss.proofs.Public.{judged-joined, compared-wrong}
use Rattle.csp_noticed.specs.Flipping.{flipped}
use Rattle.csp_noticed.proofs.Flipping.{top_down, crc-flipped}

pub length-flipped : (bit : ℕ) (bytes : List ℕ) → length (flipped bit bytes) ≡ length bytes
length-flipped bit bytes = length-set bytes (bit / 8) _

-- with a bit of it turned over a list is another one
flipped-other : (bit : ℕ) (bytes : List ℕ) → bit < 8 * length bytes → flipped bit bytes ≢ bytes
flipped-other bit bytes there e = crc-flipped bit bytes there (ap crc_of (sym e))

-- ---- in one of two lists

pub flipped-first : (bit : ℕ) (xs ys : List ℕ) → bit < 8 * length xs → flipped bit (xs ++ ys) ≡ flipped bit xs ++ ys
flipped-first bit xs ys h =
    let there : bit / 8 < length xs = omega arith in
    rw (get_or_append_left xs ys 0 (bit / 8) there) (set-append_left xs ys (bit / 8) _ there)

pub flipped-second : (bit : ℕ) (xs ys : List ℕ) → 8 * length xs ≤ bit → flipped bit (xs ++ ys) ≡ xs ++ flipped (bit - 8 * length xs) ys
flipped-second bit xs ys h =
    let after : length xs ≤ bit / 8 = omega arith in
    let place : (bit - 8 * length xs) / 8 ≡ bit / 8 - length xs = omega arith in
    let in_byte : (bit - 8 * length xs) % 8 ≡ bit % 8 = omega arith in
    rw (place, in_byte, get_or-append_right xs ys (length xs) (bit / 8) 0 refl after) (set-append_right xs ys (length xs) (bit / 8) _ refl after)

-- ---- bytes stay bytes

-- the first of some numbers are bytes
abbrev pub AreBytes : ℕ → List ℕ → Type 0
AreBytes k bytes = (i : ℕ) → i < k → get_or bytes i 0 < 2 ^ 8

bytes-flipped : (k bit : ℕ) (bytes : List ℕ) → AreBytes k bytes → AreBytes k (flipped bit bytes)
bytes-flipped k bit bytes small i below =
    let place : ℕ = bit / 8 in
    let down = top_down (bit % 8) (omega arith) in
    let mask : 128 / 2 ^ (bit % 8) < 2 ^ 8 = rw down.0 down.1 in
    let byte : ℕ = bit_xor (get_or bytes place 0) (128 / 2 ^ (bit % 8)) in
    elim (cases_eq i place) [
      | inl same ↦ elim (cases_lt place (length bytes)) [
        | inl there ↦ rw (same, get_or-set_same bytes place byte 0 there) (xor_lt 8 (get_or bytes place 0) (128 / 2 ^ (bit % 8)) (small place (omega arith)) mask)
        | inr past ↦ rw (set_out bytes place byte past) (small i below)
      ]
      | inr other ↦ rw (get_or-set_other bytes place i byte 0 other) (small i below)
    ]

-- all of those that there are
all-bytes : (k : ℕ) (bytes : List ℕ) → length bytes ≡ k → AreBytes k bytes → (i : ℕ) → get_or bytes i 0 < 256
all-bytes k bytes long small i =
    elim (cases_lt i k) [
      | inl below ↦ small i below
      | inr past ↦ rw (get_or_past bytes i 0 (omega arith)) (omega arith)
    ]

pub word-bytes : (n i : ℕ) → get_or (to_be_bytes w32 n) i 0 < 2 ^ 8
word-bytes n zero = omega arith
word-bytes n (suc zero) = omega arith
word-bytes n (suc (suc zero)) = omega arith
word-bytes n (suc (suc (suc zero))) = omega arith
word-bytes n (suc (suc (suc (suc i)))) = omega arith

-- ---- a message and its CRC

-- bytes that are not a message and its CRC: the last four are not the CRC of those before
pub record Refused (bytes front last : List ℕ) : Type 0 where
  pub parts : bytes ≡ front ++ last
  pub four : length last ≡ 4
  pub differ : from_be_bytes w32 last ≢ crc_of front

-- where a bit of the message is turned over, and where one of the CRC is
in-message : (bit : ℕ) (message : List ℕ) → bit < 8 * length message → Refused (flipped bit (checked message)) (flipped bit message) (to_be_bytes w32 (crc_of message))
unfolding checked
in-message bit message h =
    let crc : ℕ = crc_of message in
    let found : from_be_bytes w32 (to_be_bytes w32 crc) ≡ crc = from_be_bytes-to_be_bytes_4 crc (crc_of-lt message) in
    record {
      parts = flipped-first bit message (to_be_bytes w32 crc) h;
      four = refl;
      differ = λ e. crc-flipped bit message h (sym found ∙ e);
    }

in-crc : (bit : ℕ) (message : List ℕ) → 8 * length message ≤ bit → bit < 8 * (length message + 4) → Refused (flipped bit (checked message)) message (flipped (bit - 8 * length message) (to_be_bytes w32 (crc_of message)))
unfolding checked
in-crc bit message h g =
    let last : List ℕ = to_be_bytes w32 (crc_of message) in
    let here : ℕ = bit - 8 * length message in
    let changed : List ℕ = flipped here last in
    let four : length changed ≡ 4 = length-flipped here last in
    let small : AreBytes 4 changed = bytes-flipped 4 here last (λ i below. word-bytes (crc_of message) i) in
    record {
      parts = flipped-second bit message last h;
      four = four;
      differ = λ e. flipped-other here last (omega arith) (sym (be_bytes_4 changed (crc_of message) four (all-bytes 4 changed four small) (sym e)));
    }

-- on a link that covers the header such bytes are judged to have a wrong CRC, where there are enough for a header and not too many
judged-refused : (mtu : ℕ) (bytes front last : List ℕ) → Refused bytes front last → 4 ≤ length front → length front ≤ mtu + 4 → AreBytes 4 front →
    judged true mtu bytes ≡ BadCrc (from_be_bytes w32 last) (crc_of front)
judged-refused mtu bytes front last r some most small =
    let head : List ℕ = take 4 front in
    let payload : List ℕ = drop 4 front in
    let whole : head ++ payload ≡ front = take-append-drop 4 front in
    let four : length head ≡ 4 = length-take 4 front ∙ omega arith in
    let fits : length payload ≤ mtu = omega (arith, length-drop 4 front) in
    let bytes_of_head : AreBytes 4 head = λ i below. rw (get_or-take 4 front i 0 below) (small i below) in
    let word : to_be_bytes w32 (from_be_bytes w32 head) ≡ head = be_bytes_4 head (from_be_bytes w32 head) four (all-bytes 4 head four bytes_of_head) refl in
    let all : to_be_bytes w32 (from_be_bytes w32 head) ++ payload ≡ front = ap (λ first. first ++ payload) word ∙ whole in
    let parts : bytes ≡ head ++ (payload ++ last) = r.parts ∙ ap (λ first. first ++ last) (sym whole) ∙ append_assoc head payload last in
    ap (judged true mtu) parts ∙ judged-joined true mtu head payload last four r.four fits
    ∙ compared-wrong true (from_be_bytes w32 head) payload (from_be_bytes w32 last) (λ e. r.differ (e ∙ ap crc_of all))
    ∙ ap (λ bs. BadCrc (from_be_bytes w32 last) (crc_of bs)) all

-- a wrong CRC, whatever it is
abbrev pub IsNoticed : (mtu : ℕ) → List ℕ → Type 0
IsNoticed mtu bytes = (found wanted : ℕ) × (found ≢ wanted) × (judged true mtu bytes ≡ BadCrc found wanted)

noticed-where : (mtu : ℕ) (bytes front last : List ℕ) → Refused bytes front last → 4 ≤ length front → length front ≤ mtu + 4 → AreBytes 4 front → IsNoticed mtu bytes
noticed-where mtu bytes front last r some most small = (from_be_bytes w32 last, crc_of front, r.differ, judged-refused mtu bytes front last r some most small)

pub noticed : (mtu bit : ℕ) (message : List ℕ) → 4 ≤ length message → length message ≤ mtu + 4 → AreBytes 4 message → bit < 8 * length (checked message) → IsNoticed mtu (flipped bit (checked message))
unfolding checked
noticed mtu bit message some most small there =
    let long : length (checked message) ≡ length message + 4 = length-append message (to_be_bytes w32 (crc_of message)) in
    let all : List ℕ = flipped bit (checked message) in
    elim (cases_lt bit (8 * length message)) [
      | inl before ↦
          let same : length (flipped bit message) ≡ length message = length-flipped bit message in
          noticed-where mtu all (flipped bit message) (to_be_bytes w32 (crc_of message)) (in-message bit message before) (omega arith) (omega arith) (bytes-flipped 4 bit message small)
      | inr after ↦ noticed-where mtu all message (flipped (bit - 8 * length message) (to_be_bytes w32 (crc_of message))) (in-crc bit message after (omega arith)) some most small
    ]
