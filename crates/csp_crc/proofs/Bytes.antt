-- Bytes as a number, and how a register goes on to the bytes after them.
use Rattle.std.proofs.Common.{◌≡◌, ℕ, zero, suc, ◌+◌, ◌-◌, ◌*◌, ◌/◌, ◌%◌, ◌^◌, ◌<◌, ◌≤◌, List, [], ◌∷◌, ◌++◌, length, length-append, take, drop, get_or, drop-cons, add-one, ap, sym, ◌∙◌, refl, arith, bit_xor}
use Rattle.std.specs.Simd.{first_chunks}
use Rattle.std.specs.Int.{w128, byte_at, byte_worth, sum_through, bytes_low_first, to_le_bytes, from_le_bytes}
use Rattle.std.proofs.lemmas.List.{take_more, take-append-drop, length-drop, length-take, drop-drop}
use Rattle.std.proofs.lemmas.Grind.{flat_map-append}
use Rattle.std.proofs.lemmas.Nat.{mod-pow-add, shr-shr, xor_comm, pow-add, mod_below}
use Rattle.std.proofs.Math.Nat.{pow-suc}
use Rattle.std.proofs.Math.Seq.{take-length}
use Rattle.std.specs.Int.Bits.{xor_zero_r}
use lib.Bits.{xor_assoc, xor_shifted}
use Rattle.csp_crc.specs.Bits.{bits_of, number_of, message_bits}
use Rattle.csp_crc.specs.Register.{places, left_after, left_of_blocks, number_of_blocks, byte_remainder}
use Rattle.csp_crc.proofs.Numbers.{places-xor, places-add, places-shifted, places-split}
use Rattle.csp_crc.proofs.Division.{number_of-append, number_of-bits_of, number_of-lt, length-message_bits, remainder-byte}

-- ---- bytes as a number

message-append : (xs ys : List ℕ) → number_of (message_bits (xs ++ ys)) ≡ number_of (message_bits xs) + number_of (message_bits ys) * 2 ^ (8 * length xs)
unfolding message_bits
message-append xs ys = ap number_of (flat_map-append (bits_of 8) xs ys) ∙ number_of-append (message_bits xs) (message_bits ys) ∙ rw length-message_bits refl

message-single : (byte : ℕ) → byte < 256 → number_of (message_bits (byte ∷ [])) ≡ byte
unfolding message_bits number_of
message-single byte h =
    let none : number_of [] ≡ 0 = refl in
    number_of-append (bits_of 8 byte) [] ∙ rw (number_of-bits_of 8 byte h, none) (omega arith)

message-cons : (byte : ℕ) (bytes : List ℕ) → byte < 256 → number_of (message_bits (byte ∷ bytes)) ≡ byte + number_of (message_bits bytes) * 2 ^ 8
message-cons byte bytes h = message-append (byte ∷ []) bytes ∙ rw (message-single byte h) refl

message-lt : (bytes : List ℕ) → number_of (message_bits bytes) < 2 ^ (8 * length bytes)
message-lt bytes = rw (← length-message_bits bytes) (number_of-lt (message_bits bytes))

pub block-lt : (block : List ℕ) → length block ≡ 16 → number_of (message_bits block) < 2 ^ 128
block-lt block long = let count : 8 * length block ≡ 128 = omega arith in let below = message-lt block in rw count at below

power : (k : ℕ) → 2 ^ (8 * k) ≡ 256 ^ k
power zero = refl
power (suc k) =
    let count : 8 * suc k ≡ 8 * k + 8 = omega arith in
    rw count (pow-add 2 (8 * k) 8 ∙ ap (λ p. p * 256) (power k) ∙ sym (pow-suc 256 k))

-- ---- as the code reads them from bytes and writes them

from_bytes-sum : (bytes : List ℕ) (k : ℕ) → k < length bytes → ((i : ℕ) → get_or bytes i 0 < 256) →
    sum_through (λ i. byte_worth i (get_or bytes i 0)) k ≡ number_of (message_bits (take (k + 1) bytes))
from_bytes-sum [] k h small = absurd (omega arith)
from_bytes-sum (byte ∷ bytes) zero h small = sym (message-single byte (small 0))
from_bytes-sum bytes (suc k) h small =
    let more : take (suc k + 1) bytes ≡ take (suc k) bytes ++ get_or bytes (suc k) 0 ∷ [] = take_more bytes (suc k) 0 h in
    let front : take (suc k) bytes ≡ take (k + 1) bytes = rw add-one refl in
    let long : length (take (suc k) bytes) ≡ suc k = length-take (suc k) bytes ∙ omega arith in
    let rest : sum_through (λ i. byte_worth i (get_or bytes i 0)) k ≡ number_of (message_bits (take (k + 1) bytes)) = from_bytes-sum bytes k (omega arith) small in
    let whole : number_of (message_bits (take (suc k) bytes ++ get_or bytes (suc k) 0 ∷ [])) ≡ number_of (message_bits (take (suc k) bytes)) + get_or bytes (suc k) 0 * 256 ^ suc k =
    message-append (take (suc k) bytes) (get_or bytes (suc k) 0 ∷ []) ∙ rw (message-single (get_or bytes (suc k) 0) (small (suc k)), long, power (suc k)) refl in
    rw (more, whole, front, rest) refl

pub message-from_bytes : (bytes : List ℕ) → length bytes ≡ 16 → ((i : ℕ) → get_or bytes i 0 < 256) → from_le_bytes w128 bytes ≡ number_of (message_bits bytes)
message-from_bytes bytes long small =
    let all : take 16 bytes ≡ bytes = ap (λ k. take k bytes) (sym long) ∙ take-length bytes in
    from_bytes-sum bytes 15 (omega arith) small ∙ rw all refl

byte_at-low : (i n : ℕ) → byte_at i n ≡ n / 256 ^ i % 256
byte_at-low zero n = omega arith
byte_at-low (suc i) n = refl

shifted : (i n : ℕ) → n / 256 ^ suc i ≡ n / 256 ^ i / 256
shifted i n =
    let count : 8 * suc i ≡ 8 * i + 8 = omega arith in
    rw (← power (suc i), ← power i, count) (sym (shr-shr n (8 * i) 8))

masked : (k x : ℕ) → x % 256 ^ suc k ≡ x / 256 % 256 ^ k * 256 + x % 256
masked k x =
    let count : 8 * suc k ≡ 8 * k + 8 = omega arith in
    rw (← power (suc k), ← power k, count) (mod-pow-add x (8 * k) 8)

to_bytes-message : (i k n : ℕ) → number_of (message_bits (bytes_low_first i k n)) ≡ n / 256 ^ i % 256 ^ k
unfolding message_bits number_of
to_bytes-message i zero n = omega arith
to_bytes-message i (suc k) n =
    let x : ℕ = n / 256 ^ i in
    let low : byte_at i n ≡ x % 256 = byte_at-low i n in
    let above : n / 256 ^ suc i ≡ x / 256 = shifted i n in
    let both : x % 256 ^ suc k ≡ x / 256 % 256 ^ k * 256 + x % 256 = masked k x in
    message-cons (byte_at i n) (bytes_low_first (suc i) k n) (rw low (mod_below x 256 (omega arith)))
    ∙ rw (to_bytes-message (suc i) k n, above, low, both) (omega arith)

pub message-to_bytes : (n : ℕ) → n < 2 ^ 128 → number_of (message_bits (to_le_bytes w128 n)) ≡ n
message-to_bytes n h = to_bytes-message 0 16 n ∙ omega arith

-- ---- from byte to byte

-- a byte, as it is added to a register, and what comes later
sum-later : (register byte later k : ℕ) → byte < 2 ^ k → bit_xor register (byte + later * 2 ^ k) ≡ bit_xor (bit_xor register byte) (later * 2 ^ k)
sum-later register byte later k h =
    let parts : byte + later * 2 ^ k ≡ bit_xor byte (later * 2 ^ k) = omega (arith, xor_shifted later k byte h, xor_comm (later * 2 ^ k) byte) in
    rw parts (sym (xor_assoc register byte (later * 2 ^ k)))

left_after-cons : (register byte : ℕ) (bytes : List ℕ) → byte < 256 → left_after register (byte ∷ bytes) ≡ left_after (places 8 (bit_xor register byte)) bytes
unfolding left_after
left_after-cons register byte bytes h =
    let n : ℕ = number_of (message_bits bytes) in
    let count : 8 * length (byte ∷ bytes) ≡ 8 + 8 * length bytes = omega arith in
    rw (count, message-cons byte bytes h, sum-later register byte n 8 h, places-xor (8 + 8 * length bytes) (bit_xor register byte) (n * 2 ^ 8), places-shifted 8 (8 * length bytes) n, places-add 8 (8 * length bytes) (bit_xor register byte), places-xor (8 * length bytes) (places 8 (bit_xor register byte)) n) refl

-- the bytes of one message after those of another
pub left_after-append : (register : ℕ) (xs ys : List ℕ) → left_after register (xs ++ ys) ≡ left_after (left_after register xs) ys
unfolding left_after
left_after-append register xs ys =
    let n : ℕ = number_of (message_bits xs) in
    let later : ℕ = number_of (message_bits ys) in
    let j : ℕ = 8 * length xs in
    let k : ℕ = 8 * length ys in
    let count : 8 * length (xs ++ ys) ≡ j + k = omega (arith, length-append xs ys) in
    rw (count, message-append xs ys, sum-later register n later j (message-lt xs), places-xor (j + k) (bit_xor register n) (later * 2 ^ j), places-shifted j k later, places-add j k (bit_xor register n), places-xor k (places j (bit_xor register n)) later) refl

-- one byte further, by the table
next_register : (sum : ℕ) → places 8 sum ≡ bit_xor (sum / 2 ^ 8) (byte_remainder 0 (sum % 2 ^ 8))
unfolding places
next_register sum =
    places-split 8 0 sum ∙ ap (λ n. bit_xor n (sum / 2 ^ 8)) (sym (remainder-byte 0 (sum % 2 ^ 8) (omega arith))) ∙ xor_comm (byte_remainder 0 (sum % 2 ^ 8)) (sum / 2 ^ 8)

pub left_after-step : (bytes : List ℕ) (i register next : ℕ) → i < length bytes → get_or bytes i 0 < 256 →
    (let sum = bit_xor register (get_or bytes i 0) in next ≡ bit_xor (sum / 2 ^ 8) (byte_remainder 0 (sum % 2 ^ 8))) →
    left_after register (drop i bytes) ≡ left_after next (drop (i + 1) bytes)
left_after-step bytes i register next h small made =
    let sum : ℕ = bit_xor register (get_or bytes i 0) in
    let front : drop i bytes ≡ get_or bytes i 0 ∷ drop (i + 1) bytes = rw add-one (drop-cons bytes i 0 h) in
    let eight : places 8 sum ≡ next = next_register sum ∙ sym made in
    rw front (left_after-cons register (get_or bytes i 0) (drop (i + 1) bytes) small ∙ ap (λ r. left_after r (drop (i + 1) bytes)) eight)

pub left_after-end : (register : ℕ) → left_after register [] ≡ register
unfolding left_after places message_bits number_of
left_after-end register = xor_zero_r register

-- ---- from block to block

pub left_of_blocks-step : (blocks : List (List ℕ)) (i sum next left later : ℕ) → i < length blocks →
    number_of (message_bits (get_or blocks i [])) < 2 ^ 128 → 96 ≤ left →
    ((left later : ℕ) → 96 ≤ left → places (128 + left) (bit_xor (bit_xor sum (number_of (message_bits (get_or blocks i [])))) (later * 2 ^ 128)) ≡ places left (bit_xor next later)) →
    left_of_blocks sum (drop i blocks) left later ≡ left_of_blocks next (drop (i + 1) blocks) left later
unfolding left_of_blocks number_of_blocks
left_of_blocks-step blocks i sum next left later h fits room made =
    let block : List ℕ = get_or blocks i [] in
    let rest : List (List ℕ) = drop (i + 1) blocks in
    let front : drop i blocks ≡ block ∷ rest = rw add-one (drop-cons blocks i [] h) in
    let count : 128 * length (block ∷ rest) + left ≡ 128 + (128 * length rest + left) = omega arith in
    rw front (rw (count, sum-later sum (number_of (message_bits block)) (number_of_blocks rest later) 128 fits) (made (128 * length rest + left) (number_of_blocks rest later) (omega arith)))

pub left_of_blocks-end : (sum left later : ℕ) → left_of_blocks sum [] left later ≡ places left (bit_xor sum later)
unfolding left_of_blocks number_of_blocks
left_of_blocks-end sum left later = let none : 128 * 0 + left ≡ left = omega arith in rw none refl

-- ---- the whole message: blocks, the last of them, and the bytes after it

number_of_blocks-append : (front : List (List ℕ)) (last : List ℕ) (later : ℕ) →
    number_of_blocks (front ++ last ∷ []) later ≡ number_of_blocks front (number_of (message_bits last) + later * 2 ^ 128)
unfolding number_of_blocks
number_of_blocks-append [] last later = refl
number_of_blocks-append (block ∷ front) last later = ap (λ n. number_of (message_bits block) + n * 2 ^ 128) (number_of_blocks-append front last later)

number_of_blocks-chunks : (k : ℕ) (bytes : List ℕ) → k * 16 ≤ length bytes →
    number_of_blocks (first_chunks 16 k bytes) (number_of (message_bits (drop (k * 16) bytes))) ≡ number_of (message_bits bytes)
unfolding number_of_blocks
number_of_blocks-chunks zero bytes h = refl
number_of_blocks-chunks (suc k) bytes h =
    let room : k * 16 ≤ length (drop 16 bytes) = omega (arith, length-drop 16 bytes) in
    let count : suc k * 16 ≡ 16 + k * 16 = omega arith in
    let further : drop (k * 16) (drop 16 bytes) ≡ drop (suc k * 16) bytes = rw count (drop-drop (k * 16) 16 bytes) in
    let long : length (take 16 bytes) ≡ 16 = length-take 16 bytes ∙ omega arith in
    let whole : number_of (message_bits (take 16 bytes ++ drop 16 bytes)) ≡ number_of (message_bits (take 16 bytes)) + number_of (message_bits (drop 16 bytes)) * 2 ^ 128 =
    message-append (take 16 bytes) (drop 16 bytes) ∙ rw long refl in
    rw (← further) (ap (λ n. number_of (message_bits (take 16 bytes)) + n * 2 ^ 128) (number_of_blocks-chunks k (drop 16 bytes) room))
    ∙ sym whole ∙ ap (λ bs. number_of (message_bits bs)) (take-append-drop 16 bytes)

pub left_after-blocks : (bytes rest last : List ℕ) (front : List (List ℕ)) (register sum : ℕ) →
    front ++ last ∷ [] ≡ first_chunks 16 (length bytes / 16) bytes → rest ≡ drop (length bytes / 16 * 16) bytes → length front + 1 ≡ length bytes / 16 →
    ((left later : ℕ) → 96 ≤ left → left_of_blocks register front left later ≡ places left (bit_xor sum later)) →
    bit_xor sum (number_of (message_bits last)) < 2 ^ 128 → number_of (message_bits last) < 2 ^ 128 →
    left_after register bytes ≡ left_after (left_after 0 (to_le_bytes w128 (bit_xor sum (number_of (message_bits last))))) rest
unfolding left_after left_of_blocks
left_after-blocks bytes rest last front register sum chunks back count made fits below =
    let n : ℕ = number_of (message_bits last) in
    let m : ℕ = 8 * length rest in
    let later : ℕ = number_of (message_bits rest) in
    let room : length bytes / 16 * 16 ≤ length bytes = omega arith in
    let long : length rest ≡ length bytes - length bytes / 16 * 16 = ap length back ∙ length-drop (length bytes / 16 * 16) bytes in
    let places_all : 8 * length bytes ≡ 128 * length front + (128 + m) = omega arith in
    let number : number_of (message_bits bytes) ≡ number_of_blocks front (n + later * 2 ^ 128) =
    sym (number_of_blocks-chunks (length bytes / 16) bytes room) ∙ rw (← chunks, ← back) (number_of_blocks-append front last later) in
    let start : places (8 * length bytes) (bit_xor register (number_of (message_bits bytes))) ≡ places (128 + m) (bit_xor sum (n + later * 2 ^ 128)) =
    rw (places_all, number) (made (128 + m) (n + later * 2 ^ 128) (omega arith)) in
    let s : ℕ = bit_xor sum n in
    let ended : places (128 + m) (bit_xor sum (n + later * 2 ^ 128)) ≡ places m (bit_xor (places 128 s) later) =
    rw (sum-later sum n later 128 below, places-xor (128 + m) s (later * 2 ^ 128), places-shifted 128 m later, places-add 128 m s, places-xor m (places 128 s) later) refl in
    let last_bytes : places 128 (bit_xor 0 (number_of (message_bits (to_le_bytes w128 s)))) ≡ places 128 s = ap (places 128) (rw (message-to_bytes s fits) refl) in
    start ∙ ended ∙ sym (ap (λ r. places m (bit_xor r later)) last_bytes)
