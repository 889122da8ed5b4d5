-- A bit turned over, in the number of a message.
use Rattle.std.proofs.Common.{◌≡◌, ◌≢◌, ℕ, zero, suc, ◌+◌, ◌-◌, ◌*◌, ◌/◌, ◌%◌, ◌^◌, ◌<◌, List, [], ◌∷◌, length, get_or, set, refl, ap, sym, ◌∙◌, arith, bit_xor, nat_eq, if◌then◌else◌}
use Rattle.std.proofs.lemmas.Nat.{xor_block, xor_mod, mod-pow-add, pow-add, shl-shr}
use Rattle.std.proofs.Math.Pow.{pow-lt}
use Rattle.std.proofs.lemmas.List.{length-set}
use Rattle.std.specs.Int.Bits.{xor_zero_r}
use Rattle.csp_crc.specs.Bits.{bits_of, number_of, message_bits}
use Rattle.csp_crc.specs.Crc.{crc_of}
use Rattle.csp_crc.proofs.Public.{number_of-append, length-bits_of, message_bits-cons}
use Rattle.csp_noticed.specs.Flipping.{flipped, DifferInOneBit}
use Rattle.csp_noticed.proofs.Remainders.{crc-apart}

one_bit : (r : ℕ) → r < 2 → (if nat_eq r 1 then 1 else 0) ≡ r
one_bit zero h = refl
one_bit (suc zero) h = refl
one_bit (suc (suc r)) h = absurd (omega arith)

-- so many bits of a number are what is left of it below that power
number_of-bits : (k n : ℕ) → number_of (bits_of k n) ≡ n % 2 ^ k
unfolding number_of bits_of
number_of-bits zero n = omega arith
number_of-bits (suc k) n =
    let rest : number_of (bits_of k (n / 2)) ≡ n / 2 % 2 ^ k = number_of-bits k (n / 2) in
    let first : (if nat_eq (n % 2) 1 then 1 else 0) ≡ n % 2 = one_bit (n % 2) (omega arith) in
    let whole : n % 2 ^ (k + 1) ≡ n / 2 % 2 ^ k * 2 + n % 2 = mod-pow-add n k 1 in
    let more : suc k ≡ k + 1 = omega arith in
    rw (rest, first, more, whole) (omega arith)

number-cons : (byte : ℕ) (bytes : List ℕ) → number_of (message_bits (byte ∷ bytes)) ≡ number_of (message_bits bytes) * 2 ^ 8 + byte % 2 ^ 8
number-cons byte bytes =
    ap number_of (message_bits-cons byte bytes) ∙ number_of-append (bits_of 8 byte) (message_bits bytes)
    ∙ rw (number_of-bits 8 byte, length-bits_of 8 byte) (omega arith)

-- a bit of the first byte, and one of a later byte
first-bit : (later byte m : ℕ) → 2 ^ m < 2 ^ 8 → later * 2 ^ 8 + bit_xor byte (2 ^ m) % 2 ^ 8 ≡ bit_xor (later * 2 ^ 8 + byte % 2 ^ 8) (2 ^ m)
first-bit later byte m h =
    let none : 0 * 2 ^ 8 + 2 ^ m ≡ 2 ^ m = omega arith in
    let low : 2 ^ m % 2 ^ 8 ≡ 2 ^ m = omega arith in
    let block = xor_block 8 later 0 (byte % 2 ^ 8) (2 ^ m) (omega arith) h in
    let sum : bit_xor byte (2 ^ m) % 2 ^ 8 ≡ bit_xor (byte % 2 ^ 8) (2 ^ m) = xor_mod byte (2 ^ m) 8 ∙ ap (bit_xor (byte % 2 ^ 8)) low in
    rw sum (sym (rw (none, xor_zero_r later) at block))

later-bit : (later byte k : ℕ) → bit_xor later (2 ^ k) * 2 ^ 8 + byte % 2 ^ 8 ≡ bit_xor (later * 2 ^ 8 + byte % 2 ^ 8) (2 ^ (k + 8))
later-bit later byte k =
    let higher : 2 ^ k * 2 ^ 8 + 0 ≡ 2 ^ (k + 8) = sym (pow-add 2 k 8 ∙ omega arith) in
    let block = xor_block 8 later (2 ^ k) (byte % 2 ^ 8) 0 (omega arith) (omega arith) in
    sym (rw (higher, xor_zero_r (byte % 2 ^ 8)) at block)

number-changed : (bytes : List ℕ) (place m : ℕ) → place < length bytes → 2 ^ m < 2 ^ 8 →
    number_of (message_bits (set bytes place (bit_xor (get_or bytes place 0) (2 ^ m)))) ≡ bit_xor (number_of (message_bits bytes)) (2 ^ (8 * place + m))
number-changed [] place m h small = absurd (omega arith)
number-changed (byte ∷ bytes) zero m h small =
    let at : 8 * zero + m ≡ m = omega arith in
    rw (at, number-cons (bit_xor byte (2 ^ m)) bytes, number-cons byte bytes) (first-bit (number_of (message_bits bytes)) byte m small)
number-changed (byte ∷ bytes) (suc place) m h small =
    let at : 8 * suc place + m ≡ 8 * place + m + 8 = omega arith in
    let rest = number-changed bytes place m (omega arith) small in
    rw (at, number-cons byte (set bytes place (bit_xor (get_or bytes place 0) (2 ^ m))), rest, number-cons byte bytes) (later-bit (number_of (message_bits bytes)) byte (8 * place + m))

-- the bits of a byte from the top one down
pub top_down : (j : ℕ) → j < 8 → (128 / 2 ^ j ≡ 2 ^ (7 - j)) × (2 ^ (7 - j) < 2 ^ 8)
top_down j h =
    let whole : (7 - j) + j ≡ 7 = omega arith in
    let product : 2 ^ (7 - j) * 2 ^ j ≡ 128 = sym (pow-add 2 (7 - j) j) ∙ ap (λ k. 2 ^ k) whole in
    (ap (λ n. n / 2 ^ j) (sym product) ∙ shl-shr (2 ^ (7 - j)) j, pow-lt {i = 7 - j} {j = 8} (omega arith))

pub crc-flipped : (bit : ℕ) (bytes : List ℕ) → bit < 8 * length bytes → crc_of bytes ≢ crc_of (flipped bit bytes)
crc-flipped bit bytes there =
    let place : ℕ = bit / 8 in
    let down = top_down (bit % 8) (omega arith) in
    let changed : number_of (message_bits (flipped bit bytes)) ≡ bit_xor (number_of (message_bits bytes)) (2 ^ (8 * place + (7 - bit % 8))) =
    rw down.0 (number-changed bytes place (7 - bit % 8) (omega arith) down.1) in
    crc-apart bytes (flipped bit bytes) (8 * place + (7 - bit % 8)) (length-set bytes place _) (omega arith) changed

pub tells : (xs ys : List ℕ) → DifferInOneBit xs ys → crc_of xs ≢ crc_of ys
tells xs ys h same = crc-flipped h.bit xs h.there (same ∙ ap crc_of h.other)
