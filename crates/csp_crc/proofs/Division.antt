-- The division of lists of bits, as one of numbers.
use Rattle.std.proofs.Common.{◌≡◌, ℕ, zero, suc, ◌+◌, ◌-◌, ◌*◌, ◌/◌, ◌%◌, ◌^◌, ◌<◌, ◌≤◌, Bool, true, false, not, nat_eq, if◌then◌else◌, List, [], ◌∷◌, ◌++◌, length, map, take, drop, replicate, refl, sym, ap, ◌∙◌, arith, bit_xor}
use Rattle.std.proofs.lemmas.List.{length-append, length-replicate}
use Rattle.std.proofs.lemmas.Nat.{xor_block, xor_comm}
use Rattle.std.proofs.Math.Nat.{mul_assoc, pow-suc}
use mathlib.Core.Bool.{xor}
use Rattle.csp_crc.specs.Bits.{bits_of, number_of, message_bits, plus}
use Rattle.csp_crc.specs.Crc.{divisor, divided, remainder, dividend_of, crc_of}
use Rattle.csp_crc.specs.Register.{place, places, left_after, byte_remainder}
use Rattle.csp_crc.proofs.Numbers.{place-even, place-odd}

pub length-bits_of : (k n : ℕ) → length (bits_of k n) ≡ k
unfolding bits_of
length-bits_of zero n = refl
length-bits_of (suc k) n = ap suc (length-bits_of k (n / 2))

length-plus : (xs bits : List Bool) → length (plus xs bits) ≡ length bits
unfolding plus
length-plus [] bits = refl
length-plus (x ∷ xs) [] = refl
length-plus (x ∷ xs) (bit ∷ bits) = ap suc (length-plus xs bits)

-- ---- lists of bits as numbers

pub number_of-append : (xs bits : List Bool) → number_of (xs ++ bits) ≡ number_of xs + number_of bits * 2 ^ length xs
unfolding number_of
number_of-append [] bits = omega arith
number_of-append (x ∷ xs) bits =
    let rest : number_of (xs ++ bits) ≡ number_of xs + number_of bits * 2 ^ length xs = number_of-append xs bits in
    let twice : number_of bits * 2 ^ suc (length xs) ≡ number_of bits * 2 ^ length xs * 2 =
    ap (λ p. number_of bits * p) (pow-suc 2 (length xs)) ∙ sym (mul_assoc (number_of bits) (2 ^ length xs) 2) in
    rw (rest, twice) (omega arith)

number_of-zeros : (k : ℕ) → number_of (replicate k false) ≡ 0
unfolding number_of
number_of-zeros zero = refl
number_of-zeros (suc k) = let rest : number_of (replicate k false) ≡ 0 = number_of-zeros k in rw rest refl

-- zero bits at the end add nothing
number_of-padded : (bits : List Bool) (k : ℕ) → number_of (bits ++ replicate k false) ≡ number_of bits
number_of-padded bits k = number_of-append bits (replicate k false) ∙ rw number_of-zeros (omega arith)

bit-of : (r : ℕ) → r < 2 → (if nat_eq r 1 then 1 else 0) ≡ r
bit-of zero h = refl
bit-of (suc zero) h = refl
bit-of (suc (suc r)) h = absurd (omega arith)

-- the bits of a number are that number
pub number_of-bits_of : (k n : ℕ) → n < 2 ^ k → number_of (bits_of k n) ≡ n
unfolding number_of bits_of
number_of-bits_of zero n h = omega arith
number_of-bits_of (suc k) n h =
    let rest : number_of (bits_of k (n / 2)) ≡ n / 2 = number_of-bits_of k (n / 2) (omega arith) in
    let first : (if nat_eq (n % 2) 1 then 1 else 0) ≡ n % 2 = bit-of (n % 2) (omega arith) in
    rw (rest, first) (omega arith)

-- two bits that are added, before numbers that are
pair : (x bit : Bool) (a b : ℕ) → bit_xor ((if x then 1 else 0) + 2 * a) ((if bit then 1 else 0) + 2 * b) ≡ (if xor x bit then 1 else 0) + 2 * bit_xor a b
unfolding xor
pair x bit a b =
    let block : (r s : ℕ) → r < 2 → s < 2 → bit_xor (r + 2 * a) (s + 2 * b) ≡ bit_xor r s + 2 * bit_xor a b =
    λ r s h g. let left : r + 2 * a ≡ a * 2 + r = omega arith in let right : s + 2 * b ≡ b * 2 + s = omega arith in
    rw (left, right) (xor_block 1 a b r s h g ∙ omega arith) in
    elim x as (λ x. bit_xor ((if x then 1 else 0) + 2 * a) ((if bit then 1 else 0) + 2 * b) ≡ (if xor x bit then 1 else 0) + 2 * bit_xor a b) [
      | true ↦ elim bit as (λ bit. bit_xor (1 + 2 * a) ((if bit then 1 else 0) + 2 * b) ≡ (if xor true bit then 1 else 0) + 2 * bit_xor a b)
          [ true ↦ block 1 1 (omega arith) (omega arith) | false ↦ block 1 0 (omega arith) (omega arith) ]
      | false ↦ elim bit as (λ bit. bit_xor (0 + 2 * a) ((if bit then 1 else 0) + 2 * b) ≡ (if xor false bit then 1 else 0) + 2 * bit_xor a b)
          [ true ↦ block 0 1 (omega arith) (omega arith) | false ↦ block 0 0 (omega arith) (omega arith) ]
    ]

-- bits that are added are numbers that are added
number_of-plus : (xs bits : List Bool) → length xs ≤ length bits → number_of (plus xs bits) ≡ bit_xor (number_of xs) (number_of bits)
unfolding number_of plus
number_of-plus [] bits h = refl
number_of-plus (x ∷ xs) [] h = absurd (omega arith)
number_of-plus (x ∷ xs) (bit ∷ bits) h =
    ap (λ n. (if xor x bit then 1 else 0) + 2 * n) (number_of-plus xs bits (omega arith)) ∙ sym (pair x bit (number_of xs) (number_of bits))

-- ---- the division

taken : List Bool → List Bool
taken [] = []
taken (bit ∷ bits) = drop 1 (if bit then plus divisor (bit ∷ bits) else bit ∷ bits)

length-taken : (bit : Bool) (bits : List Bool) → length (taken (bit ∷ bits)) ≡ length bits
unfolding taken divisor plus
length-taken true bits = length-plus (bits_of 32 0x82F63B78) bits
length-taken false bits = refl

number_of-taken : (bit : Bool) (bits : List Bool) → 32 ≤ length bits → number_of (taken (bit ∷ bits)) ≡ place (number_of (bit ∷ bits))
unfolding taken divisor plus number_of
number_of-taken true bits h =
    let sum : number_of (plus (bits_of 32 0x82F63B78) bits) ≡ bit_xor 0x82F63B78 (number_of bits) =
    number_of-plus (bits_of 32 0x82F63B78) bits (omega (arith, length-bits_of 32 0x82F63B78)) ∙ ap (λ n. bit_xor n (number_of bits)) (number_of-bits_of 32 0x82F63B78 (omega arith)) in
    let half : (1 + 2 * number_of bits) / 2 ≡ number_of bits = omega arith in
    let odd : place (1 + 2 * number_of bits) ≡ bit_xor (number_of bits) 0x82F63B78 = place-odd (1 + 2 * number_of bits) (omega arith) ∙ ap (λ n. bit_xor n 0x82F63B78) half in
    sum ∙ xor_comm 0x82F63B78 (number_of bits) ∙ sym odd
number_of-taken false bits h = sym (place-even (0 + 2 * number_of bits) (omega arith) ∙ omega arith)

number_of-divided : (k : ℕ) (bits : List Bool) → k + 32 ≤ length bits → number_of (divided k bits) ≡ places k (number_of bits)
unfolding divided places taken
number_of-divided zero bits h = refl
number_of-divided (suc k) [] h = absurd (omega arith)
number_of-divided (suc k) (bit ∷ bits) h =
    number_of-divided k (taken (bit ∷ bits)) (omega (arith, length-taken bit bits)) ∙ ap (places k) (number_of-taken bit bits (omega arith))

length-divided : (k : ℕ) (bits : List Bool) → k ≤ length bits → length (divided k bits) + k ≡ length bits
unfolding divided taken
length-divided zero bits h = omega arith
length-divided (suc k) [] h = absurd (omega arith)
length-divided (suc k) (bit ∷ bits) h =
    let rest : length (divided k (taken (bit ∷ bits))) + k ≡ length (taken (bit ∷ bits)) = length-divided k (taken (bit ∷ bits)) (omega (arith, length-taken bit bits)) in
    omega (arith, length-taken bit bits)

-- the remainder of some bits with at least 32 after them
pub number_of-remainder : (k : ℕ) (bits : List Bool) → length bits ≡ k + 32 → number_of (remainder bits) ≡ places k (number_of bits)
unfolding remainder
number_of-remainder k bits long =
    let count : length bits - 32 ≡ k = omega arith in
    rw count (number_of-divided k bits (omega arith))

length-remainder : (bits : List Bool) → 32 ≤ length bits → length (remainder bits) ≡ 32
unfolding remainder
length-remainder bits h = omega (arith, length-divided (length bits - 32) bits (omega arith))

pub remainder-byte : (zeros byte : ℕ) → byte < 256 → byte_remainder zeros byte ≡ places (8 * zeros + 8) byte
unfolding byte_remainder
remainder-byte zeros byte h =
    let long : length (bits_of 8 byte ++ replicate (8 * zeros + 32) false) ≡ 8 * zeros + 8 + 32 =
    length-append (bits_of 8 byte) (replicate (8 * zeros + 32) false) ∙ rw (length-bits_of, length-replicate) (omega arith) in
    number_of-remainder (8 * zeros + 8) (bits_of 8 byte ++ replicate (8 * zeros + 32) false) long
    ∙ ap (places (8 * zeros + 8)) (number_of-padded (bits_of 8 byte) (8 * zeros + 32) ∙ number_of-bits_of 8 byte h)

-- ---- the whole message

-- inverted, bits are what is missing to all ones
number_of-not : (bits : List Bool) → number_of (map not bits) + number_of bits + 1 ≡ 2 ^ length bits
unfolding number_of
number_of-not [] = refl
number_of-not (true ∷ bits) = let rest : number_of (map not bits) + number_of bits + 1 ≡ 2 ^ length bits = number_of-not bits in omega (arith, pow-suc 2 (length bits))
number_of-not (false ∷ bits) = let rest : number_of (map not bits) + number_of bits + 1 ≡ 2 ^ length bits = number_of-not bits in omega (arith, pow-suc 2 (length bits))

pub number_of-lt : (bits : List Bool) → number_of bits < 2 ^ length bits
number_of-lt bits = omega (arith, number_of-not bits)

-- ones invert
plus-ones : (k : ℕ) (bits : List Bool) → plus (replicate k true) bits ≡ map not (take k bits) ++ drop k bits
unfolding plus xor
plus-ones zero bits = refl
plus-ones (suc k) [] = refl
plus-ones (suc k) (false ∷ bits) = ap (λ rest. true ∷ rest) (plus-ones k bits)
plus-ones (suc k) (true ∷ bits) = ap (λ rest. false ∷ rest) (plus-ones k bits)

number_of-ones : number_of (replicate 32 true) ≡ 0xFFFFFFFF
unfolding number_of
number_of-ones = refl

pub message_bits-cons : (byte : ℕ) (rest : List ℕ) → message_bits (byte ∷ rest) ≡ bits_of 8 byte ++ message_bits rest
unfolding message_bits
message_bits-cons byte rest = refl

pub length-message_bits : (message : List ℕ) → length (message_bits message) ≡ 8 * length message
unfolding message_bits
length-message_bits [] = refl
length-message_bits (byte ∷ rest) =
    let front : length (bits_of 8 byte) ≡ 8 = length-bits_of 8 byte in
    let back : length (message_bits rest) ≡ 8 * length rest = length-message_bits rest in
    simp length-append (omega arith)

dividend_of-sum : (message : List ℕ) → dividend_of message ≡ plus (replicate 32 true) (message_bits message ++ replicate 32 false)
unfolding dividend_of
dividend_of-sum message = sym (plus-ones 32 (message_bits message ++ replicate 32 false))

length-dividend_of : (message : List ℕ) → length (dividend_of message) ≡ 8 * length message + 32
length-dividend_of message =
    let bits : List Bool = message_bits message ++ replicate 32 false in
    let same : length (dividend_of message) ≡ length bits = ap length (dividend_of-sum message) ∙ length-plus (replicate 32 true) bits in
    omega (arith, same, length-append (message_bits message) (replicate 32 false), length-message_bits message, length-replicate 32 false)

number_of-dividend : (message : List ℕ) → number_of (dividend_of message) ≡ bit_xor 0xFFFFFFFF (number_of (message_bits message))
number_of-dividend message =
    let bits : List Bool = message_bits message ++ replicate 32 false in
    let room : length (replicate 32 true) ≤ length bits = omega (arith, length-append (message_bits message) (replicate 32 false), length-replicate 32 false, length-replicate 32 true) in
    ap number_of (dividend_of-sum message) ∙ number_of-plus (replicate 32 true) bits room
    ∙ ap (λ n. bit_xor n (number_of bits)) number_of-ones ∙ ap (bit_xor 0xFFFFFFFF) (number_of-padded (message_bits message) 32)

-- the CRC is what is left of a register of ones, inverted
pub crc_of-left : (message : List ℕ) → crc_of message + left_after 0xFFFFFFFF message + 1 ≡ 2 ^ 32
unfolding crc_of left_after
crc_of-left message =
    let long : length (remainder (dividend_of message)) ≡ 32 = length-remainder (dividend_of message) (omega (arith, length-dividend_of message)) in
    let left : number_of (remainder (dividend_of message)) ≡ places (8 * length message) (bit_xor 0xFFFFFFFF (number_of (message_bits message))) =
    number_of-remainder (8 * length message) (dividend_of message) (length-dividend_of message) ∙ ap (places (8 * length message)) (number_of-dividend message) in
    let whole = number_of-not (remainder (dividend_of message)) in
    rw (left, long) at whole

pub crc_of-lt : (message : List ℕ) → crc_of message < 2 ^ 32
crc_of-lt message = omega (arith, crc_of-left message)
