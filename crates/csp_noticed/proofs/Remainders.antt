-- Two messages whose numbers differ in one bit have different remainders, since what is left of a single bit is never 0.
use Rattle.std.proofs.Common.{◌≡◌, ◌≢◌, ℕ, zero, suc, ◌+◌, ◌-◌, ◌*◌, ◌/◌, ◌%◌, ◌^◌, ◌<◌, List, length, ap, sym, ◌∙◌, arith, bit_xor, inl, inr}
use Rattle.std.proofs.lemmas.Bool.{cases_eq}
use Rattle.std.proofs.lemmas.Nat.{xor_lt}
use Rattle.std.specs.Int.Bits.{xor_assoc, xor_self, xor_zero_l, xor_zero_r}
use Rattle.csp_crc.specs.Bits.{number_of, message_bits}
use Rattle.csp_crc.specs.Crc.{crc_of}
use Rattle.csp_crc.specs.Register.{place, places, left_after}
use Rattle.csp_crc.proofs.Public.{place-even, place-odd, places-xor, places-shifted, crc_of-left}

-- what was added is found again
xor_back : (a b : ℕ) → bit_xor a (bit_xor a b) ≡ b
xor_back a b = sym (xor_assoc a a b) ∙ ap (λ n. bit_xor n b) (xor_self a) ∙ xor_zero_l b

xor_same : (a b : ℕ) → bit_xor a b ≡ 0 → b ≡ a
xor_same a b e = sym (xor_back a b) ∙ ap (bit_xor a) e ∙ xor_zero_r a

xor_none : (a b : ℕ) → bit_xor a b ≡ a → b ≡ 0
xor_none a b e = sym (xor_back a b) ∙ ap (bit_xor a) e ∙ xor_self a

-- a place of the division leaves something of what isn't 0: the top bit of the polynomial, which is added, was not there
place-some : (n : ℕ) → 0 < n → n < 2 ^ 32 → (0 < place n) × (place n < 2 ^ 32)
place-some n some fits = elim (cases_eq (n % 2) 0) [
  | inl even ↦ let half = place-even n even in (omega arith, omega arith)
  | inr odd ↦
      let sum = place-odd n (omega arith) in
      let small : n / 2 < 2 ^ 31 = omega arith in
      let below : bit_xor (n / 2) 0x82F63B78 < 2 ^ 32 = xor_lt 32 (n / 2) 0x82F63B78 (omega arith) (omega arith) in
      let here : bit_xor (n / 2) 0x82F63B78 ≢ 0 = λ e. let same = xor_same (n / 2) 0x82F63B78 e in absurd (omega arith) in
      (omega arith, omega arith)
]

places-some : (k n : ℕ) → 0 < n → n < 2 ^ 32 → 0 < places k n
unfolding places
places-some zero n some fits = some
places-some (suc k) n some fits = let next = place-some n some fits in places-some k (place n) next.0 next.1

-- a bit that more places than itself are divided
bit-some : (k n : ℕ) → k < n → 0 < places n (2 ^ k)
bit-some k n h =
    let count : k + (n - k) ≡ n = omega arith in
    let once : 1 * 2 ^ k ≡ 2 ^ k = omega arith in
    let shifted = places-shifted k (n - k) 1 in
    let left : places n (2 ^ k) ≡ places (n - k) 1 = rw (count, once) at shifted in
    rw left (places-some (n - k) 1 (omega arith) (omega arith))

-- the same message with one bit of its number changed
pub crc-apart : (xs ys : List ℕ) (k : ℕ) → length ys ≡ length xs → k < 8 * length xs →
    number_of (message_bits ys) ≡ bit_xor (number_of (message_bits xs)) (2 ^ k) → crc_of xs ≢ crc_of ys
unfolding left_after
crc-apart xs ys k long there changed same =
    let n : ℕ = 8 * length xs in
    let first : ℕ = bit_xor 0xFFFFFFFF (number_of (message_bits xs)) in
    let sum : bit_xor 0xFFFFFFFF (number_of (message_bits ys)) ≡ bit_xor first (2 ^ k) =
    ap (bit_xor 0xFFFFFFFF) changed ∙ sym (xor_assoc 0xFFFFFFFF (number_of (message_bits xs)) (2 ^ k)) in
    let apart : left_after 0xFFFFFFFF ys ≡ bit_xor (places n first) (places n (2 ^ k)) = rw (long, sum) (places-xor n first (2 ^ k)) in
    let alike : left_after 0xFFFFFFFF ys ≡ left_after 0xFFFFFFFF xs = omega (arith, crc_of-left xs, crc_of-left ys, same) in
    let none : places n (2 ^ k) ≡ 0 = xor_none (places n first) (places n (2 ^ k)) (sym apart ∙ alike) in
    absurd (omega (arith, none, bit-some k n there))
