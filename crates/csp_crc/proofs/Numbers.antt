-- The division on numbers: it goes through sums part by part, and through what stands higher later.
use Rattle.std.proofs.Common.{◌≡◌, ℕ, zero, suc, ◌+◌, ◌*◌, ◌/◌, ◌%◌, ◌^◌, ◌<◌, refl, sym, ap, ◌∙◌, arith, bit_xor, ◌⊎◌, inl, inr}
use Rattle.std.proofs.lemmas.Nat.{xor_shr, xor_mod, xor_comm, shr_split, pow_pos, mod_below}
use Rattle.std.proofs.Math.Nat.{mul_assoc, pow-suc}
use Rattle.std.specs.Int.Bits.{xor_self}
use lib.Bits.{xor_assoc, xor_shifted}
use Rattle.csp_crc.specs.Register.{place, places}

small : (r : ℕ) → r < 2 → (r ≡ 0) ⊎ (r ≡ 1)
small zero h = inl refl
small (suc zero) h = inr refl
small (suc (suc r)) h = absurd (omega arith)

pub place-even : (n : ℕ) → n % 2 ≡ 0 → place n ≡ n / 2
unfolding place
place-even n even = rw even refl

pub place-odd : (n : ℕ) → n % 2 ≡ 1 → place n ≡ bit_xor (n / 2) 0x82F63B78
unfolding place
place-odd n odd = rw odd refl

-- ---- sums

-- what is added to the first part of a sum is added to the sum
sum-first : (a b p : ℕ) → bit_xor (bit_xor a b) p ≡ bit_xor (bit_xor a p) b
sum-first a b p = xor_assoc a b p ∙ ap (bit_xor a) (xor_comm b p) ∙ sym (xor_assoc a p b)

-- what is added to both parts of a sum is gone
sum-both : (a b p : ℕ) → bit_xor a b ≡ bit_xor (bit_xor a p) (bit_xor b p)
sum-both a b p =
    let gone : bit_xor p (bit_xor b p) ≡ b = ap (bit_xor p) (xor_comm b p) ∙ sym (xor_assoc p p b) ∙ ap (λ n. bit_xor n b) (xor_self p) in
    sym (xor_assoc a p (bit_xor b p) ∙ ap (bit_xor a) gone)

place-xor : (a b : ℕ) → place (bit_xor a b) ≡ bit_xor (place a) (place b)
place-xor a b =
    let half : bit_xor a b / 2 ≡ bit_xor (a / 2) (b / 2) = xor_shr a b 1 in
    let low : bit_xor a b % 2 ≡ bit_xor (a % 2) (b % 2) = xor_mod a b 1 in
    elim (small (a % 2) (omega arith)) [
      | inl x ↦ elim (small (b % 2) (omega arith)) [
        | inl y ↦ place-even (bit_xor a b) (low ∙ rw (x, y) refl) ∙ half ∙ sym (rw (place-even a x, place-even b y) refl)
        | inr y ↦ place-odd (bit_xor a b) (low ∙ rw (x, y) refl) ∙ ap (λ n. bit_xor n 0x82F63B78) half
            ∙ xor_assoc (a / 2) (b / 2) 0x82F63B78 ∙ sym (rw (place-even a x, place-odd b y) refl)
      ]
      | inr x ↦ elim (small (b % 2) (omega arith)) [
        | inl y ↦ place-odd (bit_xor a b) (low ∙ rw (x, y) refl) ∙ ap (λ n. bit_xor n 0x82F63B78) half
            ∙ sum-first (a / 2) (b / 2) 0x82F63B78 ∙ sym (rw (place-odd a x, place-even b y) refl)
        | inr y ↦ place-even (bit_xor a b) (low ∙ rw (x, y) refl) ∙ half
            ∙ sum-both (a / 2) (b / 2) 0x82F63B78 ∙ sym (rw (place-odd a x, place-odd b y) refl)
      ]
    ]

pub places-xor : (k a b : ℕ) → places k (bit_xor a b) ≡ bit_xor (places k a) (places k b)
unfolding places
places-xor zero a b = refl
places-xor (suc k) a b = ap (places k) (place-xor a b) ∙ places-xor k (place a) (place b)

-- ---- one after the other

pub places-add : (j k n : ℕ) → places (j + k) n ≡ places k (places j n)
unfolding places
places-add zero k n = let none : zero + k ≡ k = omega arith in rw none refl
places-add (suc j) k n = let count : suc j + k ≡ suc (j + k) = omega arith in rw count (places-add j k (place n))

-- what stands k places higher is left after k places
places-higher : (k n : ℕ) → places k (n * 2 ^ k) ≡ n
unfolding places
places-higher zero n = omega arith
places-higher (suc k) n =
    let whole : n * 2 ^ suc k ≡ n * 2 ^ k * 2 = ap (λ p. n * p) (pow-suc 2 k) ∙ sym (mul_assoc n (2 ^ k) 2) in
    let half : place (n * 2 ^ suc k) ≡ n * 2 ^ k = place-even (n * 2 ^ suc k) (rw whole (omega arith)) ∙ rw whole (omega arith) in
    ap (places k) half ∙ places-higher k n

pub places-shifted : (k j n : ℕ) → places (k + j) (n * 2 ^ k) ≡ places j n
places-shifted k j n = places-add k j (n * 2 ^ k) ∙ ap (places j) (places-higher k n)

-- the lowest k bits of a number, and what stands above them
pub places-split : (k j n : ℕ) → places (k + j) n ≡ bit_xor (places (k + j) (n % 2 ^ k)) (places j (n / 2 ^ k))
places-split k j n =
    let parts : bit_xor (n / 2 ^ k * 2 ^ k) (n % 2 ^ k) ≡ n = xor_shifted (n / 2 ^ k) k (n % 2 ^ k) (mod_below n (2 ^ k) (pow_pos k)) ∙ shr_split n k in
    let split : places (k + j) n ≡ bit_xor (places (k + j) (n / 2 ^ k * 2 ^ k)) (places (k + j) (n % 2 ^ k)) =
    sym (ap (places (k + j)) parts) ∙ places-xor (k + j) (n / 2 ^ k * 2 ^ k) (n % 2 ^ k) in
    split ∙ xor_comm (places (k + j) (n / 2 ^ k * 2 ^ k)) (places (k + j) (n % 2 ^ k))
    ∙ ap (bit_xor (places (k + j) (n % 2 ^ k))) (places-shifted k j (n / 2 ^ k))
