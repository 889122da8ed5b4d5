-- A register and a sum of four registers, part by part.
use Rattle.std.proofs.Common.{◌≡◌, ℕ, ◌+◌, ◌-◌, ◌*◌, ◌/◌, ◌%◌, ◌^◌, ◌<◌, ◌≤◌, ap, sym, ◌∙◌, refl, arith, bit_xor}
use Rattle.std.proofs.lemmas.Nat.{shr-shr}
use Rattle.csp_crc.specs.Register.{places, byte_remainder}
use Rattle.csp_crc.proofs.Numbers.{places-xor, places-add, places-shifted, places-split}
use Rattle.csp_crc.proofs.Division.{remainder-byte}

pub four-bytes : (r : ℕ) → r < 2 ^ 32 →
    places 128 r ≡ bit_xor (byte_remainder 15 (r % 2 ^ 8)) (bit_xor (byte_remainder 14 (r / 2 ^ 8 % 2 ^ 8)) (bit_xor (byte_remainder 13 (r / 2 ^ 16 % 2 ^ 8)) (byte_remainder 12 (r / 2 ^ 24))))
four-bytes r h =
    let first : places 128 r ≡ bit_xor (byte_remainder 15 (r % 2 ^ 8)) (places 120 (r / 2 ^ 8)) =
    places-split 8 120 r ∙ ap (λ n. bit_xor n (places 120 (r / 2 ^ 8))) (sym (remainder-byte 15 (r % 2 ^ 8) (omega arith))) in
    let second : places 120 (r / 2 ^ 8) ≡ bit_xor (byte_remainder 14 (r / 2 ^ 8 % 2 ^ 8)) (places 112 (r / 2 ^ 16)) =
    places-split 8 112 (r / 2 ^ 8) ∙ rw (shr-shr r 8 8, remainder-byte 14 (r / 2 ^ 8 % 2 ^ 8) (omega arith)) refl in
    let third : places 112 (r / 2 ^ 16) ≡ bit_xor (byte_remainder 13 (r / 2 ^ 16 % 2 ^ 8)) (places 104 (r / 2 ^ 24)) =
    places-split 8 104 (r / 2 ^ 16) ∙ rw (shr-shr r 16 8, remainder-byte 13 (r / 2 ^ 16 % 2 ^ 8) (omega arith)) refl in
    rw (first, second, third, remainder-byte 12 (r / 2 ^ 24) (omega arith)) refl

-- what a word left, k places further on, is left of the word k places before
word_left : (k left x : ℕ) → k ≤ left → places left (places 128 x * 2 ^ k) ≡ places (128 + (left - k)) x
word_left k left x h =
    let parts : left ≡ k + (left - k) = omega arith in
    ap (λ n. places n (places 128 x * 2 ^ k)) parts ∙ places-shifted k (left - k) (places 128 x) ∙ sym (places-add 128 (left - k) x)

pub four-words : (sum later left : ℕ) → sum < 2 ^ 128 → 96 ≤ left →
    places (128 + left) (bit_xor sum (later * 2 ^ 128))
    ≡ places left (bit_xor (bit_xor (places 128 (sum % 2 ^ 32)) (bit_xor (places 128 (sum / 2 ^ 32 % 2 ^ 32) * 2 ^ 32) (bit_xor (places 128 (sum / 2 ^ 64 % 2 ^ 32) * 2 ^ 64) (places 128 (sum / 2 ^ 96 % 2 ^ 32) * 2 ^ 96)))) later)
four-words sum later left small h =
    let x0 : ℕ = sum % 2 ^ 32 in let x1 : ℕ = sum / 2 ^ 32 % 2 ^ 32 in let x2 : ℕ = sum / 2 ^ 64 % 2 ^ 32 in let x3 : ℕ = sum / 2 ^ 96 % 2 ^ 32 in
    let top : sum / 2 ^ 96 ≡ x3 = omega arith in
    let all : 128 + left ≡ 32 + (96 + left) = omega arith in
    let most : 96 + left ≡ 32 + (64 + left) = omega arith in
    let half : 64 + left ≡ 32 + (32 + left) = omega arith in
    let apart : places (128 + left) (bit_xor sum (later * 2 ^ 128)) ≡ bit_xor (places (128 + left) sum) (places left later) =
    places-xor (128 + left) sum (later * 2 ^ 128) ∙ ap (bit_xor (places (128 + left) sum)) (places-shifted 128 left later) in
    let first : places (128 + left) sum ≡ bit_xor (places (128 + left) x0) (places (96 + left) (sum / 2 ^ 32)) = rw all (places-split 32 (96 + left) sum) in
    let second : places (96 + left) (sum / 2 ^ 32) ≡ bit_xor (places (96 + left) x1) (places (64 + left) (sum / 2 ^ 64)) =
    rw (most, ← shr-shr sum 32 32) (places-split 32 (64 + left) (sum / 2 ^ 32)) in
    let third : places (64 + left) (sum / 2 ^ 64) ≡ bit_xor (places (64 + left) x2) (places (32 + left) x3) =
    rw (half, ← top, ← shr-shr sum 64 32) (places-split 32 (32 + left) (sum / 2 ^ 64)) in
    let at0 : places left (places 128 x0) ≡ places (128 + left) x0 = sym (places-add 128 left x0) in
    let at1 : places left (places 128 x1 * 2 ^ 32) ≡ places (96 + left) x1 = let n : 128 + (left - 32) ≡ 96 + left = omega arith in word_left 32 left x1 (omega arith) ∙ rw n refl in
    let at2 : places left (places 128 x2 * 2 ^ 64) ≡ places (64 + left) x2 = let n : 128 + (left - 64) ≡ 64 + left = omega arith in word_left 64 left x2 (omega arith) ∙ rw n refl in
    let at3 : places left (places 128 x3 * 2 ^ 96) ≡ places (32 + left) x3 = let n : 128 + (left - 96) ≡ 32 + left = omega arith in word_left 96 left x3 (omega arith) ∙ rw n refl in
    let y0 : ℕ = places 128 x0 in let y1 : ℕ = places 128 x1 * 2 ^ 32 in let y2 : ℕ = places 128 x2 * 2 ^ 64 in let y3 : ℕ = places 128 x3 * 2 ^ 96 in
    let right : places left (bit_xor (bit_xor y0 (bit_xor y1 (bit_xor y2 y3))) later) ≡ bit_xor (bit_xor (places left y0) (bit_xor (places left y1) (bit_xor (places left y2) (places left y3)))) (places left later) =
    rw (places-xor left (bit_xor y0 (bit_xor y1 (bit_xor y2 y3))) later, places-xor left y0 (bit_xor y1 (bit_xor y2 y3)), places-xor left y1 (bit_xor y2 y3), places-xor left y2 y3) refl in
    apart ∙ rw (first, second, third) (sym (right ∙ rw (at0, at1, at2, at3) refl))
