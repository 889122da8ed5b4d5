-- the pieces of the blobs that steps send
use Rattle.std.proofs.Common.{◌≡◌, ℕ, ◌+◌, ◌-◌, ◌*◌, ◌/◌, ◌%◌, ◌^◌, ◌≤◌, ◌<◌, min, Bool, true, false, nat_le, List, [], ◌∷◌, ◌++◌, length, take, drop, map, refl, sym, ap, ap₂, ◌∙◌, arith, length-append}
use Rattle.std.specs.List.{range_with_len}
use Rattle.std.specs.Int.{to_be_bytes, w32}
use Rattle.std.proofs.Math.Seq.{drop-append_seam}
use Rattle.std.proofs.lemmas.Bool.{leb-true, leb-false}
use Rattle.std.proofs.lemmas.List.{drop_all, take_all}
use Rattle.std.proofs.lemmas.List.FromFn.{take-map-range_with_len}
use Rattle.csp_app.proofs.Bursts.{burst_joined, burst_length}
use Rattle.csp_app.specs.Making.{batch_of, blob_bytes, blob_piece, burst_bytes, filled}
use Rattle.csp_app.specs.PlainStep.{PlainStep}
use Rattle.csp_app.specs.PlainStep as step
use Rattle.csp_app.specs.Room.{IsStep}
use Rattle.csp_app.specs.declared.packets.TheConstants.{FIRST_BYTE}
use Rattle.csp_buffer.specs.Content.{Content}
use Rattle.csp_deck.specs.Carried.{IsUpItem}
use Rattle.csp_log.specs.declared.shown.ItemShown.TheVariants as item
use Rattle.csp_sfp.specs.Trailer.{trailer_bytes}

-- what follows the first bytes of a burst's packet starts that much later
drop_burst : (off len j : ℕ) → drop off (burst_bytes len j) ≡ burst_bytes (len - off) (j + off)
drop_burst off len j = by (nat_le off len) refl
  where
    by : (b : Bool) → nat_le off len ≡ b → drop off (burst_bytes len j) ≡ burst_bytes (len - off) (j + off)
    by true e =
        let h : off ≤ len = leb-true off len e in
        let parts : len ≡ off + (len - off) = omega (arith, h) in
        let joined : burst_bytes len j ≡ burst_bytes off j ++ burst_bytes (len - off) (j + off) = ap (λ (n : ℕ). burst_bytes n j) parts ∙ burst_joined off (len - off) j in
        ap (drop off) joined ∙ ap (λ (n : ℕ). drop n (burst_bytes off j ++ burst_bytes (len - off) (j + off))) (sym (burst_length off j)) ∙ drop-append_seam (burst_bytes off j) (burst_bytes (len - off) (j + off))
    by false e =
        let h : len < off = leb-false off len e in
        let none : len - off ≡ 0 = omega (arith, h) in
        drop_all off (burst_bytes len j) (omega (arith, h, burst_length len j)) ∙ ap (λ (n : ℕ). burst_bytes n (j + off)) (sym none)

-- the first bytes of a burst's packet
take_burst : (size n j : ℕ) → take size (burst_bytes n j) ≡ burst_bytes (min n size) j
take_burst size n j = by (nat_le size n) refl
  where
    by : (b : Bool) → nat_le size n ≡ b → take size (burst_bytes n j) ≡ burst_bytes (min n size) j
    by true e =
        let h : size ≤ n = leb-true size n e in
        let least : min n size ≡ size = omega (arith, h) in
        take-map-range_with_len (λ i. (j + i) % 256) 0 n size h ∙ ap (λ (k : ℕ). burst_bytes k j) (sym least)
    by false e =
        let h : n < size = leb-false size n e in
        let least : min n size ≡ n = omega (arith, h) in
        take_all size (burst_bytes n j) (omega (arith, h, burst_length n j)) ∙ ap (λ (k : ℕ). burst_bytes k j) (sym least)

-- four bytes are those of what is left of a number in 32 bits
word_bytes : (n : ℕ) → to_be_bytes w32 (n % 2 ^ 32) ≡ to_be_bytes w32 n
word_bytes n =
    let a : (n % 2 ^ 32) / 256 ^ 3 % 256 ≡ n / 256 ^ 3 % 256 = omega arith in
    let b : (n % 2 ^ 32) / 256 ^ 2 % 256 ≡ n / 256 ^ 2 % 256 = omega arith in
    let c : (n % 2 ^ 32) / 256 ^ 1 % 256 ≡ n / 256 ^ 1 % 256 = omega arith in
    let d : (n % 2 ^ 32) % 256 ≡ n % 256 = omega arith in
    rw (a, b, c, d) refl

-- a piece is its bytes of the blob, as many as there are up to its size, and the trailer
pub piece_is : (len size j : ℕ) → burst_bytes (min (len - j * size) size) (FIRST_BYTE + j * size) ++ trailer_bytes (j * size % 2 ^ 32) len ≡ blob_piece len size j
piece_is len size j =
    let off : ℕ = j * size in
    let part : take size (drop off (blob_bytes len)) ≡ burst_bytes (min (len - off) size) (FIRST_BYTE + off) = ap (take size) (drop_burst off len FIRST_BYTE) ∙ take_burst size (len - off) (FIRST_BYTE + off) in
    let first : trailer_bytes (off % 2 ^ 32) len ≡ trailer_bytes off len = ap (λ (bs : List ℕ). bs ++ to_be_bytes w32 len) (word_bytes off) in
    let total : trailer_bytes off len ≡ trailer_bytes off (length (blob_bytes len)) = ap (trailer_bytes off) (sym (burst_length len FIRST_BYTE)) in
    ap₂ (λ (xs ys : List ℕ). xs ++ ys) (sym part) (first ∙ total)

-- a piece has the eight bytes of its trailer, and at most its size besides
pub piece_length : (len size j : ℕ) → (1 ≤ length (blob_piece len size j)) × (length (blob_piece len size j) ≤ size + 8)
piece_length len size j =
    let off : ℕ = j * size in
    let count : ℕ = min (len - off) size in
    let whole : length (blob_piece len size j) ≡ count + 8 = ap length (sym (piece_is len size j)) ∙ (length-append (burst_bytes count (FIRST_BYTE + off)) (trailer_bytes (off % 2 ^ 32) len) ∙ ap (λ (n : ℕ). n + 8) (burst_length count (FIRST_BYTE + off))) in
    (omega (arith, whole), omega (arith, whole))

-- what a step that can be has made, `Up` carries
pub up_carries : (x : PlainStep) (j : ℕ) (b : Content) → IsStep x → IsUpItem (item.Packet (batch_of x).mark (filled (batch_of x) j b))
up_carries (step.Send slot bytes) j b h = λ _. h
up_carries (step.Burst slot count len) j b h = λ _. (h.0, rw (burst_length len j) h.2, rw (burst_length len j) h.3)
up_carries (step.Blob slot len size) j b h = λ _. (h.0, (piece_length len size j).0, omega (arith, (piece_length len size j).1, h.4))
up_carries step.Take j b h = λ ne. absurd (ne refl)
up_carries _ j b h = λ ne. absurd (ne refl)
