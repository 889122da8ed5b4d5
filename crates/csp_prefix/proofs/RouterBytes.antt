-- what is put into the bytes of a packet is what is read there
use Rattle.std.proofs.Common.{◌≡◌, ℕ, ◌+◌, ◌-◌, ◌%◌, ◌<◌, ◌==◌, Bool, true, false, Option, Some, List, ◌++◌, length, take, drop, refl, sym, ap, ◌∙◌, arith, length-append}
use Rattle.std.specs.Prelude.{nat_lt}
use Rattle.std.specs.Int.{from_be_bytes, to_be_bytes, w16, w32}
use Rattle.std.specs.Int.RustNames.{bit_and}
use Rattle.std.proofs.Math.Seq.{drop-append_seam, take-append_seam}
use Rattle.std.proofs.lemmas.Bool.{le-ltb}
use Rattle.std.proofs.lemmas.Nat.{and_assoc, and_mask, from_be_bytes-to_be_bytes_2, from_be_bytes-to_be_bytes_4}
use Rattle.csp_crc.proofs.Public.{payload_of-right, crc_of-lt}
use Rattle.csp_crc.specs.Check.{payload_of}
use Rattle.csp_crc.specs.Crc.{checked, crc_of}
use Rattle.csp_header.specs.Word.{header_at, word_of}
use Rattle.csp_header.specs.declared.word.Header.{Header}
use Rattle.csp_rdp_header.specs.Head.{head_bytes, head_of, parted}
use Rattle.csp_rdp_header.specs.declared.head.RdpHead.{RdpHead}
use Rattle.csp_ports.specs.Asking.{is_reliable}
use Rattle.csp_stack.specs.Readings.{is_checked}
use Rattle.csp_prefix.specs.Flows.{with_checksum}
use Rattle.csp_prefix.proofs.RouterStanding.{unwrapped}

-- a checksum is cut off
pub checked_back : (raw : List ℕ) → payload_of (checked raw) ≡ Some raw
unfolding checked
checked_back raw =
    let last : List ℕ = to_be_bytes w32 (crc_of raw) in
    let long : length (raw ++ last) ≡ length raw + 4 = length-append raw last in
    let before : length (raw ++ last) - 4 ≡ length raw = omega (arith, long) in
    payload_of-right (raw ++ last) raw last (crc_of raw) (omega (arith, long))
    (sym (ap (λ n. take n (raw ++ last)) before ∙ take-append_seam raw last)) (sym (ap (λ n. drop n (raw ++ last)) before ∙ drop-append_seam raw last))
    (sym (from_be_bytes-to_be_bytes_4 (crc_of raw) (crc_of-lt raw))) refl

pub unwrapped_is : (has : Bool) (raw payload : List ℕ) → unwrapped has (with_checksum has raw) ≡ Some payload → raw ≡ payload
unwrapped_is false raw payload e = cc
unwrapped_is true raw payload e = let same : ◌≡◌ {A = Option (List ℕ)} (Some raw) (Some payload) = sym (checked_back raw) ∙ e in cc

-- a head
head_back : (h : RdpHead) → h.seq.0 < 65536 → h.ack.0 < 65536 → head_of (head_bytes h) ≡ h
head_back h seq ack =
    let one : from_be_bytes w16 (to_be_bytes w16 h.seq.0) ≡ h.seq.0 = from_be_bytes-to_be_bytes_2 h.seq.0 seq in
    let two : from_be_bytes w16 (to_be_bytes w16 h.ack.0) ≡ h.ack.0 = from_be_bytes-to_be_bytes_2 h.ack.0 ack in
    λ i. record { flags = h.flags; seq = record { 0 = one i }; ack = record { 0 = two i } }

pub parted_back : (bytes : List ℕ) (h : RdpHead) → h.seq.0 < 65536 → h.ack.0 < 65536 → parted (bytes ++ head_bytes h) ≡ Some (bytes, h)
parted_back bytes h seq ack =
    let long : length (bytes ++ head_bytes h) ≡ length bytes + 5 = length-append bytes (head_bytes h) in
    let before : length (bytes ++ head_bytes h) - 5 ≡ length bytes = omega (arith, long) in
    let front : take (length (bytes ++ head_bytes h) - 5) (bytes ++ head_bytes h) ≡ bytes = ap (λ n. take n (bytes ++ head_bytes h)) before ∙ take-append_seam bytes (head_bytes h) in
    let back : head_of (drop (length (bytes ++ head_bytes h) - 5) (bytes ++ head_bytes h)) ≡ h = ap head_of (ap (λ n. drop n (bytes ++ head_bytes h)) before ∙ drop-append_seam bytes (head_bytes h)) ∙ head_back h seq ack in
    let enough : nat_lt (length (bytes ++ head_bytes h)) 5 ≡ false = le-ltb (length (bytes ++ head_bytes h)) 5 (omega (arith, long)) in
    rw enough (λ i. Some (front i, back i))

-- the flag of a checksum
flag_bit : (n m : ℕ) → n % 2 ≡ m % 2 → bit_and n 1 ≡ bit_and m 1
flag_bit n m e = and_mask n 1 ∙ e ∙ sym (and_mask m 1)

pub checked_flag : (h : Header) → is_checked (header_at (word_of h)) ≡ is_checked h
checked_flag h = ap (λ n. n == 1) (flag_bit (word_of h % 256) h.flags.0 (omega arith))

-- two bits of a number are those of its rest by four
second_bit : (n m : ℕ) → n % 4 ≡ m % 4 → bit_and n 2 ≡ bit_and m 2
second_bit n m e = sym (and_assoc 2 n 3) ∙ ap (λ k. bit_and k 2) (and_mask n 2 ∙ e ∙ sym (and_mask m 2)) ∙ and_assoc 2 m 3

pub reliable_flag : (h : Header) → is_reliable (header_at (word_of h)).flags.0 ≡ is_reliable h.flags.0
reliable_flag h = ap (λ n. n == 2) (second_bit (word_of h % 256) h.flags.0 (omega arith))
