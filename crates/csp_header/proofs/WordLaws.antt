-- a header and its word
use Rattle.std.proofs.Common.{◌≡◌, ℕ, ◌/◌, ◌%◌, ◌^◌, ◌<◌, ap, ◌∙◌, arith}
use Rattle.csp_base.specs.Priority.{prio_number, prio_of}
use Rattle.csp_base.proofs.Public.{prio_of-prio_number, prio_number-prio_of, prio_number_small}
use Rattle.csp_header.specs.declared.word.Header.{Header}
use Rattle.csp_header.specs.Word.{word_of, header_at, IsInRange}

pub word_of_small : (h : Header) → IsInRange h → word_of h < 2 ^ 32
word_of_small h r = let p = prio_number_small h.prio in omega (arith, r.src, r.dst, r.dport, r.sport, r.flags)

pub header_at-word_of : (h : Header) → IsInRange h → header_at (word_of h) ≡ h
header_at-word_of h r =
    let top : word_of h / 2 ^ 30 ≡ prio_number h.prio = omega (arith, r.src, r.dst, r.dport, r.sport, r.flags) in
    let prio : prio_of (word_of h / 2 ^ 30) ≡ h.prio = ap prio_of top ∙ prio_of-prio_number h.prio in
    let src : word_of h / 2 ^ 25 % 32 ≡ h.src = omega (arith, r.src, r.dst, r.dport, r.sport, r.flags) in
    let dst : word_of h / 2 ^ 20 % 32 ≡ h.dst = omega (arith, r.src, r.dst, r.dport, r.sport, r.flags) in
    let dport : word_of h / 2 ^ 14 % 64 ≡ h.dport = omega (arith, r.src, r.dst, r.dport, r.sport, r.flags) in
    let sport : word_of h / 2 ^ 8 % 64 ≡ h.sport = omega (arith, r.src, r.dst, r.dport, r.sport, r.flags) in
    let flags : word_of h % 256 ≡ h.flags.0 = omega (arith, r.src, r.dst, r.dport, r.sport, r.flags) in
    λ i. record { prio = prio i; src = src i; dst = dst i; dport = dport i; sport = sport i; flags = record { 0 = flags i } }

pub word_of-header_at : (w : ℕ) → w < 2 ^ 32 → word_of (header_at w) ≡ w
word_of-header_at w h =
    let p : prio_number (prio_of (w / 2 ^ 30)) ≡ w / 2 ^ 30 = prio_number-prio_of _ (omega arith) in omega arith
