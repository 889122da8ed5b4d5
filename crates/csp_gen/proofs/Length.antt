-- How long a generated text is at most.
use Rattle.std.proofs.Common.{◌≡◌, ℕ, zero, suc, ◌+◌, ◌*◌, ◌/◌, ◌%◌, ◌≤◌, Bool, true, false, cond, eqb, List, [], ◌∷◌, ◌++◌, length, map, arith, length-append, append-nil}
use Rattle.std.specs.Prelude.{codes}
use Rattle.std.specs.Fmt.{decimal}
use Rattle.std.specs.List.{range_with_len, flat_map}
use Rattle.std.proofs.lemmas.Fmt.{length-decimal-le}
use Rattle.std.proofs.lemmas.List.Concat.{flat_map-append}
use Rattle.csp_gen.specs.Lines.{ended_line, text_of}
use Rattle.csp_gen.specs.GenText.{harm_of, frame_at, fault_line, fault_lines, network_lines, sender_lines, taker_lines, scenario_lines, gen_text}
use Rattle.csp_gen.specs.declared.faults.TheConstants.{PACKETS_PER_FAULT}
use Rattle.csp_gen.specs.declared.scenario.TheConstants.{MAX_PACKETS, MAX_TEXT}
use Rattle.csp_gen.proofs.Draws.{few_frames}

harm_short : (j : ℕ) → length (harm_of j) ≤ 8
harm_short j = one (eqb (j % 3) 1) (eqb (j % 3) 2)
  where
    one : (t u : Bool) → length (cond t (codes "lose") (cond u (codes "repeat 1") (codes "delay 5"))) ≤ 8
    one true u = omega arith
    one false true = omega arith
    one false false = omega arith

line_length : (a d s h : List ℕ) → length (ended_line (a ++ d ++ s ++ h)) ≡ length a + length d + length s + length h + 1
line_length a d s h = simp length-append

pub fault_short : (packets j : ℕ) → j ≤ 25 → length (ended_line (fault_line packets j)) ≤ 64
fault_short packets j few =
    let frames = few_frames packets j in
    let digits : length (decimal (frame_at packets j)) ≤ 3 = length-decimal-le 3 (frame_at packets j) (omega arith) (omega arith) (omega arith) in
    let harm = harm_short j in
    let whole = line_length (codes "fault radio ab ") (decimal (frame_at packets j)) (codes " ") (harm_of j) in
    omega (arith, whole, digits, harm)

faults_short : (packets a k : ℕ) → a + k ≤ 26 → length (text_of (map (fault_line packets) (range_with_len a k))) ≤ 64 * k
faults_short packets a zero h = omega arith
faults_short packets a (suc k) h =
    let one = fault_short packets a (omega arith) in
    let others = faults_short packets (a + 1) k (omega arith) in
    let whole = length-append (ended_line (fault_line packets a)) (text_of (map (fault_line packets) (range_with_len (a + 1) k))) in
    omega (arith, one, others, whole)

lines_length : (f : List ℕ → List ℕ) (n d t k : List (List ℕ)) → length (flat_map f (n ++ d ++ t ++ k)) ≡ length (flat_map f n) + length (flat_map f d) + length (flat_map f t) + length (flat_map f k)
lines_length f n d t k = simp (flat_map-append, length-append)

three_length : (a b u d v : List ℕ) → length (text_of (a ∷ b ∷ (u ++ d ++ v) ∷ [])) ≡ (length a + 1) + ((length b + 1) + (length u + length d + length v + 1))
three_length a b u d v = simp length-append (omega arith)

sender_short : (packets : ℕ) → packets ≤ MAX_PACKETS → length (text_of (sender_lines packets)) ≤ 64
sender_short packets most =
    let digits : length (decimal packets) ≤ 3 = length-decimal-le 3 packets (omega arith) (omega arith) (omega arith) in
    let whole = three_length (codes "app ground ops") (codes "connect 0 3 10 crc rdp") (codes "burst 0 ") (decimal packets) (codes " 100") in
    omega (arith, whole, digits)

taker_short : (packets : ℕ) → packets ≤ MAX_PACKETS → length (text_of (taker_lines packets)) ≤ 64
taker_short packets most =
    let digits : length (decimal packets) ≤ 3 = length-decimal-le 3 packets (omega arith) (omega arith) (omega arith) in
    let end : length (decimal packets ++ 10 ∷ [] ++ []) ≡ length (decimal packets) + 1 = simp (append-nil, length-append) in
    omega (arith, end, digits)

pub text_short : (packets : ℕ) → packets ≤ MAX_PACKETS → length (gen_text packets) ≤ MAX_TEXT
unfolding gen_text scenario_lines
text_short packets most =
    let count : packets / 20 ≤ 25 = omega arith in
    let whole = lines_length ended_line network_lines (fault_lines packets) (sender_lines packets) (taker_lines packets) in
    let faults = faults_short packets 1 (packets / PACKETS_PER_FAULT) (omega arith) in
    let sender = sender_short packets most in
    let taker = taker_short packets most in
    omega (arith, whole, faults, sender, taker)
