-- What lies where in a cell after a payload was appended to.
use Rattle.std.proofs.Common.{◌≡◌, ℕ, ◌+◌, ◌≤◌, List, ◌++◌, length, take, drop, arith, sym, ap, ◌∙◌, length-append, append_assoc}
use Rattle.std.proofs.lemmas.List.{take-append-le, drop-append-le, take_at, take-take, drop-take, length-take-le, length-drop}
use Rattle.std.specs.Int.{w32, from_be_bytes}
use Rattle.csp_base.specs.declared.traces.Trace.{Trace}
use Rattle.csp_arena.specs.Cells.{PlainCell}
use Rattle.csp_arena.specs.Places.{with_bytes}
use Rattle.csp_buffer.specs.PlainBuffer.{with_picture}
use Rattle.csp_buffer.specs.Words.{header_in, payload_in, kept_in, overwritten}

-- what stands before the place stays
pub take-overwritten : (xs ws : List ℕ) (at k : ℕ) → k ≤ at → at ≤ length xs → take k (overwritten xs at ws) ≡ take k xs
take-overwritten xs ws at k h fits =
    let long = length-take-le at xs fits in
    take-append-le k (take at xs) (ws ++ drop (at + length ws) xs) (omega (arith, long)) ∙ take-take k at xs h

-- what was written follows what stood before it
pub payload-overwritten : (xs ws : List ℕ) (n : ℕ) → 4 + n ≤ length xs → take (n + length ws) (drop 4 (overwritten xs (4 + n) ws)) ≡ take n (drop 4 xs) ++ ws
payload-overwritten xs ws n fits =
    let rest = drop (4 + n + length ws) xs in
    let front = take n (drop 4 xs) in
    let long = length-take-le (4 + n) xs fits in
    let after = length-take-le n (drop 4 xs) (omega (arith, length-drop 4 xs)) in
    ap (take (n + length ws)) (drop-append-le 4 (take (4 + n) xs) (ws ++ rest) (omega (arith, long)) ∙ ap (λ ys. ys ++ (ws ++ rest)) (drop-take 4 n xs) ∙ sym (append_assoc front ws rest))
    ∙ take_at (front ++ ws) rest (n + length ws) (omega (arith, after, length-append front ws))

-- writing over bytes leaves their count
pub length-overwritten : (xs ws : List ℕ) (at : ℕ) → at + length ws ≤ length xs → length (overwritten xs at ws) ≡ length xs
length-overwritten xs ws at fits =
    omega (arith, length-append (take at xs) (ws ++ drop (at + length ws) xs), length-append ws (drop (at + length ws) xs), length-drop (at + length ws) xs, length-take-le at xs (omega arith))

-- the whole of a list put over another of its length
pub put-whole : (xs ys : List ℕ) → length ys ≡ length xs → take (length xs) (ys ++ drop (length ys) xs) ≡ ys
put-whole xs ys same = take_at ys (drop (length ys) xs) (length xs) same

-- the buffer in its cell, once these bytes were written after the payload that it had
pub pushed : (c : PlainCell) (n : ℕ) (t : Trace) (ws : List ℕ) → 4 + n + length ws ≤ length c.bytes
    → kept_in (with_bytes c (overwritten c.bytes (4 + n) ws)) (n + length ws) t ≡ with_picture (kept_in c n t) (record { number = c.number; header = header_in c.bytes; payload = payload_in n c.bytes ++ ws; trace = t })
pushed c n t ws fits =
    let xs = c.bytes in
    let whole = put-whole xs (overwritten xs (4 + n) ws) (length-overwritten xs ws (4 + n) fits) in
    let header = ap (take 4) whole ∙ take-overwritten xs ws (4 + n) 4 (omega arith) (omega arith) in
    let payload = ap (payload_in (n + length ws)) whole ∙ payload-overwritten xs ws n (omega arith) in
    λ i. record { picture = record { number = c.number; header = from_be_bytes w32 (header i); payload = payload i; trace = t }; region = c.region }
