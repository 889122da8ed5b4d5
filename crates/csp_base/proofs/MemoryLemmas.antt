-- Lemmas on a list that is read piece by piece from the front.
use Rattle.std.proofs.Common.{◌≡◌, ℕ, ◌+◌, ◌-◌, ◌<◌, ◌≤◌, List, [], ◌++◌, length, take, drop, min, sym, ◌∙◌, ap, arith, length-drop}
use Rattle.std.proofs.lemmas.List.{take-append-drop, take-append-le, drop-drop, nil_from_length}
use Rattle.std.proofs.Math.Seq.{take-append-add}

-- the next n bytes and the bytes after them are the bytes that were left
pub read_front : (xs read : List ℕ) (at n : ℕ) → read ≡ take n (drop at xs) → drop at xs ≡ read ++ drop (at + n) xs
read_front xs read at n e = rw (e, ← drop-drop n at xs) (sym (take-append-drop n (drop at xs)))

-- no byte was read into a buffer with room only where none is left
pub none_left : (xs : List ℕ) (at n room : ℕ) → n ≡ min (length xs - at) room → n ≡ 0 → 0 < room → drop (at + n) xs ≡ []
none_left xs at n room e z h = nil_from_length _ (omega (arith, length-drop (at + n) xs))

-- bytes copied behind a front that stays stand there after it
pub copied_behind : (front new rest from : List ℕ) (at n : ℕ) → length front ≡ at → n ≤ length new → take n new ≡ take n from → take (at + n) (front ++ (new ++ rest)) ≡ front ++ take n from
copied_behind front new rest from at n e h p =
    rw (← e) (take-append-add front (new ++ rest) n ∙ ap (λ t. front ++ t) (take-append-le n new rest h ∙ p))
