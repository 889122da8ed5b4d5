-- queues with their regions, and without
use Rattle.std.proofs.Common.{◌≡◌, ℕ, zero, suc, ◌<◌, List, [], ◌∷◌, length, map, get_or, Some, refl, ap, ◌∙◌, arith}
use Rattle.std.specs.List.{slice_get, slice_set}
use Rattle.std.specs.Prelude.{IsSomeAnd}
use Rattle.std.proofs.lemmas.Option.{slice_get-map, slice_get-get_or}
use Rattle.std.proofs.lemmas.List.{length-map}
use Rattle.csp_lists.specs.PlainDeck.{PlainQueue}
use Rattle.csp_lists.specs.Regioned.{QueueAt}

-- the queue itself
abbrev pub plain : QueueAt → PlainQueue
plain q = q.queue

-- one that was read
pub read_at : (qs : List QueueAt) (at : ℕ) (q : QueueAt) → q ≡ get_or qs at q → at < length (map plain qs) → slice_get (map plain qs) at ≡ Some q.queue
read_at qs at q read within =
    let here : at < length qs = rw (length-map qs plain) at within in
    slice_get-map plain qs at ∙ rw (slice_get-get_or qs at q here, ← read) refl

-- one that was written
pub written_at : (qs : List QueueAt) (at : ℕ) (new : QueueAt) → map plain (slice_set qs at new) ≡ slice_set (map plain qs) at new.queue
written_at [] at new = refl
written_at (q ∷ qs) zero new = refl
written_at (q ∷ qs) (suc at) new = ap (λ xs. q.queue ∷ xs) (written_at qs at new)

-- a position where something is known
pub within_by : (qs : List PlainQueue) (at : ℕ) (P : PlainQueue → Type 0) → IsSomeAnd (slice_get qs at) P → at < length qs
within_by [] at P h = absurd h
within_by (q ∷ qs) zero P h = omega arith
within_by (q ∷ qs) (suc at) P h = let more = within_by qs at P h in omega (arith, more)
