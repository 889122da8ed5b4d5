use Rattle.std.proofs.Common.{◌≡◌, ℕ, ◌<◌, false, Some, slice_get}
use Rattle.csp_consistent.specs.Reading.{is_queue}
use Rattle.csp_ends.specs.Ends.{PlainSide}
use Rattle.csp_ends.proofs.sides.position.Given as goal

-- none before this place is called so
abbrev pub invariant-loop-at : goal.invariant-loop-at
invariant-loop-at l = (k : ℕ) (s : PlainSide) → k < l.at → slice_get l.sides k ≡ Some s → is_queue l.queue s.queue ≡ false
