use Rattle.std.proofs.Common.{◌≡◌, ℕ, ◌<◌, false, Some, slice_get}
use Rattle.csp_ends.specs.Ends.{PlainSide}
use Rattle.csp_ends.specs.Sides.{is_back}
use Rattle.csp_ends.proofs.sides.back_position.Given as goal

-- of none before this place do the marks tell
abbrev pub invariant-loop-place : goal.invariant-loop-place
invariant-loop-place l = (s : PlainSide) → slice_get l.sides l.at ≡ Some s → (k : ℕ) (t : PlainSide) → k < l.place → slice_get l.sides k ≡ Some t → is_back s t ≡ false
