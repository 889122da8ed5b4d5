use Rattle.std.proofs.Common.{◌≡◌, ℕ, ◌+◌, ◌<◌, length, get_or}
use Rattle.csp_ring.proofs.shapes.RuledRing.open.Given as goal

abbrev pub invariant-loop-i : goal.invariant-loop-i
invariant-loop-i g l = (length l.row ≡ l.capacity + 48) × (get_or l.row 16 0 ≡ 0) × (get_or l.row 32 0 ≡ 0) × ((j : ℕ) → j < l.i → get_or l.row (j + 48) 0 ≡ j)
