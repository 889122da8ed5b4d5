use Rattle.std.proofs.Common.{◌≡◌, ◌<◌, ◌+◌, ◌++◌, ℕ, length}
use Rattle.std.specs.List.{AllByRecursion}
use Rattle.csp_opening.specs.Handed.{HaveRoom, IsAmong, handed_among, list_at, room_at}
use Rattle.csp_opening.proofs.sides.hand_out_at.Given as goal

-- what was handed out, then what is still to be, is all
abbrev pub invariant-loop-pair : goal.invariant-loop-pair
invariant-loop-pair l = record {
  low : l.lane + length l.pairs.items < 256;
  among : AllByRecursion (IsAmong (length l.sides.items)) l.pairs.items;
  room : HaveRoom l.sides.items (λ p. length (handed_among p l.node l.lane l.pairs.items));
  count : length l.sides.items ≡ length l.fn.sides.items;
  lists : (p : ℕ) → p < length l.fn.sides.items → list_at l.sides.items p ++ handed_among p l.node l.lane l.pairs.items ≡ list_at l.fn.sides.items p ++ handed_among p l.node 0 l.fn.pairs.items;
  rooms : (p : ℕ) → p < length l.fn.sides.items → room_at l.sides.items p ≡ room_at l.fn.sides.items p;
}

abbrev pub decreases-loop-pair : goal.decreases-loop-pair
decreases-loop-pair l = length l.pairs.items
