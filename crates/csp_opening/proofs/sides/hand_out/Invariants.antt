use Rattle.std.proofs.Common.{◌≡◌, ◌<◌, ◌+◌, ◌++◌, ℕ, length, map}
use Rattle.std.specs.List.{AllByRecursion}
use Rattle.csp_opening.specs.Handed.{HaveRoom, IsAmong, handed_from, list_at, room_at}
use Rattle.csp_opening.proofs.sides.hand_out.Given as goal

-- what was handed out, then what is still to be, is all
abbrev pub invariant-loop-pairs : goal.invariant-loop-pairs
invariant-loop-pairs l = record {
  low : l.node + length l.nodes.items < 256;
  few : AllByRecursion (λ pairs. length pairs.items < 256) l.nodes.items;
  among : AllByRecursion (λ pairs. AllByRecursion (IsAmong (length l.sides.items)) pairs.items) l.nodes.items;
  room : HaveRoom l.sides.items (λ p. length (handed_from p l.node (map (λ pairs. pairs.items) l.nodes.items)));
  count : length l.sides.items ≡ length l.fn.sides.items;
  lists : (p : ℕ) → p < length l.fn.sides.items → list_at l.sides.items p ++ handed_from p l.node (map (λ pairs. pairs.items) l.nodes.items) ≡ list_at l.fn.sides.items p ++ handed_from p 0 (map (λ pairs. pairs.items) l.fn.nodes.items);
  rooms : (p : ℕ) → p < length l.fn.sides.items → room_at l.sides.items p ≡ room_at l.fn.sides.items p;
}

abbrev pub decreases-loop-pairs : goal.decreases-loop-pairs
decreases-loop-pairs l = length l.nodes.items
