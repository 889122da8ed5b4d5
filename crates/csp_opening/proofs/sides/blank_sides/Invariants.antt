use Rattle.std.proofs.Common.{◌≡◌, ◌<◌, ◌≤◌, ℕ, [], length, vec_len, vec_capacity}
use Rattle.std.specs.List.{sum_by}
use Rattle.csp_opening.specs.Handed.{ends_among, list_at, room_at}
use Rattle.csp_opening.proofs.sides.blank_sides.Given as goal

abbrev pub invariant-loop-place : goal.invariant-loop-place
invariant-loop-place l = record {
  count : length l.sides.items ≡ l.place;
  len : vec_len l.sides ≡ l.place;
  capacity : vec_capacity l.sides ≡ l.parties;
  none : (p : ℕ) → list_at l.sides.items p ≡ [];
  rooms : (p : ℕ) → p < l.place → sum_by (λ ws. ends_among p ws.items) l.wires ≤ room_at l.sides.items p;
}
