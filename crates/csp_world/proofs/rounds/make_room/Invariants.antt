use Rattle.std.proofs.Common.{◌≡◌, ℕ, ◌<◌, ◌≤◌}
use Rattle.std.specs.Prelude.{slice_index}
use Rattle.csp_world.specs.declared.limits.TheConstants.{TURNS_PER_ROUND}
use Rattle.csp_world.proofs.rounds.make_room.Given as goal

abbrev pub invariant-loop-place : goal.invariant-loop-place
invariant-loop-place l = record {
  plain : l.world.plain ≡ l.initial.world.plain;
  room : (k : ℕ) → k < l.place → TURNS_PER_ROUND ≤ slice_index l.world.spares k;
}
