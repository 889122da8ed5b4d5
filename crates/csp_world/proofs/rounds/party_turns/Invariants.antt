use Rattle.std.proofs.Common.{◌≡◌, ◌≢◌, ℕ, ◌+◌, ◌-◌, ◌≤◌, length}
use Rattle.std.specs.Prelude.{replicate, slice_index}
use Rattle.csp_world.specs.declared.limits.TheConstants.{TURNS_PER_ROUND}
use Rattle.csp_world.specs.Holders.{counts}
use Rattle.csp_world.specs.Schedule.{turns}
use Rattle.csp_world.proofs.rounds.party_turns.Given as goal

-- what is left from here is what was to do once some turns were taken
abbrev pub invariant-loop : goal.invariant-loop
invariant-loop l = record {
  left : turns l.world.plain (replicate (TURNS_PER_ROUND - l.counter) l.place) ≡ turns l.initial.world.plain (replicate (TURNS_PER_ROUND - l.taken) l.place);
  parties : length l.world.plain.members ≡ length l.initial.world.plain.members;
  room : TURNS_PER_ROUND ≤ slice_index l.world.spares l.place + l.counter;
  counts : counts l.world.plain ≡ counts l.initial.world.plain;
  others : (k : ℕ) → k ≢ l.place → slice_index l.world.spares k ≡ slice_index l.initial.world.spares k;
}
