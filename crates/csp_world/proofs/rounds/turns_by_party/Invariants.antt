use Rattle.std.proofs.Common.{◌≡◌, ℕ, ◌-◌, ◌<◌, ◌≤◌, length}
use Rattle.std.specs.Prelude.{slice_index}
use Rattle.csp_world.specs.declared.limits.TheConstants.{TURNS_PER_ROUND}
use Rattle.csp_world.specs.Holders.{counts}
use Rattle.csp_world.specs.Schedule.{turns}
use Rattle.csp_world.proofs.ScheduleLemmas.{places_from}
use Rattle.csp_world.proofs.rounds.turns_by_party.Given as goal

-- what is left from here is what was to do at the start, and the logs of the parties to come have room
abbrev pub invariant-loop-place : goal.invariant-loop-place
invariant-loop-place l = record {
  left : turns l.world.plain (places_from l.place (l.place-end - l.place)) ≡ turns l.initial.world.plain (places_from 0 l.place-end);
  parties : length l.world.plain.members ≡ l.place-end;
  counts : counts l.world.plain ≡ counts l.initial.world.plain;
  room : (k : ℕ) → l.place ≤ k → k < l.place-end → TURNS_PER_ROUND ≤ slice_index l.world.spares k;
}
