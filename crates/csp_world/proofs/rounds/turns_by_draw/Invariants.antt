use Rattle.std.proofs.Common.{◌≡◌, ◌+◌, ◌-◌, ◌≤◌, length}
use Rattle.csp_world.specs.Holders.{counts}
use Rattle.csp_world.specs.World.{entries}
use Rattle.csp_world.specs.Schedule.{turns, drawn_places, draws}
use Rattle.csp_world.proofs.rounds.turns_by_draw.Given as goal

-- what is left from here is what was to do at the start, and each turn adds at most one entry
abbrev pub invariant-loop : goal.invariant-loop
invariant-loop l = record {
  left : turns l.world.plain (drawn_places l.parties (l.end - l.counter) l.number) ≡ turns l.initial.world.plain (drawn_places l.parties l.end l.initial.number);
  number : draws (l.end - l.counter) l.number ≡ draws l.end l.initial.number;
  parties : length l.world.plain.members ≡ l.parties;
  counts : counts l.world.plain ≡ counts l.initial.world.plain;
  fits : entries l.world.plain ≤ entries l.initial.world.plain + l.counter;
}
