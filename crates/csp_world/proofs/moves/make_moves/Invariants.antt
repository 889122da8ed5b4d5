use Rattle.std.proofs.Common.{◌≡◌, ◌+◌, ◌≤◌, drop}
use Rattle.csp_world.specs.Holders.{counts}
use Rattle.csp_world.specs.World.{entries}
use Rattle.csp_world.specs.Schedule.{names, moves}
use Rattle.csp_world.proofs.moves.make_moves.Given as goal

-- what is left from here is what was to do at the start; each move adds at most one entry, and completes at most one round
abbrev pub invariant-loop-next : goal.invariant-loop-next
invariant-loop-next l = record {
  left : moves l.world.plain (drop l.next-index l.moves) ≡ moves l.initial.world.plain l.moves;
  names : names l.world.plain ≡ names l.initial.world.plain;
  counts : counts l.world.plain ≡ counts l.initial.world.plain;
  time : l.world.plain.time ≤ l.initial.world.plain.time + l.next-index;
  fits : entries l.world.plain ≤ entries l.initial.world.plain + l.next-index;
}
