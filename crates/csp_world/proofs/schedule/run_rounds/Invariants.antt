use Rattle.std.proofs.Common.{◌≡◌, ◌+◌, ◌-◌, ◌<◌, length}
use Rattle.csp_world.specs.declared.limits.TheConstants.{MAX_ENTRIES}
use Rattle.csp_world.specs.Holders.{counts}
use Rattle.csp_world.specs.Schedule.{rounds}
use Rattle.csp_world.specs.World.{entries}
use Rattle.csp_world.proofs.schedule.run_rounds.Given as goal

-- the rounds that are left from here are those that were to be made at the start
abbrev pub invariant-loop : goal.invariant-loop
invariant-loop l = record {
  left : rounds (l.most - l.counter) l.order l.world.plain ≡ rounds l.most l.initial.order l.initial.world.plain;
  members : length l.world.plain.members ≡ length l.initial.world.plain.members;
  counts : counts l.world.plain ≡ counts l.initial.world.plain;
  time : l.world.plain.time ≡ l.initial.world.plain.time + l.counter;
  few : entries l.world.plain < MAX_ENTRIES;
}
