use Rattle.std.proofs.Common.{◌≡◌, ◌+◌, ◌*◌, ◌++◌, length}
use Rattle.csp_world.specs.Looking.{look_entries}
use Rattle.csp_world.proofs.looking.log_rounds.Given as goal

abbrev pub invariant-loop : goal.invariant-loop
invariant-loop l = record {
  entries : l.log.entries ≡ l.initial.log.entries ++ look_entries l.counter l.time l.queues;
  spare : l.log.spare + l.counter * length l.queues ≡ l.initial.log.spare;
}
