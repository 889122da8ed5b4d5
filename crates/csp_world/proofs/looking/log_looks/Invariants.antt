use Rattle.std.proofs.Common.{◌≡◌, ◌+◌, ◌++◌, map, take}
use Rattle.csp_world.specs.Looking.{look_entry}
use Rattle.csp_world.proofs.looking.log_looks.Given as goal

abbrev pub invariant-loop-queue : goal.invariant-loop-queue
invariant-loop-queue l = record {
  entries : l.log.entries ≡ l.initial.log.entries ++ map (look_entry l.time) (take l.queue-index l.queues);
  spare : l.log.spare + l.queue-index ≡ l.initial.log.spare;
}
