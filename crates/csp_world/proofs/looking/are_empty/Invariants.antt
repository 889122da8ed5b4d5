use Rattle.std.proofs.Common.{◌≡◌, take}
use Rattle.csp_world.specs.Looking.{AreEmpty}
use Rattle.csp_world.proofs.looking.are_empty.Given as goal

-- the queues so far are empty, and the lists as they were
abbrev pub invariant-loop-queue : goal.invariant-loop-queue
invariant-loop-queue l = record {
  lists : l.decks ≡ l.initial.decks;
  empty : AreEmpty l.initial.decks (take l.queue-index l.queues);
}
