use Rattle.std.proofs.Common.{length, map}
use Rattle.csp_lists.specs.PlainDeck.{AllEmpty}
use Rattle.csp_lists.proofs.queues.end_all.Given as goal

abbrev pub invariant-loop-queue : goal.invariant-loop-queue
invariant-loop-queue l = AllEmpty (map (λ q. q.queue) l.queues.items)

abbrev pub decreases-loop-queue : goal.decreases-loop-queue
decreases-loop-queue l = length l.queues.items
