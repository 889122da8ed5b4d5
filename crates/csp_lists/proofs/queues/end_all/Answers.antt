use Rattle.std.proofs.Common.{◌≡◌, [], map, ap}
use Rattle.std.proofs.lemmas.List.Elements.{All-rest}
use Rattle.csp_lists.specs.PlainDeck.{PlainQueue}
use Rattle.csp_lists.proofs.Queued.{plain}
use Rattle.csp_lists.proofs.queues.end_all.Goals as goal

pub loop-queue-preserved : goal.loop-queue-preserved
loop-queue-preserved c =
    let step = c.in-Some.ensures.answer in
    All-rest (λ (q : PlainQueue). q.items ≡ []) c.in-Some.queue.queue (map plain c.pop.new.self.items) (map plain c.loop-queue.queues.items) (ap (map plain) step.0) c.loop-queue.invariant
