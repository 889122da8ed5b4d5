use Rattle.std.proofs.Common.{◌≡◌, drop, map}
use Rattle.csp_lists.specs.PlainDeck.{holders_among}
use Rattle.csp_lists.proofs.queues.place_among.Given as goal

-- the holders among the rest are all that there are
abbrev pub invariant-loop-queue : goal.invariant-loop-queue
invariant-loop-queue l = holders_among (map (λ q. q.queue) (drop l.queue-index l.queues)) l.number ≡ holders_among (map (λ q. q.queue) l.queues) l.number
