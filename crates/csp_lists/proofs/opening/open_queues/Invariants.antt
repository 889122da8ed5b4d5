use Rattle.std.proofs.Common.{◌≡◌, map, take}
use Rattle.csp_lists.specs.Order.{places_in}
use Rattle.csp_lists.specs.PlainDeck.{opening_queue}
use Rattle.csp_lists.proofs.opening.open_queues.Given as goal

-- the queues of the first places are there
abbrev pub invariant-loop-at : goal.invariant-loop-at
invariant-loop-at l =
    (l.queues.queues ≡ map (opening_queue l.inbox l.links) (take l.at (places_in l.shape))) × (l.queues.region ≡ l.fn.queues.region)
