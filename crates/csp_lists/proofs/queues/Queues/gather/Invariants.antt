use Rattle.std.proofs.Common.{◌≡◌, ◌+◌, ◌≤◌, ◌++◌, length, map, vec_len, vec_capacity}
use Rattle.std.specs.Prelude.{All}
use Rattle.csp_buffer.specs.Memory.{AreAllOf}
use Rattle.csp_lists.specs.Gathered.{left_at, held_at, numbers_back}
use Rattle.csp_lists.specs.PlainDeck.{numbers_among}
use Rattle.csp_lists.proofs.queues.Queues.gather.Given as goal

abbrev pub invariant-loop-queue : goal.invariant-loop-queue
invariant-loop-queue l =
    (l.left.items ++ map (left_at l.node) (map (λ q. q.queue) l.queues.items) ≡ l.fn.left.items ++ map (left_at l.node) l.fn.self.queues)
    × (l.held.items ++ map (held_at l.node) (map (λ q. q.queue) l.queues.items) ≡ l.fn.held.items ++ map (held_at l.node) l.fn.self.queues)
    × (numbers_back l.into.items ++ numbers_among (map (λ q. q.queue) l.queues.items) ≡ numbers_back l.fn.into.items ++ numbers_among l.fn.self.queues)
    × (vec_len l.left + length l.queues.items ≡ vec_len l.fn.left + length l.fn.self.queues)
    × (vec_len l.held + length l.queues.items ≡ vec_len l.fn.held + length l.fn.self.queues)
    × (vec_len l.into + length (numbers_among (map (λ q. q.queue) l.queues.items)) ≤ vec_capacity l.into)
    × (vec_capacity l.left ≡ vec_capacity l.fn.left)
    × (vec_capacity l.held ≡ vec_capacity l.fn.held)
    × (vec_capacity l.into ≡ vec_capacity l.fn.into)
    × All (λ q. q.region ≡ l.fn.self.region) l.queues.items
    × (AreAllOf l.fn.self.region l.fn.into.items → AreAllOf l.fn.self.region l.into.items)

abbrev pub decreases-loop-queue : goal.decreases-loop-queue
decreases-loop-queue l = length l.queues.items
