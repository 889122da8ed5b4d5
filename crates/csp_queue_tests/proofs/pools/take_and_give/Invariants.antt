use Rattle.std.proofs.Common.{◌≡◌, ◌≤◌}
use Rattle.csp_queue_tests.proofs.pools.take_and_give.Given as goal

abbrev pub invariant-loop : goal.invariant-loop
invariant-loop g l = (l.pass.pool ≡ l.initial.pass.pool) × (l.pass.hand.opens ≡ l.initial.pass.hand.opens) × (l.pass.hand.out ≡ l.initial.pass.hand.out) × (l.pass.hand.part ≡ l.initial.pass.hand.part) × (l.times ≤ l.counter)
