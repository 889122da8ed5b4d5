use Rattle.std.proofs.Common.{◌≤◌, vec_len, vec_capacity}
use Rattle.csp_buffer.specs.Memory.{AreAllOf}
use Rattle.csp_queue_tests.specs.declared.inboxes.TheConstants.{PACKETS}
use Rattle.csp_queue_tests.proofs.inboxes.deal.Given as goal

abbrev pub invariant-loop : goal.invariant-loop
invariant-loop l = record {
  rest : AreAllOf l.region.name l.from.items;
  dealt : AreAllOf l.region.name l.some.items;
  room : PACKETS ≤ vec_capacity l.some;
  len : vec_len l.some ≤ l.counter;
}
