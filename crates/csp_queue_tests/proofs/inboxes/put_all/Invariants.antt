use Rattle.std.proofs.Common.{◌≡◌}
use Rattle.csp_buffer.specs.Memory.{AreAllOf}
use Rattle.csp_inbox.specs.Passes.{IsPassOf}
use Rattle.csp_queue_tests.proofs.inboxes.put_all.Given as goal

abbrev pub invariant-loop : goal.invariant-loop
invariant-loop g l = record {
  of_it : IsPassOf l.inbox l.pass;
  role : l.pass.role ≡ l.fn.pass.role;
  region : AreAllOf l.fn.pass.role.token.name l.buffers.items;
}
