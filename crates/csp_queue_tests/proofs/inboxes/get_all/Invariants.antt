use Rattle.std.proofs.Common.{◌≡◌}
use Rattle.csp_inbox.specs.Passes.{IsPassOf}
use Rattle.csp_queue_tests.proofs.inboxes.get_all.Given as goal

abbrev pub invariant-loop : goal.invariant-loop
invariant-loop g l = IsPassOf l.inbox l.pass × (l.pass.role ≡ l.fn.pass.role)
