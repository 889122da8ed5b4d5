use Rattle.std.proofs.Common.{length}
use Rattle.csp_stack.proofs.Awaiting.{unpushed}
use Rattle.csp_stack.proofs.turn.finish_reply.Goals as goal

pub returns-in-Pushed-clause-keeps : goal.returns-in-Pushed-clause-keeps
returns-in-Pushed-clause-keeps c = rw c.in-Pushed.is (c.answer.ensures.keeps (length c.args.facts.now.ifaces))

pub returns-in_default : goal.returns-in_default
returns-in_default c = record {
  told = rw (unpushed c.args.answer c.in_default.not-Pushed) c.finish_push.ensures.told;
  out = c.finish_push.ensures.out;
  keeps = c.finish_push.ensures.keeps (length c.args.facts.now.ifaces);
}
