use Rattle.std.proofs.Common.{length}
use Rattle.csp_stack.proofs.Awaiting.{unpushed}
use Rattle.csp_stack.proofs.turn.finish_delivery.Goals as goal

pub returns-in-Pushed-clause-keeps : goal.returns-in-Pushed-clause-keeps
returns-in-Pushed-clause-keeps c = rw c.in-Pushed.is (c.deliver.ensures.keeps (length c.args.facts.now.ifaces))

pub returns-in_default : goal.returns-in_default
returns-in_default c = record {
  told = rw (c.requires.unwritten, unpushed c.args.answer c.in_default.not-Pushed) c.keep_delivery.ensures.told;
  out = c.keep_delivery.ensures.out;
  keeps = c.keep_delivery.ensures.keeps (length c.args.facts.now.ifaces);
}
