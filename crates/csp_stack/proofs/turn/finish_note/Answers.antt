use Rattle.std.proofs.Common.{[], length, arith}
use Rattle.csp_stack.proofs.Awaiting.{unpushed}
use Rattle.csp_stack.proofs.Keeping.{ported_alone}
use Rattle.csp_stack.proofs.turn.finish_note.Goals as goal

pub returns-in-Pushed-clause-keeps : goal.returns-in-Pushed-clause-keeps
returns-in-Pushed-clause-keeps c =
    rw (c.in-Pushed.is, ← c.state.view_is) (ported_alone (length c.args.facts.now.ifaces) 0 _ c.tell_down.new.self.ports [] (omega arith) (omega arith) c.tell_down.ensures.apps c.tell_down.ensures.keeps)

pub returns-in_default : goal.returns-in_default
returns-in_default c = record {
  told = rw (unpushed c.args.answer c.in_default.not-Pushed) c.finish_push.ensures.told;
  out = c.finish_push.ensures.out;
  keeps = c.finish_push.ensures.keeps (length c.args.facts.now.ifaces);
}
