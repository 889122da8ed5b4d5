use Rattle.std.proofs.lemmas.List.Elements.{All-drop}
use Rattle.csp_ports.proofs.Owing.{due_less}
use Rattle.csp_ports.specs.Kept.{IsOwed, plain_ports, wishes}
use Rattle.csp_ports.specs.PlainPorts.{terms_of}
use Rattle.csp_ports.specs.declared.ports.TheConstants.{ANSWERS}
use Rattle.std.proofs.Common.{[], rules}
use Rattle.csp_ports.proofs.Flowing.{keeps_of}
use Rattle.csp_ports.proofs.Serving.{flows_answered}
use Rattle.csp_ports.proofs.Wholes.{whole_seen}
use Rattle.csp_ports.specs.Asking.{answered}
use Rattle.csp_ports.proofs.ports.Ports.answer.Goals as goal

pub invariant_of-self : goal.invariant_of-self
invariant_of-self c =
    let p = c.self.inside in
    let a = c.self.invariant in
    record {
      few = a.few;
      apps = a.apps;
      room = rw c.pop_front.ensures.capacity a.room;
      owners = a.owners;
      owed = rw c.pop_front.ensures.rest (All-drop (IsOwed p.conns.apps) 1 p.owed.items a.owed);
      due = rw c.pop_front.ensures.rest (due_less ANSWERS p.owed.items (λ b. wishes b (terms_of (plain_ports p))) a.due);
      slots = a.slots;
      kept = a.kept;
      alone = a.alone;
    }

pub returns-in-Some-clause-comes : goal.returns-in-Some-clause-comes
returns-in-Some-clause-comes c = search rules

pub returns-in-Some-clause-keeps : goal.returns-in-Some-clause-keeps
returns-in-Some-clause-keeps c =
    keeps_of 1 c.args.self.now c.free_by.new.self c.args.trash.now c.free_by.new.trash [] [] (answered c.args.self.now.ports) []
    (returns-in-Some-clause-comes c) (flows_answered c.args.self.now.ports (whole_seen c.self.inside c.args.self.now c.self.view_is c.self.invariant))
