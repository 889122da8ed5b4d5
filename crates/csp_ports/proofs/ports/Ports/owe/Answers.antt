use Rattle.std.proofs.Common.{◌+◌, ◌<◌, arith, subst, sym}
use Rattle.csp_ports.proofs.Owing.{due_more, owed_more, owed_room}
use Rattle.csp_ports.specs.Kept.{IsOwed, plain_ports, wishes}
use Rattle.csp_ports.specs.PlainPorts.{PortsAt, terms_of, waiting}
use Rattle.csp_ports.specs.declared.owed.Owed.{Owed}
use Rattle.csp_ports.specs.declared.ports.TheConstants.{ANSWERS}
use Rattle.csp_ports.proofs.ports.Ports.owe.Goals as goal

pub push_back_reserved-requires : goal.push_back_reserved-requires
push_back_reserved-requires c =
    let p = c.self.inside in
    let o : Owed = record { app = c.args.app; note = c.args.note } in
    let there = subst (λ (x : PortsAt). c.args.app < x.ports.conns.apps) (sym c.self.view_is) c.requires.app in
    let fewer = subst (λ (x : PortsAt). waiting c.args.app x.ports.owed + wishes c.args.app (terms_of x.ports) < ANSWERS) (sym c.self.view_is) c.requires.room in
    let one : IsOwed p.conns.apps o = record { app = there; reply = c.requires.reply } in
    omega (arith, c.self.invariant.few, c.self.invariant.room, owed_room ANSWERS p.conns.apps p.owed.items o (λ a. wishes a (terms_of (plain_ports p))) c.self.invariant.owed one c.self.invariant.due fewer)

pub invariant_of-self : goal.invariant_of-self
invariant_of-self c =
    let p = c.self.inside in
    let a = c.self.invariant in
    let o : Owed = record { app = c.args.app; note = c.args.note } in
    let there = subst (λ (x : PortsAt). c.args.app < x.ports.conns.apps) (sym c.self.view_is) c.requires.app in
    let fewer = subst (λ (x : PortsAt). waiting c.args.app x.ports.owed + wishes c.args.app (terms_of x.ports) < ANSWERS) (sym c.self.view_is) c.requires.room in
    record {
      few = a.few;
      apps = a.apps;
      room = rw c.push_back_reserved.ensures.capacity a.room;
      owners = a.owners;
      owed = rw c.push_back_reserved.ensures.items (owed_more p.conns.apps p.owed.items o a.owed (record { app = there; reply = c.requires.reply }));
      due = rw c.push_back_reserved.ensures.items (due_more ANSWERS p.owed.items o (λ b. wishes b (terms_of (plain_ports p))) a.due fewer);
      slots = a.slots;
      kept = a.kept;
      alone = a.alone;
    }
