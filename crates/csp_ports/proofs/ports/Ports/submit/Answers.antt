use Rattle.std.proofs.Common.{List, ap, subst, sym, ◌∙◌, [], ◌∷◌}
use Rattle.csp_log.specs.declared.event.Event.{Event}
use Rattle.csp_ports.proofs.Tasking.{admitting_apps, submitted_comes}
use Rattle.csp_ports.specs.Came.{Comes, at_work}
use Rattle.csp_ports.specs.Packets.{submitting}
use Rattle.csp_ports.specs.PlainPorts.{PortsAt, machine_at}
use Rattle.csp_ports.specs.Steps.{has_room}
use Rattle.csp_ports.proofs.Flowing.{keeps_of}
use Rattle.csp_ports.proofs.Serving.{flows_submitted}
use Rattle.csp_ports.proofs.Stalling.{none_stalled}
use Rattle.csp_ports.proofs.Wholes.{there_few}
use Rattle.csp_ports.proofs.ports.Ports.submit.Goals as goal

pub returns-in-Open-clause-comes : goal.returns-in-Open-clause-comes
returns-in-Open-clause-comes c =
    let opened = sym c.state.ensures ∙ c.in-Open.is in
    subst (λ (es : List Event). Comes (at_work c.args.self.now c.args.trash.now es) (at_work c.send.new.self c.args.trash.now c.send.new.report.items) (submitting c.args.self.now.ports c.args.seat c.args.packet.picture c.args.now)) (sym c.requires.report)
    (submitted_comes c.args.self.now c.send.new.self c.args.trash.now c.send.new.report.items c.args.seat c.args.packet.picture c.args.now opened c.send.ensures.ports c.send.ensures.report)

pub returns-in-Open-clause-apps : goal.returns-in-Open-clause-apps
returns-in-Open-clause-apps c =
    ap (λ (x : PortsAt). x.ports.conns.apps) c.send.ensures.ports
    ∙ admitting_apps (has_room (machine_at c.args.self.now.ports c.args.seat)) c.args.self.now.ports c.args.seat c.args.packet.picture c.args.now

pub returns-in-Open-clause-keeps : goal.returns-in-Open-clause-keeps
returns-in-Open-clause-keeps c =
    let p = c.args.self.now.ports in
    let few = there_few p c.args.seat c.whole.ensures.machines c.requires.there in
    keeps_of 1 c.args.self.now c.send.new.self c.args.trash.now c.args.trash.now c.args.report.now.items c.send.new.report.items (submitting p c.args.seat c.args.packet.picture c.args.now) (c.args.packet.picture.number ∷ [])
    (returns-in-Open-clause-comes c) (flows_submitted (machine_at p c.args.seat).state p c.args.seat c.args.packet.picture c.args.now few c.whole.ensures.machines (none_stalled p c.args.seat c.requires.there.of_app c.requires.first))
