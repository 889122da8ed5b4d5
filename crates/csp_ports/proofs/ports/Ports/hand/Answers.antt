use Rattle.std.specs.Option.{option_to_list}
use Rattle.std.proofs.Common.{◌-◌, ◌^◌, List, ◌∷◌, ◌++◌, ap, refl, subst, sym, ◌∙◌, []}
use Rattle.csp_deck.specs.Keeping.{with_contents}
use Rattle.csp_log.specs.declared.event.Event.{Event}
use Rattle.csp_ports.proofs.Counting.{far_changed, far_dropped}
use Rattle.csp_ports.proofs.Following.{then_comes, went_comes, where_apps}
use Rattle.csp_ports.proofs.Slots.{machine_none}
use Rattle.csp_rdp.specs.Machine.{PlainRdp}
use Rattle.csp_ports.proofs.Tasking.{come_comes, settled_apps}
use Rattle.csp_ports.specs.Came.{Comes, come, pictures, reporting, then, at_work}
use Rattle.csp_ports.specs.Counts.{IsCountable}
use Rattle.csp_ports.specs.Packets.{back_by, handing_event, stray_events, handing}
use Rattle.csp_ports.specs.PlainPorts.{PortsAt, anywhere, has_machine, machine_at}
use Rattle.csp_ports.specs.Steps.{changed, dropped, settled, went, where_machine}
use Rattle.csp_rdp.specs.Changes.{change_between}
use Rattle.csp_rdp.specs.Table.{back_of, after_packet, is_stray, row_of}
use Rattle.csp_rdp.specs.declared.answers.Change.{Change}
use Rattle.csp_rdp.specs.declared.answers.Cause.TheVariants as machine_why
use Rattle.csp_ports.proofs.Flowing.{keeps_of}
use Rattle.csp_ports.proofs.Serving.{flows_handed}
use Rattle.csp_ports.proofs.Wholes.{there_few}
use Rattle.csp_ports.proofs.ports.Ports.hand.Goals as goal

pub settle-requires-clause-countable : goal.settle-requires-clause-countable
settle-requires-clause-countable c =
    let n = 2 ^ 32 - 2 in
    let one = subst (λ (x : PortsAt). IsCountable x.ports) (sym c.change.ensures.comes.ports) (far_changed n c.hand_machine-change.result c.hand_machine-change.new.self.ports c.args.seat c.hand_machine-change.ensures.countable) in
    subst (λ (x : PortsAt). IsCountable x.ports) (sym c.drop_stalled.ensures.comes.ports) (far_dropped n c.args.seat c.change.new.self.ports one)

pub returns-clause-comes : goal.returns-clause-comes
returns-clause-comes c =
    let at = c.args.self.now in
    let seat = c.args.seat in
    let now = c.args.now in
    let head = c.args.head in
    let packet = anywhere c.args.packet.picture in
    let tag = packet.picture.trace.tag in
    let r = machine_at at.ports seat in
    let row = row_of r head packet.picture.payload in
    let back = back_of row packet in
    let next = after_packet head tag packet now r in
    let trash = with_contents c.args.trash.now (c.args.trash.now.contents ++ pictures (option_to_list back)) in
    let events = c.hand_machine-change.new.report.items in
    let mid = c.hand_machine-change.new.self in
    then_comes at at c.settle.new.self c.args.trash.now trash c.drop_stalled.new.trash c.args.report.now.items events c.drop_stalled.new.report.items
    (reporting (handing_event r tag) (back_by back (is_stray row) at.ports)) (λ p. then (where_machine (has_machine p seat) (went r.state machine_why.Reset seat next) p) (λ p. then (dropped seat p) (λ p. come (settled now seat p))))
    (record {
      ports = refl;
      trash = refl;
      events = c.hand_machine-change.ensures.report ∙ ap (λ (es : List Event). es ++ handing_event r tag ∷ stray_events back (is_stray row)) (sym c.requires.report);
    })
    (then_comes at c.change.new.self c.settle.new.self trash c.change.new.trash c.drop_stalled.new.trash events c.change.new.report.items c.drop_stalled.new.report.items
    (where_machine (has_machine at.ports seat) (went r.state machine_why.Reset seat next) at.ports) (λ p. then (dropped seat p) (λ p. come (settled now seat p)))
    (went_comes (has_machine at.ports seat) at mid c.change.new.self trash c.hand_machine-change.new.trash c.change.new.trash events c.change.new.report.items r.state machine_why.Reset seat next
    (λ e. ap (λ (q : PlainRdp). change_between q.state (after_packet head tag packet now q).state machine_why.Reset) (machine_none at.ports seat e))
    c.hand_machine-change.ensures.comes
    (subst (λ (x : Change). Comes (at_work mid c.hand_machine-change.new.trash events) (at_work c.change.new.self c.change.new.trash c.change.new.report.items) (changed x seat mid.ports)) c.hand_machine-change.ensures.change c.change.ensures.comes))
    (then_comes c.change.new.self c.drop_stalled.new.self c.settle.new.self c.change.new.trash c.drop_stalled.new.trash c.drop_stalled.new.trash c.change.new.report.items c.drop_stalled.new.report.items c.drop_stalled.new.report.items
    (dropped seat c.change.new.self.ports) (λ p. come (settled now seat p)) c.drop_stalled.ensures.comes
    (come_comes c.drop_stalled.new.self c.settle.new.self (settled now seat c.drop_stalled.new.self.ports) c.drop_stalled.new.trash c.drop_stalled.new.report.items c.settle.ensures.ports)))

pub returns-clause-apps : goal.returns-clause-apps
returns-clause-apps c =
    ap (λ (x : PortsAt). x.ports.conns.apps) c.settle.ensures.ports
    ∙ (settled_apps c.args.now c.args.seat c.drop_stalled.new.self.ports
    ∙ (c.drop_stalled.ensures.apps ∙ (c.change.ensures.apps ∙ (ap (λ (x : PortsAt). x.ports.conns.apps) c.hand_machine-change.ensures.comes.ports ∙ where_apps (has_machine c.args.self.now.ports c.args.seat) c.args.seat (after_packet c.args.head c.args.packet.picture.trace.tag (anywhere c.args.packet.picture) c.args.now (machine_at c.args.self.now.ports c.args.seat)) c.args.self.now.ports))))

pub returns-clause-keeps : goal.returns-clause-keeps
returns-clause-keeps c =
    let p = c.args.self.now.ports in
    let few = there_few p c.args.seat c.whole.ensures.machines c.requires.there in
    keeps_of 1 c.args.self.now c.settle.new.self c.args.trash.now c.drop_stalled.new.trash c.args.report.now.items c.drop_stalled.new.report.items (handing p c.args.seat c.args.head c.args.packet.picture c.args.now) (c.args.packet.picture.number ∷ [])
    (returns-clause-comes c) (flows_handed p c.args.seat c.args.head c.args.packet.picture c.args.now few c.whole.ensures.machines)
