use Rattle.std.specs.Prelude.{Option, Some, unwrap_or}
use Rattle.std.specs.Option.{option_to_list}
use Rattle.std.specs.Vec.{with_item}
use Rattle.std.proofs.Common.{Bool, [], ◌≡◌, ◌-◌, ◌^◌, ◌∷◌, ◌++◌, length, arith, ap, refl, subst, sym, ◌∙◌}
use Rattle.csp_arena.specs.Cells.{RegionName}
use Rattle.csp_deck.specs.Keeping.{PlainPile, with_contents}
use Rattle.csp_deck.specs.Regions.{nowhere}
use Rattle.csp_ports.proofs.Counting.{far_machine, far_machine_at}
use Rattle.csp_ports.proofs.Keeping.{machine_seen, machine_stepped, machine_there, machines_kept}
use Rattle.csp_ports.proofs.Sizing.{part_of, roomy_in}
use Rattle.csp_ports.proofs.Tasking.{stray_few}
use Rattle.csp_ports.specs.Came.{Comes, pictures, at_work}
use Rattle.csp_ports.specs.Counts.{IsCountable}
use Rattle.csp_ports.specs.Kept.{IsHoused, IsRoomy, ports_at}
use Rattle.csp_ports.specs.Packets.{handing_event, stray_events}
use Rattle.csp_ports.specs.PlainPorts.{PortsAt, anywhere, machine_at}
use Rattle.csp_ports.specs.Steps.{stepped, where_machine}
use Rattle.csp_rdp.specs.Changes.{change_between}
use Rattle.csp_rdp.specs.Holding.{rdp_numbers, rested, unneeded}
use Rattle.csp_rdp.specs.Machine.{PlainRdp, idle}
use Rattle.csp_rdp.specs.Placed.{placed}
use Rattle.csp_rdp.specs.Table.{back_of, after_packet as handed, is_stray, row_of}
use Rattle.csp_rdp.specs.declared.answers.Cause.TheVariants as machine_why
use Rattle.csp_ports.proofs.ports.Ports.hand_machine.Goals as goal

pub hand-requires-clause-room : goal.hand-requires-clause-room
hand-requires-clause-room c =
    let p = c.self.inside in
    let roomy = subst (λ (x : PortsAt). IsRoomy 1 x c.args.trash.now) (sym c.self.view_is) c.requires.roomy in
    omega (arith, roomy.room, part_of p c.args.seat c.place.result c.index_mut.result.now c.in-Some.machine c.place.ensures.value c.place.ensures.inside c.self.invariant c.index_mut.ensures.value (sym c.in-Some.is))

pub invariant_of-self-2 : goal.invariant_of-self-2
invariant_of-self-2 c =
    let region = subst (λ (x : PortsAt). c.args.trash.now.region ≡ x.region) (sym c.self.view_is) c.requires.roomy.region in
    machines_kept c.self.inside c.args.seat c.place.result c.index_mut.result.now (Some c.hand.new.machine) c.place.ensures.value c.place.ensures.inside c.index_mut.ensures.value
    (subst (λ (n : RegionName). IsHoused n c.hand.new.machine) region c.hand.ensures.housed) c.self.invariant

pub returns-clause-comes : goal.returns-clause-comes
returns-clause-comes c =
    let p = c.self.inside in
    let at = c.args.self.now in
    let head = c.args.head in
    let packet = anywhere c.args.packet.picture in
    let tag = packet.picture.trace.tag in
    let bytes = packet.picture.payload in
    let r = machine_at at.ports c.args.seat in
    let first = c.args.trash.now.contents in
    let seen = machine_seen p at c.args.seat c.place.result c.index_mut.result.now c.in-Some.machine c.self.view_is c.place.ensures.value c.place.ensures.inside c.self.invariant c.index_mut.ensures.value (sym c.in-Some.is) in
    subst (λ (b : Bool). Comes (at_work at (with_contents c.args.trash.now (first ++ pictures (option_to_list (back_of (row_of r head bytes) packet)))) []) (at_work (ports_at (record p { slots = with_item p.slots c.place.result (record c.index_mut.result.now { machine = Some c.hand.new.machine }) })) c.hand.new.trash []) (where_machine b (stepped c.args.seat (handed head tag packet c.args.now r)) at.ports))
    (machine_there c.self.inside at c.args.seat c.place.result c.index_mut.result.now (Some c.in-Some.machine) c.self.view_is c.place.ensures.value c.place.ensures.inside c.self.invariant c.index_mut.ensures.value (sym c.in-Some.is))
    (record {
      ports = machine_stepped p at c.args.seat c.place.result c.index_mut.result.now c.in-Some.machine c.hand.new.machine (λ q. rested (handed head tag packet c.args.now q)) c.self.view_is c.place.ensures.value c.place.ensures.inside c.self.invariant c.index_mut.ensures.value (sym c.in-Some.is) c.hand.ensures.machine;
      trash =
          c.hand.ensures.trash
          ∙ ap (λ (q : PlainRdp). with_contents c.args.trash.now (first ++ pictures (option_to_list (back_of (row_of q head bytes) packet)) ++ pictures (unneeded (handed head tag packet c.args.now q)))) seen;
      events = refl;
    })

pub returns-clause-report : goal.returns-clause-report
returns-clause-report c =
    let head = c.args.head in
    let packet = anywhere c.args.packet.picture in
    let bytes = packet.picture.payload in
    let seen = machine_seen c.self.inside c.args.self.now c.args.seat c.place.result c.index_mut.result.now c.in-Some.machine c.self.view_is c.place.ensures.value c.place.ensures.inside c.self.invariant c.index_mut.ensures.value (sym c.in-Some.is) in
    c.hand.ensures.report ∙ ap (λ (q : PlainRdp). handing_event q packet.picture.trace.tag ∷ stray_events (back_of (row_of q head bytes) packet) (is_stray (row_of q head bytes))) seen

pub returns-clause-few : goal.returns-clause-few
returns-clause-few c =
    let row = row_of (placed nowhere c.in-Some.machine) c.args.head c.args.packet.picture.payload in
    omega (arith, ap length c.hand.ensures.report, stray_few (back_of row (anywhere c.args.packet.picture)) (is_stray row))

pub returns-clause-change : goal.returns-clause-change
returns-clause-change c =
    let head = c.args.head in
    let packet = anywhere c.args.packet.picture in
    let seen = machine_seen c.self.inside c.args.self.now c.args.seat c.place.result c.index_mut.result.now c.in-Some.machine c.self.view_is c.place.ensures.value c.place.ensures.inside c.self.invariant c.index_mut.ensures.value (sym c.in-Some.is) in
    c.hand.ensures.change ∙ ap (λ (q : PlainRdp). change_between q.state (handed head packet.picture.trace.tag packet c.args.now q).state machine_why.Reset) seen

pub returns-clause-roomy : goal.returns-clause-roomy
returns-clause-roomy c =
    roomy_in 1 0 c.self.inside c.args.seat c.place.result c.index_mut.result.now (Some c.hand.new.machine) c.args.trash.now c.hand.new.trash c.place.ensures.value c.place.ensures.inside c.self.invariant c.index_mut.ensures.value
    (subst (λ (x : PortsAt). IsRoomy 1 x c.args.trash.now) (sym c.self.view_is) c.requires.roomy)
    (ap (λ (t : PlainPile). t.region) c.hand.ensures.trash) (ap (λ (t : PlainPile). t.room) c.hand.ensures.trash)
    (omega (arith, c.hand.ensures.size, ap (λ (o : Option PlainRdp). length (rdp_numbers (unwrap_or o idle))) c.in-Some.is))

pub returns-clause-countable : goal.returns-clause-countable
returns-clause-countable c =
    let p = c.self.inside in
    let at = c.args.self.now in
    let head = c.args.head in
    let packet = anywhere c.args.packet.picture in
    let tag = packet.picture.trace.tag in
    let n = 2 ^ 32 - 2 in
    let r = machine_at at.ports c.args.seat in
    let is = machine_stepped p at c.args.seat c.place.result c.index_mut.result.now c.in-Some.machine c.hand.new.machine (λ q. rested (handed head tag packet c.args.now q)) c.self.view_is c.place.ensures.value c.place.ensures.inside c.self.invariant c.index_mut.ensures.value (sym c.in-Some.is) c.hand.ensures.machine in
    subst (λ (x : PortsAt). IsCountable x.ports) (sym is)
    (far_machine n at.ports c.args.seat (rested (handed head tag packet c.args.now r))
    (c.keeps_count.ensures.rested n (handed head tag packet c.args.now r) (c.keeps_count.ensures.handed n head tag packet c.args.now r (far_machine_at n at.ports c.args.seat c.requires.countable)))
    c.requires.countable)
