use Rattle.std.specs.Prelude.{Some}
use Rattle.std.specs.Vec.{with_item}
use Rattle.std.proofs.Common.{Bool, [], ◌≡◌, ◌++◌, arith, ap, refl, subst, sym, ◌∙◌}
use Rattle.csp_arena.specs.Cells.{RegionName}
use Rattle.csp_deck.specs.Keeping.{with_contents}
use Rattle.csp_ports.proofs.Keeping.{machine_seen, machine_stepped, machine_there, machines_kept}
use Rattle.csp_ports.proofs.Sizing.{part_of}
use Rattle.csp_ports.specs.Came.{Comes, pictures, at_work}
use Rattle.csp_ports.specs.Kept.{IsHoused, IsRoomy, ports_at}
use Rattle.csp_ports.specs.PlainPorts.{PortsAt, machine_at}
use Rattle.csp_ports.specs.Steps.{stepped, where_machine}
use Rattle.csp_rdp.specs.Holding.{rested, unneeded}
use Rattle.csp_rdp.specs.Jobs.{closing}
use Rattle.csp_rdp.specs.Machine.{PlainRdp}
use Rattle.csp_ports.proofs.ports.Ports.close_machine.Goals as goal

pub close-requires-clause-room : goal.close-requires-clause-room
close-requires-clause-room c =
    let p = c.self.inside in
    let roomy = subst (λ (x : PortsAt). IsRoomy 0 x c.args.trash.now) (sym c.self.view_is) c.requires.roomy in
    omega (arith, roomy.room, part_of p c.args.seat c.place.result c.index_mut.result.now c.in-Some.machine c.place.ensures.value c.place.ensures.inside c.self.invariant c.index_mut.ensures.value (sym c.in-Some.is))

pub invariant_of-self-2 : goal.invariant_of-self-2
invariant_of-self-2 c =
    let region = subst (λ (x : PortsAt). c.args.trash.now.region ≡ x.region) (sym c.self.view_is) c.requires.roomy.region in
    machines_kept c.self.inside c.args.seat c.place.result c.index_mut.result.now (Some c.close.new.machine) c.place.ensures.value c.place.ensures.inside c.index_mut.ensures.value
    (subst (λ (n : RegionName). IsHoused n c.close.new.machine) region c.close.ensures.housed) c.self.invariant

pub returns-clause-comes : goal.returns-clause-comes
returns-clause-comes c =
    let p = c.self.inside in
    let at = c.args.self.now in
    let seen = machine_seen p at c.args.seat c.place.result c.index_mut.result.now c.in-Some.machine c.self.view_is c.place.ensures.value c.place.ensures.inside c.self.invariant c.index_mut.ensures.value (sym c.in-Some.is) in
    subst (λ (b : Bool). Comes (at_work at c.args.trash.now []) (at_work (ports_at (record p { slots = with_item p.slots c.place.result (record c.index_mut.result.now { machine = Some c.close.new.machine }) })) c.close.new.trash []) (where_machine b (stepped c.args.seat (closing c.args.now (machine_at at.ports c.args.seat))) at.ports))
    (machine_there c.self.inside at c.args.seat c.place.result c.index_mut.result.now (Some c.in-Some.machine) c.self.view_is c.place.ensures.value c.place.ensures.inside c.self.invariant c.index_mut.ensures.value (sym c.in-Some.is))
    (record {
      ports = machine_stepped p at c.args.seat c.place.result c.index_mut.result.now c.in-Some.machine c.close.new.machine (λ q. rested (closing c.args.now q)) c.self.view_is c.place.ensures.value c.place.ensures.inside c.self.invariant c.index_mut.ensures.value (sym c.in-Some.is) c.close.ensures.machine;
      trash = c.close.ensures.trash ∙ ap (λ (q : PlainRdp). with_contents c.args.trash.now (c.args.trash.now.contents ++ pictures (unneeded (closing c.args.now q)))) seen;
      events = refl;
    })

pub returns-clause-state : goal.returns-clause-state
returns-clause-state c =
    let p = c.self.inside in
    let at = c.args.self.now in
    let seen = machine_seen p at c.args.seat c.place.result c.index_mut.result.now c.in-Some.machine c.self.view_is c.place.ensures.value c.place.ensures.inside c.self.invariant c.index_mut.ensures.value (sym c.in-Some.is) in
    c.close.ensures.state ∙ ap (λ (q : PlainRdp). (closing c.args.now q).state) seen
