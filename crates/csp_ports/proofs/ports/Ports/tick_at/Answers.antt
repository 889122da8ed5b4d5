use Rattle.std.specs.Prelude.{Option, Some, unwrap_or}
use Rattle.std.proofs.Common.{Bool, ◌≡◌, List, ◌++◌, length, arith, ap, subst, sym, ◌∙◌}
use Rattle.std.specs.Vec.{with_item}
use Rattle.csp_deck.specs.Keeping.{PlainPile, with_contents}
use Rattle.csp_deck.specs.Regions.{nowhere}
use Rattle.csp_ports.proofs.Keeping.{machine_seen, machine_stepped, machine_there, machines_kept}
use Rattle.csp_ports.proofs.Sizing.{part_of, roomy_in}
use Rattle.csp_ports.specs.Came.{Comes, pictures, at_work}
use Rattle.csp_ports.specs.Kept.{IsHoused, IsRoomy, ports_at}
use Rattle.csp_ports.specs.PlainPorts.{PortsAt, machine_at}
use Rattle.csp_rdp.specs.Holding.{rdp_numbers, rested, unneeded}
use Rattle.csp_rdp.specs.Machine.{PlainRdp, idle}
use Rattle.csp_rdp.specs.Placed.{placed}
use Rattle.std.proofs.lemmas.List.{append-nil}
use Rattle.csp_arena.specs.Cells.{RegionName}
use Rattle.csp_log.specs.declared.event.Event.{Event}
use Rattle.csp_ports.proofs.Following.{then_comes}
use Rattle.csp_ports.proofs.Quiet.{changed_quiet, never_opens}
use Rattle.csp_ports.specs.Steps.{changed, stepped, went, where_machine}
use Rattle.csp_rdp.specs.Changes.{change_between}
use Rattle.csp_rdp.specs.Jobs.{ticked}
use Rattle.csp_rdp.specs.declared.answers.Change.{Change}
use Rattle.csp_rdp.specs.declared.answers.Cause.TheVariants as machine_why
use Rattle.csp_ports.proofs.ports.Ports.tick_at.Goals as goal

pub tick-change-requires-clause-room : goal.tick-change-requires-clause-room
tick-change-requires-clause-room c =
    let p = c.self.inside in
    let roomy = subst (λ (x : PortsAt). IsRoomy 0 x c.args.trash.now) (sym c.self.view_is) c.requires.roomy in
    omega (arith, roomy.room, part_of p c.args.seat c.place.result c.index_mut.result.now c.in-Some.machine c.place.ensures.value c.place.ensures.inside c.self.invariant c.index_mut.ensures.value (sym c.in-Some.is))

pub invariant_of-self-2 : goal.invariant_of-self-2
invariant_of-self-2 c =
    let region = subst (λ (x : PortsAt). c.args.trash.now.region ≡ x.region) (sym c.self.view_is) c.requires.roomy.region in
    machines_kept c.self.inside c.args.seat c.place.result c.index_mut.result.now (Some c.tick-change.new.machine) c.place.ensures.value c.place.ensures.inside c.index_mut.ensures.value
    (subst (λ (n : RegionName). IsHoused n c.tick-change.new.machine) region c.tick-change.ensures.housed) c.self.invariant

pub change-requires-clause-roomy : goal.change-requires-clause-roomy
change-requires-clause-roomy c =
    roomy_in 0 0 c.self.inside c.args.seat c.place.result c.index_mut.result.now (Some c.tick-change.new.machine) c.args.trash.now c.tick-change.new.trash c.place.ensures.value c.place.ensures.inside c.self.invariant c.index_mut.ensures.value
    (subst (λ (x : PortsAt). IsRoomy 0 x c.args.trash.now) (sym c.self.view_is) c.requires.roomy)
    (ap (λ (t : PlainPile). t.region) c.tick-change.ensures.trash) (ap (λ (t : PlainPile). t.room) c.tick-change.ensures.trash)
    (omega (arith, c.tick-change.ensures.size, ap (λ (o : Option PlainRdp). length (rdp_numbers (unwrap_or o idle))) c.in-Some.is))

pub returns-clause-comes : goal.returns-clause-comes
returns-clause-comes c =
    let p = c.self.inside in
    let at = c.args.self.now in
    let r = machine_at at.ports c.args.seat in
    let seen = machine_seen p at c.args.seat c.place.result c.index_mut.result.now c.in-Some.machine c.self.view_is c.place.ensures.value c.place.ensures.inside c.self.invariant c.index_mut.ensures.value (sym c.in-Some.is) in
    let mid = ports_at (record p { slots = with_item p.slots c.place.result (record c.index_mut.result.now { machine = Some c.tick-change.new.machine }) }) in
    let change = c.tick-change.ensures.change ∙ ap (λ (q : PlainRdp). change_between q.state (ticked c.args.now q).state machine_why.Timeout) seen in
    subst (λ (b : Bool). Comes (at_work at c.args.trash.now c.args.report.now.items) (at_work c.change.new.self c.change.new.trash c.change.new.report.items) (where_machine b (went r.state machine_why.Timeout c.args.seat (ticked c.args.now r)) at.ports))
    (machine_there c.self.inside at c.args.seat c.place.result c.index_mut.result.now (Some c.in-Some.machine) c.self.view_is c.place.ensures.value c.place.ensures.inside c.self.invariant c.index_mut.ensures.value (sym c.in-Some.is))
    (then_comes at mid c.change.new.self c.args.trash.now c.tick-change.new.trash c.change.new.trash c.args.report.now.items c.args.report.now.items c.change.new.report.items
    (stepped c.args.seat (ticked c.args.now r) at.ports) (changed (change_between r.state (ticked c.args.now r).state machine_why.Timeout) c.args.seat)
    (record {
      ports = machine_stepped p at c.args.seat c.place.result c.index_mut.result.now c.in-Some.machine c.tick-change.new.machine (λ q. rested (ticked c.args.now q)) c.self.view_is c.place.ensures.value c.place.ensures.inside c.self.invariant c.index_mut.ensures.value (sym c.in-Some.is) c.tick-change.ensures.machine;
      trash = c.tick-change.ensures.trash ∙ ap (λ (q : PlainRdp). with_contents c.args.trash.now (c.args.trash.now.contents ++ pictures (unneeded (ticked c.args.now q)))) seen;
      events = sym (append-nil c.args.report.now.items);
    })
    (subst (λ (x : Change). Comes (at_work mid c.tick-change.new.trash c.args.report.now.items) (at_work c.change.new.self c.change.new.trash c.change.new.report.items) (changed x c.args.seat mid.ports)) change c.change.ensures.comes))

pub returns-clause-quiet : goal.returns-clause-quiet
returns-clause-quiet c =
    let q = placed nowhere c.in-Some.machine in
    let mid = ports_at (record c.self.inside { slots = with_item c.self.inside.slots c.place.result (record c.index_mut.result.now { machine = Some c.tick-change.new.machine }) }) in
    c.change.ensures.comes.events
    ∙ (ap (λ (es : List Event). c.args.report.now.items ++ es) (changed_quiet c.tick-change.result c.args.seat mid.ports (λ h. never_opens c.args.now q machine_why.Timeout (sym c.tick-change.ensures.change ∙ h)))
    ∙ append-nil c.args.report.now.items)
