use Rattle.std.specs.Prelude.{Option, Some, unwrap_or}
use Rattle.csp_ports.proofs.Counting.{far_machine_at}
use Rattle.csp_rdp.specs.Counts.{IsFar}
use Rattle.std.proofs.Common.{◌-◌, ◌^◌, ◌≡◌, ◌+◌, ◌++◌, false, length, arith, ap, subst, sym, ◌∙◌, []}
use Rattle.std.proofs.lemmas.List.{append-nil}
use Rattle.std.specs.Vec.{with_item}
use Rattle.csp_arena.specs.Cells.{RegionName}
use Rattle.csp_deck.specs.Keeping.{PlainPile, with_contents}
use Rattle.csp_deck.specs.Regions.{nowhere}
use Rattle.csp_ports.proofs.Following.{then_comes}
use Rattle.csp_ports.proofs.Keeping.{machine_seen, machine_stepped, machines_kept}
use Rattle.csp_ports.proofs.Sizing.{part_of, roomy_in}
use Rattle.csp_ports.specs.Came.{Comes, pictures, at_work}
use Rattle.csp_ports.specs.Kept.{IsHoused, IsRoomy, ports_at}
use Rattle.csp_ports.specs.PlainPorts.{PortsAt, machine_at}
use Rattle.csp_ports.specs.Steps.{changed, dropped, stepped, went}
use Rattle.csp_rdp.specs.Changes.{change_between}
use Rattle.csp_rdp.specs.Holding.{rdp_numbers, rested, unneeded}
use Rattle.csp_rdp.specs.Jobs.{delivering}
use Rattle.csp_rdp.specs.Machine.{PlainRdp, idle}
use Rattle.csp_rdp.specs.declared.answers.Change.{Change}
use Rattle.csp_rdp.specs.declared.answers.Cause.TheVariants as machine_why
use Rattle.csp_rdp_window.specs.Receiving.{is_kept}
use Rattle.csp_ports.proofs.Flowing.{keeps_of}
use Rattle.csp_ports.proofs.Serving.{flows_delivered}
use Rattle.csp_ports.proofs.Wholes.{there_few, whole_seen}
use Rattle.csp_ports.specs.Tasks.{delivered}
use Rattle.csp_ports.proofs.ports.Ports.deliver.Goals as goal

pub deliver-change-requires-clause-taken : goal.deliver-change-requires-clause-taken
deliver-change-requires-clause-taken c =
    let r = c.in-Some.machine in
    let seen = machine_seen c.self.inside c.args.self.now c.args.seat c.place.result c.index_mut.result.now r c.self.view_is c.place.ensures.value c.place.ensures.inside c.self.invariant c.index_mut.ensures.value (sym c.in-Some.is) in
    sym (c.sees_no_region.ensures.kept nowhere r (r.recv.cur + 1)) ∙ subst (λ (q : PlainRdp). is_kept q.recv (q.recv.cur + 1) ≡ false) (sym seen) c.requires.taken

pub deliver-change-requires-clause-countable : goal.deliver-change-requires-clause-countable
deliver-change-requires-clause-countable c =
    let n = 2 ^ 32 - 2 in
    let seen = machine_seen c.self.inside c.args.self.now c.args.seat c.place.result c.index_mut.result.now c.in-Some.machine c.self.view_is c.place.ensures.value c.place.ensures.inside c.self.invariant c.index_mut.ensures.value (sym c.in-Some.is) in
    let far = subst (IsFar n) (sym seen) (far_machine_at n c.args.self.now.ports c.args.seat c.requires.countable) in
    record { admitted = far.admitted; delivered = far.delivered }

pub deliver-change-requires-clause-room : goal.deliver-change-requires-clause-room
deliver-change-requires-clause-room c =
    let p = c.self.inside in
    let roomy = subst (λ (x : PortsAt). IsRoomy 0 x c.args.trash.now) (sym c.self.view_is) c.requires.roomy in
    omega (arith, roomy.room, part_of p c.args.seat c.place.result c.index_mut.result.now c.in-Some.machine c.place.ensures.value c.place.ensures.inside c.self.invariant c.index_mut.ensures.value (sym c.in-Some.is))

pub invariant_of-self : goal.invariant_of-self
invariant_of-self c =
    let region = subst (λ (x : PortsAt). c.args.trash.now.region ≡ x.region) (sym c.self.view_is) c.requires.roomy.region in
    machines_kept c.self.inside c.args.seat c.place.result c.index_mut.result.now (Some c.deliver-change.new.machine) c.place.ensures.value c.place.ensures.inside c.index_mut.ensures.value
    (subst (λ (n : RegionName). IsHoused n c.deliver-change.new.machine) region c.deliver-change.ensures.housed) c.self.invariant

pub change-requires-clause-roomy : goal.change-requires-clause-roomy
change-requires-clause-roomy c =
    roomy_in 0 0 c.self.inside c.args.seat c.place.result c.index_mut.result.now (Some c.deliver-change.new.machine) c.args.trash.now c.deliver-change.new.trash c.place.ensures.value c.place.ensures.inside c.self.invariant c.index_mut.ensures.value
    (subst (λ (x : PortsAt). IsRoomy 0 x c.args.trash.now) (sym c.self.view_is) c.requires.roomy)
    (ap (λ (t : PlainPile). t.region) c.deliver-change.ensures.trash) (ap (λ (t : PlainPile). t.room) c.deliver-change.ensures.trash)
    (omega (arith, c.deliver-change.ensures.size, ap (λ (o : Option PlainRdp). length (rdp_numbers (unwrap_or o idle))) c.in-Some.is))

pub returns-clause-comes : goal.returns-clause-comes
returns-clause-comes c =
    let p = c.self.inside in
    let at = c.args.self.now in
    let seat = c.args.seat in
    let events = c.args.report.now.items in
    let r = machine_at at.ports seat in
    let seen = machine_seen p at seat c.place.result c.index_mut.result.now c.in-Some.machine c.self.view_is c.place.ensures.value c.place.ensures.inside c.self.invariant c.index_mut.ensures.value (sym c.in-Some.is) in
    let mid = ports_at (record p { slots = with_item p.slots c.place.result (record c.index_mut.result.now { machine = Some c.deliver-change.new.machine }) }) in
    let change = c.deliver-change.ensures.change ∙ ap (λ (q : PlainRdp). change_between q.state (delivering c.args.now q).state machine_why.Reset) seen in
    then_comes at c.change.new.self c.drop_stalled.new.self c.args.trash.now c.change.new.trash c.drop_stalled.new.trash events c.change.new.report.items c.drop_stalled.new.report.items
    (went r.state machine_why.Reset seat (delivering c.args.now r) at.ports) (dropped seat)
    (then_comes at mid c.change.new.self c.args.trash.now c.deliver-change.new.trash c.change.new.trash events events c.change.new.report.items
    (stepped seat (delivering c.args.now r) at.ports) (changed (change_between r.state (delivering c.args.now r).state machine_why.Reset) seat)
    (record {
      ports = machine_stepped p at seat c.place.result c.index_mut.result.now c.in-Some.machine c.deliver-change.new.machine (λ q. rested (delivering c.args.now q)) c.self.view_is c.place.ensures.value c.place.ensures.inside c.self.invariant c.index_mut.ensures.value (sym c.in-Some.is) c.deliver-change.ensures.machine;
      trash = c.deliver-change.ensures.trash ∙ ap (λ (q : PlainRdp). with_contents c.args.trash.now (c.args.trash.now.contents ++ pictures (unneeded (delivering c.args.now q)))) seen;
      events = sym (append-nil events);
    })
    (subst (λ (x : Change). Comes (at_work mid c.deliver-change.new.trash events) (at_work c.change.new.self c.change.new.trash c.change.new.report.items) (changed x seat mid.ports)) change c.change.ensures.comes))
    c.drop_stalled.ensures.comes

pub returns-clause-keeps : goal.returns-clause-keeps
returns-clause-keeps c =
    let p = c.args.self.now.ports in
    let whole = whole_seen c.self.inside c.args.self.now c.self.view_is c.self.invariant in
    let few = there_few p c.args.seat whole c.requires.there in
    keeps_of 1 c.args.self.now c.drop_stalled.new.self c.args.trash.now c.drop_stalled.new.trash c.args.report.now.items c.drop_stalled.new.report.items (delivered c.args.now c.args.seat p) []
    (returns-clause-comes c) (flows_delivered p c.args.now c.args.seat few whole c.requires.open c.requires.taken)
