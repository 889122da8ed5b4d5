use Rattle.std.specs.Prelude.{Option, Some}
use Rattle.std.proofs.Common.{Option, length, arith, ap, subst, sym, ◌∙◌, [], ◌∷◌, ◌+◌}
use Rattle.std.proofs.lemmas.List.{length-append}
use Rattle.std.specs.Option.{option_map}
use Rattle.csp_buffer.specs.PlainBuffer.{PlainBuffer}
use Rattle.csp_deck.specs.Regions.{nowhere}
use Rattle.csp_ports.proofs.Keeping.{housed_in, machine_absent, machine_seen, machine_stepped, machines_kept}
use Rattle.csp_ports.proofs.Tasking.{housed_next}
use Rattle.csp_ports.specs.PlainPorts.{PortsAt, machine_at}
use Rattle.csp_rdp.specs.Holding.{rdp_numbers}
use Rattle.csp_rdp.specs.Jobs.{delivery, without_delivery}
use Rattle.csp_rdp.specs.Machine.{PlainRdp}
use Rattle.csp_rdp.specs.Placed.{placed, placed_buffer}
use Rattle.csp_rdp.specs.Regions.{IsIn}
use Rattle.csp_rdp_window.specs.Numbers.{number_in}
use Rattle.csp_ports.proofs.Serving.{keeps_taken, nothing_there, now_taken}
use Rattle.csp_ports.proofs.Wholes.{there_few, whole_seen}
use Rattle.csp_ports.specs.Keeps.{Keeps, at_hand}
use Rattle.csp_rdp_window.specs.Receiving.{is_kept}
use Rattle.csp_ports.proofs.ports.Ports.take_packet.Goals as goal

pub invariant_of-self : goal.invariant_of-self
invariant_of-self c =
    let p = c.self.inside in
    let name = p.token.name in
    let r = c.in-Some.machine in
    let h = housed_in p c.place.result c.index_mut.result.now r c.place.ensures.inside c.self.invariant c.index_mut.ensures.value (sym c.in-Some.is) in
    let same = c.deliver.ensures.state in
    machines_kept p c.args.seat c.place.result c.index_mut.result.now (Some c.deliver.new.self) c.place.ensures.value c.place.ensures.inside c.index_mut.ensures.value
    (housed_next name r c.deliver.new.self
    (rw same (c.keeps_region.ensures.taken name r h.region).0) (rw same (c.keeps_whole.ensures.taken r h.whole)) (rw same (c.keeps_rest.ensures.taken r h.rested))
    (omega (arith, ap (λ (q : PlainRdp). length (rdp_numbers q)) same, (c.conserves.ensures.taken r h.whole).count, length-append (rdp_numbers (without_delivery r)) (number_in (delivery r)))) h)
    c.self.invariant

pub unreachable-requires : goal.unreachable-requires
unreachable-requires c =
    let gone = machine_absent c.self.inside c.args.self.now c.args.seat c.place.result c.index_mut.result.now c.self.view_is c.place.ensures.value c.place.ensures.inside c.self.invariant c.index_mut.ensures.value c.in_default.is in
    nothing_there (delivery (machine_at c.args.self.now.ports c.args.seat)) (ap delivery gone) c.requires.owed.1

pub unreachable-requires-in-None : goal.unreachable-requires-in-None
unreachable-requires-in-None c =
    let r = c.in-Some.machine in
    let seen = machine_seen c.self.inside c.args.self.now c.args.seat c.place.result c.index_mut.result.now r c.self.view_is c.place.ensures.value c.place.ensures.inside c.self.invariant c.index_mut.ensures.value (sym c.in-Some.is) in
    nothing_there (delivery (machine_at c.args.self.now.ports c.args.seat))
    (sym (ap delivery seen) ∙ (c.sees_no_region.ensures.delivery nowhere r ∙ ap (λ (o : Option PlainBuffer). option_map (placed_buffer nowhere) o) (sym c.deliver.ensures.buffer ∙ c.in-None.is)))
    c.requires.owed.1

pub returns-clause-packet : goal.returns-clause-packet
returns-clause-packet c =
    let r = c.in-Some.machine in
    let seen = machine_seen c.self.inside c.args.self.now c.args.seat c.place.result c.index_mut.result.now r c.self.view_is c.place.ensures.value c.place.ensures.inside c.self.invariant c.index_mut.ensures.value (sym c.in-Some.is) in
    sym (ap delivery seen) ∙ (c.sees_no_region.ensures.delivery nowhere r ∙ ap (λ (o : Option PlainBuffer). option_map (placed_buffer nowhere) o) (sym c.deliver.ensures.buffer ∙ c.in-Some-deliver.is))

pub returns-clause-ports : goal.returns-clause-ports
returns-clause-ports c =
    let r = c.in-Some.machine in
    machine_stepped c.self.inside c.args.self.now c.args.seat c.place.result c.index_mut.result.now r c.deliver.new.self without_delivery c.self.view_is c.place.ensures.value c.place.ensures.inside c.self.invariant
    c.index_mut.ensures.value (sym c.in-Some.is) (ap (placed nowhere) c.deliver.ensures.state ∙ c.sees_no_region.ensures.taken nowhere r)

pub returns-clause-of_it : goal.returns-clause-of_it
returns-clause-of_it c =
    let p = c.self.inside in
    let name = p.token.name in
    let r = c.in-Some.machine in
    let h = housed_in p c.place.result c.index_mut.result.now r c.place.ensures.inside c.self.invariant c.index_mut.ensures.value (sym c.in-Some.is) in
    subst (λ (o : Option PlainBuffer). IsIn c.args.self.now.region o) (sym c.deliver.ensures.buffer ∙ c.in-Some-deliver.is)
    (subst (λ (x : PortsAt). IsIn x.region (delivery r)) c.self.view_is (c.keeps_region.ensures.taken name r h.region).1)

pub returns-clause-open : goal.returns-clause-open
returns-clause-open c =
    let p = c.args.self.now.ports in
    let whole = whole_seen c.self.inside c.args.self.now c.self.view_is c.self.invariant in
    let few = there_few p c.args.seat whole c.requires.there in
    ap (λ (x : PortsAt). (machine_at x.ports c.args.seat).state) (returns-clause-ports c) ∙ (now_taken p c.args.seat few whole c.requires.owed.0).0

pub returns-clause-taken : goal.returns-clause-taken
returns-clause-taken c =
    let p = c.args.self.now.ports in
    let whole = whole_seen c.self.inside c.args.self.now c.self.view_is c.self.invariant in
    let few = there_few p c.args.seat whole c.requires.there in
    ap (λ (x : PortsAt). is_kept (machine_at x.ports c.args.seat).recv ((machine_at x.ports c.args.seat).recv.cur + 1)) (returns-clause-ports c)
    ∙ (now_taken p c.args.seat few whole c.requires.owed.0).1

pub returns-clause-keeps : goal.returns-clause-keeps
returns-clause-keeps c =
    let p = c.args.self.now.ports in
    let whole = whole_seen c.self.inside c.args.self.now c.self.view_is c.self.invariant in
    let few = there_few p c.args.seat whole c.requires.there in
    subst (λ (x : PortsAt). Keeps 0 (at_hand p []) (at_hand x.ports (c.in-Some-deliver.packet.picture ∷ [])) []) (sym (returns-clause-ports c))
    (keeps_taken p c.args.seat c.in-Some-deliver.packet.picture few whole (returns-clause-packet c))
