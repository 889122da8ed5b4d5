use Rattle.std.specs.Prelude.{Some}
use Rattle.std.proofs.Common.{length, arith, ap, subst, sym, ◌∙◌, []}
use Rattle.csp_buffer.specs.PlainBuffer.{PlainBuffer, with_picture}
use Rattle.csp_deck.specs.Regions.{nowhere}
use Rattle.csp_ports.proofs.Keeping.{housed_in, machine_seen, machine_stepped, machines_kept}
use Rattle.csp_ports.proofs.Tasking.{housed_next}
use Rattle.csp_ports.specs.PlainPorts.{anywhere, PortsAt}
use Rattle.csp_rdp.specs.Jobs.{filled, job_of, sent}
use Rattle.csp_rdp.specs.Machine.{PlainRdp}
use Rattle.csp_rdp.specs.Placed.{placed}
use Rattle.csp_ports.proofs.Serving.{keeps_made}
use Rattle.csp_ports.proofs.Wholes.{there_few, whole_seen}
use Rattle.csp_ports.specs.Keeps.{Keeps, at_hand}
use Rattle.csp_ports.proofs.ports.Ports.make.Goals as goal

pub fill-requires-clause-owed : goal.fill-requires-clause-owed
fill-requires-clause-owed c =
    let r = c.in-Some.machine in
    let seen = machine_seen c.self.inside c.args.self.now c.args.seat c.place.result c.index_mut.result.now r c.self.view_is c.place.ensures.value c.place.ensures.inside c.self.invariant c.index_mut.ensures.value (sym c.in-Some.is) in
    sym (c.sees_no_region.ensures.job nowhere c.args.now r) ∙ (ap (job_of c.args.now) seen ∙ c.requires.owed)

pub invariant_of-self : goal.invariant_of-self
invariant_of-self c =
    let p = c.self.inside in
    let name = p.token.name in
    let r = c.in-Some.machine in
    let h = housed_in p c.place.result c.index_mut.result.now r c.place.ensures.inside c.self.invariant c.index_mut.ensures.value (sym c.in-Some.is) in
    let same = c.fill.ensures.state in
    machines_kept p c.args.seat c.place.result c.index_mut.result.now (Some c.fill.new.self) c.place.ensures.value c.place.ensures.inside c.index_mut.ensures.value
    (housed_next name r c.fill.new.self
    (rw same (c.keeps_region.ensures.sent name c.args.job c.args.now r h.region)) (rw same (c.keeps_whole.ensures.sent c.args.job c.args.now r h.whole)) (rw same (c.keeps_rest.ensures.sent c.args.job c.args.now r h.rested))
    (omega (arith, ap length c.fill.ensures.holds)) h)
    c.self.invariant

pub returns-clause-packet : goal.returns-clause-packet
returns-clause-packet c =
    let b = c.args.packet.now in
    let r = c.in-Some.machine in
    let seen = machine_seen c.self.inside c.args.self.now c.args.seat c.place.result c.index_mut.result.now r c.self.view_is c.place.ensures.value c.place.ensures.inside c.self.invariant c.index_mut.ensures.value (sym c.in-Some.is) in
    c.fill.ensures.packet
    ∙ ap (λ (q : PlainBuffer). with_picture b q.picture)
    (sym (c.sees_no_region.ensures.filled nowhere c.args.job c.args.now r (anywhere b.picture)) ∙ ap (λ (q : PlainRdp). filled c.args.job c.args.now q (anywhere b.picture)) seen)

pub returns-clause-ports : goal.returns-clause-ports
returns-clause-ports c =
    let r = c.in-Some.machine in
    machine_stepped c.self.inside c.args.self.now c.args.seat c.place.result c.index_mut.result.now r c.fill.new.self (sent c.args.job c.args.now) c.self.view_is c.place.ensures.value c.place.ensures.inside c.self.invariant
    c.index_mut.ensures.value (sym c.in-Some.is) (ap (placed nowhere) c.fill.ensures.state ∙ c.sees_no_region.ensures.sent nowhere c.args.job c.args.now r)

pub returns-clause-keeps : goal.returns-clause-keeps
returns-clause-keeps c =
    let p = c.args.self.now.ports in
    let whole = whole_seen c.self.inside c.args.self.now c.self.view_is c.self.invariant in
    let few = there_few p c.args.seat whole c.requires.there in
    subst (λ (x : PortsAt). Keeps 0 (at_hand p []) (at_hand x.ports []) []) (sym (returns-clause-ports c)) (keeps_made c.args.job p c.args.now c.args.seat few whole)
