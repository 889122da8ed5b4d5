use Rattle.std.specs.Prelude.{Some}
use Rattle.std.proofs.Common.{◌≡◌, ◌+◌, false, ap, subst, sym, ◌∙◌, [], ◌∷◌}
use Rattle.csp_deck.specs.Regions.{nowhere}
use Rattle.csp_ports.proofs.Keeping.{housed_in, machine_seen, machine_stepped, machines_kept}
use Rattle.csp_ports.specs.PlainPorts.{PortsAt, anywhere}
use Rattle.csp_rdp.specs.Jobs.{keeping_again}
use Rattle.csp_rdp.specs.Machine.{PlainRdp}
use Rattle.csp_rdp.specs.Placed.{placed}
use Rattle.csp_rdp_window.specs.Receiving.{is_kept}
use Rattle.csp_ports.proofs.Serving.{keeps_again}
use Rattle.csp_ports.proofs.Wholes.{there_few, whole_seen}
use Rattle.csp_ports.specs.Keeps.{Keeps, at_hand}
use Rattle.csp_ports.proofs.ports.Ports.keep_packet.Goals as goal

pub invariant_of-self : goal.invariant_of-self
invariant_of-self c =
    let p = c.self.inside in
    let name = p.token.name in
    let r = c.in-Some.machine in
    let seen = machine_seen p c.args.self.now c.args.seat c.place.result c.index_mut.result.now r c.self.view_is c.place.ensures.value c.place.ensures.inside c.self.invariant c.index_mut.ensures.value (sym c.in-Some.is) in
    let h = housed_in p c.place.result c.index_mut.result.now r c.place.ensures.inside c.self.invariant c.index_mut.ensures.value (sym c.in-Some.is) in
    let opened = ap (λ (q : PlainRdp). q.state) seen ∙ c.requires.open in
    let taken = sym (c.sees_no_region.ensures.kept nowhere r (r.recv.cur + 1)) ∙ subst (λ (q : PlainRdp). is_kept q.recv (q.recv.cur + 1) ≡ false) (sym seen) c.requires.taken in
    let same = c.put_back.ensures.state in
    let of_it = c.requires.of_it ∙ ap (λ (x : PortsAt). x.region) (sym c.self.view_is) in
    machines_kept p c.args.seat c.place.result c.index_mut.result.now (Some c.put_back.new.self) c.place.ensures.value c.place.ensures.inside c.index_mut.ensures.value
    (record {
      region = rw same (c.keeps_region.ensures.kept_again name c.args.packet r h.region of_it);
      whole = rw same (c.keeps_whole.ensures.kept_again c.args.packet r opened taken h.whole);
      rested = rw same (c.keeps_rest.ensures.kept_again c.args.packet r opened h.rested);
      few = c.state-state.ensures.few;
    })
    c.self.invariant

pub returns-clause-ports : goal.returns-clause-ports
returns-clause-ports c =
    let p = c.self.inside in
    let r = c.in-Some.machine in
    machine_stepped p c.args.self.now c.args.seat c.place.result c.index_mut.result.now r c.put_back.new.self (keeping_again (anywhere c.args.packet.picture)) c.self.view_is c.place.ensures.value c.place.ensures.inside c.self.invariant
    c.index_mut.ensures.value (sym c.in-Some.is) (ap (placed nowhere) c.put_back.ensures.state ∙ c.sees_no_region.ensures.kept_again nowhere c.args.packet r)

pub returns-clause-keeps : goal.returns-clause-keeps
returns-clause-keeps c =
    let p = c.args.self.now.ports in
    let whole = whole_seen c.self.inside c.args.self.now c.self.view_is c.self.invariant in
    let few = there_few p c.args.seat whole c.requires.there in
    subst (λ (x : PortsAt). Keeps 0 (at_hand p []) (at_hand x.ports []) (c.args.packet.picture.number ∷ [])) (sym (returns-clause-ports c))
    (keeps_again p c.args.seat c.args.packet.picture few whole c.requires.open c.requires.taken)
