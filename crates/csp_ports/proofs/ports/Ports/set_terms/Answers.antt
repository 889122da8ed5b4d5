use Rattle.csp_conn.specs.PlainConns.{place_of}
use Rattle.csp_ports.proofs.Counting.{far_terms}
use Rattle.csp_ports.specs.Counts.{AreFar}
use Rattle.std.proofs.Common.{◌≡◌, ◌+◌, ◌≤◌, ◌<◌, length, arith, ap, subst, sym, ◌∙◌}
use Rattle.csp_ports.proofs.Keeping.{seen_terms, terms_kept, terms_set}
use Rattle.csp_ports.proofs.Slots.{held_terms, terms_listed, terms_of_terms}
use Rattle.csp_ports.proofs.Wishing.{weighs_at}
use Rattle.csp_ports.specs.Held.{held}
use Rattle.csp_ports.specs.Kept.{plain_ports, wished, wishes}
use Rattle.csp_ports.specs.PlainPorts.{PortsAt, fresh, terms_at, terms_of, waiting, with_ports_at, with_terms}
use Rattle.csp_ports.specs.declared.ports.TheConstants.{ANSWERS}
use Rattle.csp_ports.specs.declared.terms.Terms.{Terms}
use Rattle.csp_ports.proofs.ports.Ports.set_terms.Goals as goal

pub invariant_of-self : goal.invariant_of-self
invariant_of-self c =
    terms_kept c.self.inside c.args.seat c.place.result c.index_mut.result.now c.args.terms c.place.ensures.value c.requires.there.of_app c.place.ensures.inside c.self.invariant c.index_mut.ensures.value
    (subst (λ (x : PortsAt). (waiting c.args.seat.app x.ports.owed + wishes c.args.seat.app (terms_of x.ports)) + wished c.args.terms.wish ≤ ANSWERS + wished (terms_at x.ports c.args.seat).wish) (sym c.self.view_is) c.requires.due)

pub returns-clause-ports : goal.returns-clause-ports
returns-clause-ports c =
    terms_set c.self.inside c.args.seat c.place.result c.index_mut.result.now c.args.terms c.place.ensures.value c.place.ensures.inside c.self.invariant c.index_mut.ensures.value
    ∙ ap (λ (x : PortsAt). with_ports_at x (with_terms x.ports c.args.seat c.args.terms)) c.self.view_is

pub returns-clause-wishes : goal.returns-clause-wishes
returns-clause-wishes c =
    let seat = c.args.seat in
    let app = seat.app in
    let p = plain_ports c.self.inside in
    let there : place_of seat < length (terms_of p) = omega (arith, c.place.ensures.inside, c.place.ensures.value, c.self.invariant.slots, seen_terms c.self.inside) in
    let old = subst (λ (t : Terms). wishes app (terms_of (with_terms p seat c.args.terms)) + wished t.wish ≡ wishes app (terms_of p) + wished c.args.terms.wish) (sym (terms_listed p seat))
    (rw (terms_of_terms p seat c.args.terms) (weighs_at (λ t. wished t.wish) seat (terms_of p) c.args.terms fresh c.requires.there.of_app there)) in
    subst (λ (x : PortsAt). wishes app (terms_of x.ports) + wished (terms_at c.args.self.now.ports seat).wish ≡ wishes app (terms_of c.args.self.now.ports) + wished c.args.terms.wish) (sym (returns-clause-ports c))
    (subst (λ (x : PortsAt). wishes app (terms_of (with_terms x.ports seat c.args.terms)) + wished (terms_at x.ports seat).wish ≡ wishes app (terms_of x.ports) + wished c.args.terms.wish) c.self.view_is old)

pub returns-clause-held : goal.returns-clause-held
returns-clause-held c = ap (λ (x : PortsAt). held x.ports) (returns-clause-ports c) ∙ held_terms c.args.self.now.ports c.args.seat c.args.terms

pub returns-clause-far : goal.returns-clause-far
returns-clause-far c = λ n h few. subst (λ (x : PortsAt). AreFar n x.ports) (sym (returns-clause-ports c)) (far_terms n c.args.self.now.ports c.args.seat c.args.terms few h)
