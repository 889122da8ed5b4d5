use Rattle.std.proofs.Common.{◌≤◌, subst, sym}
use Rattle.csp_ports.proofs.Counting.{far_at}
use Rattle.csp_ports.specs.declared.terms.Terms.{Terms}
use Rattle.csp_ports.proofs.ports.Ports.begin.Goals as goal

pub returns-clause-far : goal.returns-clause-far
returns-clause-far c = λ n h. c.set_terms.ensures.far n h (subst (λ (t : Terms). t.ordinal ≤ n) (sym c.terms-terms.ensures.value) (far_at n c.args.self.now.ports c.args.seat h))
