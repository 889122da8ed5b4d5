use Rattle.std.proofs.Common.{◌∙◌, arith, ap}
use Rattle.std.specs.Prelude.{None}
use Rattle.csp_ports.proofs.Slots.{terms_of_machine}
use Rattle.csp_ports.specs.Kept.{wished, wishes}
use Rattle.csp_ports.specs.PlainPorts.{PortsAt, terms_at, terms_of}
use Rattle.csp_ports.proofs.ports.Ports.free_as.Goals as goal

pub returns-clause-wishes : goal.returns-clause-wishes
returns-clause-wishes c =
    let app = c.args.seat.app in
    let gone = ap (λ (x : PortsAt). wishes app (terms_of x.ports)) c.replace.ensures.comes.ports ∙ ap (wishes app) (terms_of_machine c.set_terms.new.self.ports c.args.seat None) in
    omega (
      arith,
      gone,
      c.set_terms.ensures.wishes,
      ap (λ (x : PortsAt). wishes app (terms_of x.ports)) c.self.view_is,
      ap (λ (x : PortsAt). wished (terms_at x.ports c.args.seat).wish) c.self.view_is,
    )
