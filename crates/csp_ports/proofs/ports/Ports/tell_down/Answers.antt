use Rattle.std.proofs.Common.{[], rules, subst, sym}
use Rattle.csp_ports.proofs.Serving.{keeps_told}
use Rattle.csp_ports.specs.Keeps.{Keeps, at_hand}
use Rattle.csp_ports.specs.PlainPorts.{PortsAt}
use Rattle.csp_ports.proofs.ports.Ports.tell_down.Goals as goal

pub returns-clause-ports : goal.returns-clause-ports
returns-clause-ports c = search rules

pub returns-clause-keeps : goal.returns-clause-keeps
returns-clause-keeps c = subst (λ (x : PortsAt). Keeps 0 (at_hand c.args.self.now.ports []) (at_hand x.ports []) []) (sym (returns-clause-ports c)) (keeps_told c.args.self.now.ports c.args.seat)
