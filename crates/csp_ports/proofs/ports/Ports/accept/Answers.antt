use Rattle.std.proofs.Common.{[], rules, subst, sym}
use Rattle.csp_ports.proofs.Serving.{keeps_accepted}
use Rattle.csp_ports.specs.Keeps.{Keeps, at_hand}
use Rattle.csp_ports.specs.PlainPorts.{PortsAt}
use Rattle.csp_ports.proofs.ports.Ports.accept.Goals as goal

pub returns-in-Ok-clause-ports : goal.returns-in-Ok-clause-ports
returns-in-Ok-clause-ports c = search rules

pub returns-in-Ok-clause-keeps : goal.returns-in-Ok-clause-keeps
returns-in-Ok-clause-keeps c =
    subst (λ (x : PortsAt). Keeps 0 (at_hand c.args.self.now.ports []) (at_hand x.ports []) []) (sym (returns-in-Ok-clause-ports c)) (keeps_accepted c.args.self.now.ports c.in-Ok.seat c.args.connection c.args.prio c.args.flags)
