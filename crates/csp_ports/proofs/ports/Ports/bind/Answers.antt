use Rattle.csp_ports.proofs.Binding.{refused}
use Rattle.std.proofs.Common.{ap}
use Rattle.csp_ports.specs.Kept.{plain_ports, ports_at}
use Rattle.csp_ports.specs.PlainPorts.{with_ports_at}
use Rattle.csp_ports.proofs.ports.Ports.bind.Goals as goal

pub returns-in-Err-clause-ports : goal.returns-in-Err-clause-ports
returns-in-Err-clause-ports c =
    rw (c.owe-in-Err.ensures, c.in-Err.ensures.err, ← c.self.view_is)
    (ap (with_ports_at (ports_at c.self.inside)) (refused (plain_ports c.self.inside) c.args.app c.args.port c.args.need c.in-Err.error c.why_unbound-why.result c.why_unbound-why.ensures.not_bindable c.why_unbound-why.ensures.in_use c.in-Err.ensures.not_bindable c.in-Err.ensures.in_use))
