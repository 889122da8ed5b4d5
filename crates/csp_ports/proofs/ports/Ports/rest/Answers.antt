use Rattle.csp_ports.proofs.Stilling.{rest_seen}
use Rattle.csp_ports.proofs.ports.Ports.rest.Goals as goal

pub returns : goal.returns
returns c = rest_seen c.self.inside c.args.self.now c.self.view_is c.self.invariant
