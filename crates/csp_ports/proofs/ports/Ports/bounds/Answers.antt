use Rattle.csp_ports.proofs.Holding.{held-few}
use Rattle.csp_ports.proofs.Stalling.{stalls_few}
use Rattle.csp_ports.proofs.ports.Ports.bounds.Goals as goal

pub returns : goal.returns
returns c =
    let is = c.self.invariant in
    let slots = c.self.inside.slots.items in
    rw (← c.self.view_is) (held-few c.self.inside.token.name slots is.slots is.kept (stalls_few slots is.slots is.alone))
