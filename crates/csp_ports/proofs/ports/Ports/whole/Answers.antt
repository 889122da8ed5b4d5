use Rattle.std.proofs.Common.{◌≤◌, subst}
use Rattle.csp_base.specs.declared.limits.TheConstants.{MAX_APPS}
use Rattle.csp_deck.specs.Regions.{nowhere}
use Rattle.csp_ports.proofs.Stalling.{stalls_few, stalls_map}
use Rattle.csp_ports.proofs.Wholes.{whole_seen}
use Rattle.csp_ports.specs.PlainPorts.{PortsAt, stalls}
use Rattle.csp_ports.proofs.ports.Ports.whole.Goals as goal

pub returns-clause-machines : goal.returns-clause-machines
returns-clause-machines c = whole_seen c.self.inside c.args.self.now c.self.view_is c.self.invariant

pub returns-clause-waits : goal.returns-clause-waits
returns-clause-waits c =
    let ss = c.self.inside.slots.items in
    subst (λ (x : PortsAt). stalls x.ports.slots ≤ MAX_APPS) c.self.view_is (rw (stalls_map nowhere ss) (stalls_few ss c.self.invariant.slots c.self.invariant.alone))
