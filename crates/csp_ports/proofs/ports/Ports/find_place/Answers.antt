use Rattle.std.proofs.Common.{ap, sym, ◌∙◌}
use Rattle.csp_ports.proofs.Finding.{found_on, found_round}
use Rattle.csp_ports.specs.PlainPorts.{PortsAt}
use Rattle.csp_ports.proofs.ports.Ports.find_place.Goals as goal

pub returns-in-Some-clause-place : goal.returns-in-Some-clause-place
returns-in-Some-clause-place c =
    found_on c.args.now c.args.self.now.ports c.self.inside.next c.slot_count-count.result c.in-Some.at
    (sym (ap (λ (x : PortsAt). x.ports.next) c.self.view_is)) c.slot_count-count.ensures.value (sym c.find_between.ensures.place ∙ c.in-Some.is)

pub returns-in-None-clause-place : goal.returns-in-None-clause-place
returns-in-None-clause-place c =
    found_round c.args.now c.args.self.now.ports c.self.inside.next c.slot_count-count.result c.min.result c.find_between-in-None.result
    (sym (ap (λ (x : PortsAt). x.ports.next) c.self.view_is)) c.slot_count-count.ensures.value c.min.ensures
    (sym c.find_between.ensures.place ∙ c.in-None.is) c.find_between-in-None.ensures.place
