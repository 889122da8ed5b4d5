use Rattle.std.proofs.Common.{◌∙◌, ap}
use Rattle.csp_ports.specs.Held.{held}
use Rattle.csp_ports.proofs.Holding.{nothing-held}
use Rattle.csp_ports.proofs.ports.Ports.end.Goals as goal

pub end_slots-requires : goal.end_slots-requires
end_slots-requires c = nothing-held c.self.inside.slots.items (ap (λ p. held p.ports) c.self.view_is ∙ c.requires)
