use Rattle.std.proofs.Common.{◌∙◌, ap, map, sym}
use Rattle.std.specs.Prelude.{unwrap_or}
use Rattle.std.specs.Option.{option_to_list}
use Rattle.csp_ports.specs.PlainPorts.{machine_in}
use Rattle.csp_ports.proofs.Holding.{nil-right}
use Rattle.csp_rdp.specs.Holding.{rdp_buffers}
use Rattle.csp_rdp.specs.Machine.{idle}
use Rattle.csp_rdp.proofs.Public.{numbers-buffers}
use Rattle.csp_ports.proofs.terms.SlotState.end.Goals as goal

pub end-requires : goal.end-requires
end-requires c =
    numbers-buffers c.in-Some.machine
    ∙ ap (map (λ b. b.picture.number))
    (ap (λ o. rdp_buffers (unwrap_or o idle)) (sym c.in-Some.is) ∙ nil-right (option_to_list c.args.self.stalled) (rdp_buffers (machine_in c.args.self)) c.requires)
