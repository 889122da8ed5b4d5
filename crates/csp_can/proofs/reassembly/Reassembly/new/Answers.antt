use Rattle.csp_can.proofs.Mapping.{always_map}
use Rattle.csp_can.proofs.reassembly.Reassembly.new.Goals as goal

pub returns-clause-map : goal.returns-clause-map
returns-clause-map c = always_map c.args.mtu
