use Rattle.csp_prefix.proofs.MachineReceiver.{receiver-kept}
use Rattle.csp_prefix.proofs.PortKept.{ports_kept}
use Rattle.csp_prefix.proofs.ports.keeps_receivers.Goals as goal
use Rattle.csp_prefix.specs.Machines.{IsReceiver, true_packets}

pub returns : goal.returns
returns c = λ o flows. ports_kept o (true_packets flows) (IsReceiver flows) (receiver-kept o flows)
