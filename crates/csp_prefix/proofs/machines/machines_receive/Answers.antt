use Rattle.csp_prefix.proofs.MachineReceiver.{receiver-begins, receiver-kept}
use Rattle.csp_prefix.proofs.machines.machines_receive.Goals as goal

pub returns : goal.returns
returns c = record { kept = receiver-kept; receives = receiver-begins }
