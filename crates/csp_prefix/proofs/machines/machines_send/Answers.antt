use Rattle.csp_prefix.proofs.MachineSays.{sender-opens, sender-says}
use Rattle.csp_prefix.proofs.MachineSender.{sender-kept}
use Rattle.csp_prefix.proofs.machines.machines_send.Goals as goal

pub returns : goal.returns
returns c = record { kept = sender-kept; says = sender-says; opens = sender-opens }
