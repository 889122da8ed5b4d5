use Rattle.csp_prefix.proofs.MachineSender.{sender-kept}
use Rattle.csp_prefix.proofs.PortKept.{ports_kept}
use Rattle.csp_prefix.proofs.ports.keeps_senders.Goals as goal
use Rattle.csp_prefix.specs.Machines.{IsSender, whatever}

pub returns : goal.returns
returns c = λ o. ports_kept o whatever (IsSender o) (sender-kept o)
