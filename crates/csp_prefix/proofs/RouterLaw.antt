-- Each router is true: of what its machines, its ports and its turns keep.
use Rattle.csp_prefix.proofs.MachineReceiver.{receiver-begins, receiver-kept}
use Rattle.csp_prefix.proofs.MachineSays.{sender-opens, sender-says}
use Rattle.csp_prefix.proofs.MachineSender.{sender-kept}
use Rattle.csp_prefix.proofs.PortKept.{ports_kept}
use Rattle.csp_prefix.proofs.RouterDelivers.{delivers_prefix}
use Rattle.csp_prefix.proofs.RouterSends.{are_numbered, are_placed, sends_genuine}
use Rattle.csp_prefix.specs.Machines.{IsReceiver, IsSender, true_packets, whatever}
use Rattle.csp_prefix.specs.Routers.{AreTrueRouters}
use Rattle.csp_stack.specs.Router.{flows_of}

pub true_routers : AreTrueRouters
true_routers f routes es log =
    let o = flows_of f in
    let senders = ports_kept o whatever (IsSender o) (sender-kept o) in
    record {
      placed = are_placed f routes es senders (sender-opens o) log;
      numbered = are_numbered f routes es senders (sender-opens o) log;
      sends = λ flows shown. sends_genuine f routes es flows senders (sender-says o) (sender-opens o) log shown;
      delivers = λ flows shown hears none.
          delivers_prefix f routes es flows (ports_kept o (true_packets flows) (IsReceiver flows) (receiver-kept o flows)) (receiver-begins flows) log hears none;
    }
