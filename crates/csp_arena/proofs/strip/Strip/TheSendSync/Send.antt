use denote.Param.Send.{IsSend, owning_send}
use Rattle.bytes.proofs.Crosses.{run_owns-keyless}
use Rattle.csp_arena.specs.contracts.strip.Strip as C

pub send : IsSend C.the_row
send = owning_send C.the_type tt (λ d. run_owns-keyless d.ptr d.items) (λ k x w. tt)
