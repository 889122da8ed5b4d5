use Rattle.csp_peers.proofs.WindowLast.{window_holds}
use Rattle.csp_peers.proofs.laws.keeps_window.Goals as goal

pub returns : goal.returns
returns c = λ scene r is con fresh same. window_holds scene r is con fresh same
