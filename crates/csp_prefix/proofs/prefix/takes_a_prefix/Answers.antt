use Rattle.csp_prefix.proofs.RouterLaw.{true_routers}
use Rattle.csp_prefix.proofs.TakenPrefix.{reliable_prefix}
use Rattle.csp_prefix.proofs.prefix.takes_a_prefix.Goals as goal

pub returns : goal.returns
returns c = λ scene r ranges consistent stale passed. reliable_prefix scene r ranges consistent stale passed true_routers
