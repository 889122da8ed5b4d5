use Rattle.csp_prefix.proofs.RouterLaw.{true_routers}
use Rattle.csp_prefix.proofs.routers.routers_are_true.Goals as goal

pub returns : goal.returns
returns c = true_routers
