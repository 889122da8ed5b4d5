use Rattle.csp_consistent.proofs.Beyond.{have_origins}
use Rattle.csp_consistent.proofs.laws.names_origins.Goals as goal

pub returns : goal.returns
returns c = have_origins
