use Rattle.csp_ordinary.proofs.Nothing.{passed_none}
use Rattle.csp_ordinary.proofs.laws.passes_nothing.Goals as goal

pub returns : goal.returns
returns c = λ scene r ranges after con words hops. passed_none scene r ranges con words hops after
