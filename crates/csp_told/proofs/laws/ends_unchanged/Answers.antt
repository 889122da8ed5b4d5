use Rattle.csp_told.proofs.LastLines.{unchanged}
use Rattle.csp_told.proofs.laws.ends_unchanged.Goals as goal

pub returns : goal.returns
returns c = λ scene r none. unchanged scene r none
