use Rattle.csp_told.proofs.LastLines.{undisturbed}
use Rattle.csp_told.proofs.laws.ends_undisturbed.Goals as goal

pub returns : goal.returns
returns c = λ scene r fresh none. undisturbed scene r fresh none
