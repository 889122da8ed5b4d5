use Rattle.csp_ordinary.proofs.Unflipped.{undamaged}
use Rattle.csp_ordinary.proofs.laws.undamaged_without_flips.Goals as goal

pub returns : goal.returns
returns c = undamaged
