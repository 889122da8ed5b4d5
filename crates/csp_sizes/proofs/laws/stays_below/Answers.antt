use Rattle.csp_sizes.proofs.Below.{never_past}
use Rattle.csp_sizes.proofs.laws.stays_below.Goals as goal

pub returns : goal.returns
returns c = never_past
