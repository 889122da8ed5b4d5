use Rattle.csp_happenings.proofs.Counting.{none-counted}
use Rattle.csp_happenings.proofs.taking.FrameCounts.none.Goals as goal

pub returns : goal.returns
returns c = none-counted 256
