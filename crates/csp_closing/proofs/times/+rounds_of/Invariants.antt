use Rattle.std.proofs.Common.{length}
use Rattle.csp_closing.proofs.times.+rounds_of.Given as goal

abbrev pub decreases-rounds_of : goal.decreases-rounds_of
decreases-rounds_of l = length l.logs.now
