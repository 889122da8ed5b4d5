use Rattle.std.proofs.Common.{length}
use Rattle.csp_closing.proofs.hands.+take_passes.Given as goal

abbrev pub decreases-take_passes : goal.decreases-take_passes
decreases-take_passes l = length l.parties.now
