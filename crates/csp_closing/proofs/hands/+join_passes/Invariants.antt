use Rattle.std.proofs.Common.{length}
use Rattle.csp_closing.proofs.hands.+join_passes.Given as goal

abbrev pub decreases-join_passes : goal.decreases-join_passes
decreases-join_passes l = length l.parties.now
