use Rattle.std.proofs.Common.{length}
use Rattle.csp_posts.proofs.meeting.+sweep.Given as goal

abbrev pub decreases-sweep : goal.decreases-sweep
decreases-sweep l = length l.posts.now
