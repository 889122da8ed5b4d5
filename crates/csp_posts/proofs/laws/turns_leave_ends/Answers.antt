use Rattle.csp_posts.proofs.Turning.{turns_still, turns_of_it, turns_ends}
use Rattle.csp_posts.proofs.laws.turns_leave_ends.Goals as goal

pub returns : goal.returns
returns c = record { still = turns_still; of_it = turns_of_it; ends = turns_ends }
