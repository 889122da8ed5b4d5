use Rattle.csp_standing.proofs.ShownQueues.{all_shown}
use Rattle.csp_standing.proofs.shown.shows.Goals as goal

pub returns : goal.returns
returns c = all_shown
