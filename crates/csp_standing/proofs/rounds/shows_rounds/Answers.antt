use Rattle.csp_standing.proofs.RoundsMade.{rounds_shown}
use Rattle.csp_standing.proofs.rounds.shows_rounds.Goals as goal

pub returns : goal.returns
returns c = rounds_shown
