use Rattle.csp_standing.proofs.RoundsMade.{no_round}
use Rattle.csp_standing.proofs.rounds.makes_no_round.Goals as goal

pub returns : goal.returns
returns c = no_round
