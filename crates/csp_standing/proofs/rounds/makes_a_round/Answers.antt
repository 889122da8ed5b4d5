use Rattle.csp_standing.proofs.RoundsMade.{one_round}
use Rattle.csp_standing.proofs.rounds.makes_a_round.Goals as goal

pub returns : goal.returns
returns c = one_round
