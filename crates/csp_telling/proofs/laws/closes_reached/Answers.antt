use Rattle.csp_telling.proofs.Logs.{are_logged}
use Rattle.csp_telling.proofs.Reached.{are_reached}
use Rattle.csp_telling.proofs.laws.closes_reached.Goals as goal

pub returns-clause-logs : goal.returns-clause-logs
returns-clause-logs c = are_logged

pub returns-clause-reached : goal.returns-clause-reached
returns-clause-reached c = are_reached
