use Rattle.csp_standing.proofs.MetLogs.{done_met, logs_met}
use Rattle.csp_standing.proofs.rounds.keeps_logs.Goals as goal

pub returns : goal.returns
returns c = record { logs = logs_met; done = done_met }
