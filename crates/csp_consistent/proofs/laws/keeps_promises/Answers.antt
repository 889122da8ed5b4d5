use Rattle.csp_consistent.proofs.ToldQueues.{inboxes_told, lanes_told, numbers_told}
use Rattle.csp_consistent.proofs.laws.keeps_promises.Goals as goal

pub returns : goal.returns
returns c = record { lanes = lanes_told; inboxes = inboxes_told; numbers = numbers_told }
