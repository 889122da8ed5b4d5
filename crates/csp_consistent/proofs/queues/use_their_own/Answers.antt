use Rattle.csp_consistent.proofs.OwnQueues.{uses}
use Rattle.csp_consistent.proofs.queues.use_their_own.Goals as goal

pub returns : goal.returns
returns c = uses
