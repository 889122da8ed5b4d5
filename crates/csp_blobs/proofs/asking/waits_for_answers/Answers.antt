use Rattle.csp_blobs.proofs.WaitingTurns.{waits}
use Rattle.csp_blobs.proofs.asking.waits_for_answers.Goals as goal

pub returns : goal.returns
returns c = waits
