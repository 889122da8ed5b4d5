use Rattle.csp_blobs.proofs.SendingRuns.{pushes_steps}
use Rattle.csp_blobs.proofs.sending.pushes_its_steps.Goals as goal

pub returns : goal.returns
returns c = pushes_steps
