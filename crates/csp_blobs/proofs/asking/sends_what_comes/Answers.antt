use Rattle.csp_blobs.proofs.AskingSends.{sends_what_comes}
use Rattle.csp_blobs.proofs.asking.sends_what_comes.Goals as goal

pub returns : goal.returns
returns c = sends_what_comes
