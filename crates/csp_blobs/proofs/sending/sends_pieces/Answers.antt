use Rattle.csp_blobs.proofs.SendingPieces.{sends_pieces}
use Rattle.csp_blobs.proofs.sending.sends_pieces.Goals as goal

pub returns : goal.returns
returns c = sends_pieces c.pushes_its_steps.ensures
