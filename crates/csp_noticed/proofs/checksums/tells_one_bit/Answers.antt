use Rattle.csp_noticed.proofs.Flipping.{tells}
use Rattle.csp_noticed.proofs.checksums.tells_one_bit.Goals as goal

pub returns : goal.returns
returns c = tells
