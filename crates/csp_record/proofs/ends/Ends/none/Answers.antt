use Rattle.csp_record.proofs.Gaining.{counted-none}
use Rattle.csp_record.proofs.ends.Ends.none.Goals as goal

pub returns : goal.returns
returns c = counted-none 256
