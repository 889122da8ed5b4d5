use Rattle.csp_delivery.proofs.SpreadingOver.{firsts_copied, firsts_of_others}
use Rattle.csp_delivery.proofs.laws.copies_first_frames.Goals as goal

pub returns : goal.returns
returns c = record { few = firsts_copied; none = firsts_of_others }
