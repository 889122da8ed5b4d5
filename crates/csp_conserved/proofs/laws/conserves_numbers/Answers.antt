use Rattle.csp_conserved.proofs.Flowing.{flows}
use Rattle.csp_conserved.proofs.Opened.{open_empty}
use Rattle.csp_conserved.proofs.Parties.{parties_keep}
use Rattle.csp_conserved.proofs.laws.conserves_numbers.Goals as goal

pub returns : goal.returns
returns c = λ scene r is after are order inboxes kept. flows scene r is after are order inboxes kept (parties_keep scene r is after are order) (open_empty scene)
