use Rattle.csp_peers.proofs.StaleNone.{stale_none}
use Rattle.csp_peers.proofs.laws.counts_no_stale.Goals as goal

pub returns : goal.returns
returns c = λ scene r is apart con same clear. stale_none scene r is con same apart clear
