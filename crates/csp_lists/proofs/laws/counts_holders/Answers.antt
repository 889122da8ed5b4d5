use Rattle.csp_lists.proofs.Counting.{holders_counted}
use Rattle.csp_lists.proofs.laws.counts_holders.Goals as goal

pub returns : goal.returns
returns c = holders_counted
