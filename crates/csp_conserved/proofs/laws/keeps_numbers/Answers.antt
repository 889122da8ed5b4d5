use Rattle.csp_conserved.proofs.Parties.{parties_keep}
use Rattle.csp_conserved.proofs.laws.keeps_numbers.Goals as goal

pub returns : goal.returns
returns c = parties_keep
