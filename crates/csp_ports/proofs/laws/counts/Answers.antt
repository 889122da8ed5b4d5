use Rattle.csp_ports.proofs.Reckoning.{all_far, greatest_further}
use Rattle.csp_ports.proofs.laws.counts.Goals as goal

pub returns-clause-all : goal.returns-clause-all
returns-clause-all c = λ n p h. all_far n p h

pub returns-clause-more : goal.returns-clause-more
returns-clause-more c = λ m p q f. greatest_further m p q f
