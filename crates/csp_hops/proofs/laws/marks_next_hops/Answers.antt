use Rattle.csp_hops.proofs.Outs.{hops_out}
use Rattle.csp_hops.proofs.laws.marks_next_hops.Goals as goal

pub returns : goal.returns
returns c = hops_out
