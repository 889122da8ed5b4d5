use Rattle.csp_rdp.proofs.HoldingLemmas.{numbers-buffers, parted-numbers}
use Rattle.csp_rdp.proofs.laws.numbers.Goals as goal

pub returns : goal.returns
returns c = record {
  parted = λ k r. parted-numbers k r;
  buffers = λ r. numbers-buffers r;
}
