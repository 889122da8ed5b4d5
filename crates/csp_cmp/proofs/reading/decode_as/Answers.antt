use Rattle.std.proofs.Common.{arith}
use Rattle.csp_cmp.proofs.Fronts.{front_read}
use Rattle.csp_cmp.proofs.reading.decode_as.Goals as goal

pub returns-2-clause-fields : goal.returns-2-clause-fields
returns-2-clause-fields c = rw c.read.ensures.value (front_read c.args.bytes.now c.args.code (λ i. (c.type_inv.bytes i).fits) (omega arith))
