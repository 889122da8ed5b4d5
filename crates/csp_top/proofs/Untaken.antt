-- of a source that was left as it is nothing was taken
use Rattle.std.proofs.Common.{ℕ, List, [], Option, Some, None, refl, arith}
use Rattle.csp_base.specs.Transfer.{TookAtMost}

pub took_none : (left : Option (List ℕ)) (most : ℕ) → TookAtMost left left most
took_none None most = ([], omega arith, tt)
took_none (Some bytes) most = ([], omega arith, refl)
