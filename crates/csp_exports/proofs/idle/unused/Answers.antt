use Rattle.std.proofs.Common.{arith}
use Rattle.csp_exports.proofs.Walking.{unused_is}
use Rattle.csp_exports.proofs.idle.unused.Goals as goal

pub returns : goal.returns
returns c = grind (arith, unused_is)
