use Rattle.std.proofs.Common.{arith}
use Rattle.csp_exports.proofs.Walking.{exported_is}
use Rattle.csp_exports.proofs.frames.exported.Goals as goal

pub returns : goal.returns
returns c = grind (arith, exported_is)
