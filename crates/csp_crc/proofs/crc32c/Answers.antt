use Rattle.std.proofs.Common.{arith}
use Rattle.csp_crc.proofs.Division.{crc_of-left}
use Rattle.csp_crc.proofs.crc32c.Goals as goal

pub returns : goal.returns
returns c = omega (arith, crc_of-left c.args.bytes.now, c.after_bytes.ensures)
