use Rattle.std.proofs.Common.{ap, bit_xor}
use Rattle.csp_crc.proofs.Bytes.{message-from_bytes, block-lt}
use Rattle.csp_crc.proofs.register.with_block.Goals as goal

pub returns : goal.returns
returns c = record {
  sum = rw c.from_le_bytes.ensures (ap (bit_xor c.args.sum) (message-from_bytes c.args.block.now c.told-block c.fits-block));
  range = block-lt c.args.block.now c.told-block;
}
