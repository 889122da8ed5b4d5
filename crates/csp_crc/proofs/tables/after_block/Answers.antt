use Rattle.std.proofs.Common.{◌/◌, ◌^◌, refl}
use Rattle.std.proofs.lemmas.Nat.{and_mask}
use Rattle.csp_crc.proofs.Blocks.{four-bytes}
use Rattle.csp_crc.proofs.tables.after_block.Goals as goal

pub returns : goal.returns
returns c =
    rw (c.after_15.ensures, c.after_14.ensures, c.after_13.ensures, c.after_12.ensures, four-bytes c.args.register c.ranges.register.fits, and_mask c.args.register 8, and_mask (c.args.register / 2 ^ 8) 8, and_mask (c.args.register / 2 ^ 16) 8) refl
