use Rattle.std.proofs.Common.{refl, arith}
use Rattle.std.proofs.lemmas.Nat.{shl_whole}
use Rattle.csp_crc.proofs.Blocks.{four-words}
use Rattle.csp_crc.proofs.register.carried.Goals as goal

pub returns : goal.returns
returns c left later h =
    rw (four-words c.args.sum later left c.ranges.sum.fits h, c.from-first.ensures, c.from-second.ensures, c.from-third.ensures, c.from-fourth.ensures)
    (rw (shl_whole c.after_block-2.result 32 32 128 c.after_block-2.type_inv (omega arith), shl_whole c.after_block-3.result 32 64 128 c.after_block-3.type_inv (omega arith), shl_whole c.after_block-4.result 32 96 128 c.after_block-4.type_inv (omega arith))
    (rw (c.after_block.ensures, c.after_block-2.ensures, c.after_block-3.ensures, c.after_block-4.ensures, c.lowest_word.ensures, c.lowest_word-2.ensures, c.lowest_word-3.ensures, c.lowest_word-4.ensures) refl))
