use Rattle.std.proofs.Common.{◌≡◌, ◌∙◌, arith, drop, []}
use Rattle.std.proofs.Math.ListN.{drop_of_length-le}
use Rattle.csp_crc.proofs.Bytes.{left_of_blocks-step, left_of_blocks-end}
use Rattle.csp_crc.proofs.register.after_blocks.Goals as goal

pub loop-block-preserved : goal.loop-block-preserved
loop-block-preserved c left later room =
    c.loop-block.invariant left later room
    ∙ left_of_blocks-step c.args.blocks.now c.loop-block.block-index c.loop-block.sum c.carried-sum.result left later c.loop-block-test.true c.with_block.ensures.range room (rw (← c.with_block.ensures.sum) c.carried-sum.ensures)

pub returns : goal.returns
returns c left later room =
    let none : drop c.loop-block.block-index c.args.blocks.now ≡ [] = drop_of_length-le c.args.blocks.now (omega arith) in
    c.loop-block.invariant left later room ∙ rw none (left_of_blocks-end c.loop-block.sum left later)
