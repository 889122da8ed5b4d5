-- What the sum and the blocks still to come leave is what all blocks leave.
use Rattle.std.proofs.Common.{◌≡◌, ℕ, ◌≤◌, drop}
use Rattle.csp_crc.specs.Register.{left_of_blocks}
use Rattle.csp_crc.proofs.register.after_blocks.Given as goal

abbrev pub invariant-loop-block : goal.invariant-loop-block
invariant-loop-block l = (places_left later : ℕ) → 96 ≤ places_left →
    left_of_blocks l.fn.register l.blocks places_left later ≡ left_of_blocks l.sum (drop l.block-index l.blocks) places_left later
