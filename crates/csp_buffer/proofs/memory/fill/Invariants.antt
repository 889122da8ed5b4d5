use Rattle.std.proofs.Common.{◌≡◌, ◌+◌, ◌≤◌, ◌++◌, All, length, map, reverse, vec_len, vec_capacity}
use Rattle.csp_buffer.specs.PlainBuffer.{IsBufferCell, buffer_of}
use Rattle.csp_buffer.proofs.memory.fill.Given as goal

abbrev pub invariant-loop-cell : goal.invariant-loop-cell
invariant-loop-cell l =
    (l.buffers.items ++ map buffer_of (reverse l.cells.items) ≡ map buffer_of (reverse l.fn.cells.items))
    × All IsBufferCell l.cells.items
    × (vec_len l.buffers + length l.cells.items ≤ vec_capacity l.buffers)
    × (vec_capacity l.cells ≡ vec_capacity l.fn.cells)
    × (vec_capacity l.buffers ≡ vec_capacity l.fn.buffers)

abbrev pub decreases-loop-cell : goal.decreases-loop-cell
decreases-loop-cell l = goal.left-loop-cell l
