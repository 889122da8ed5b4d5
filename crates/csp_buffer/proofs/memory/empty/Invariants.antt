use Rattle.std.proofs.Common.{◌≡◌, ◌+◌, ◌≤◌, ◌++◌, length, map, reverse, vec_len, vec_capacity}
use Rattle.csp_arena.specs.Cells.{RegionName, AreOf, numbers}
use Rattle.csp_buffer.specs.Memory.{AreAllOf}
use Rattle.csp_buffer.proofs.memory.empty.Given as goal

abbrev pub invariant-loop-buffer : goal.invariant-loop-buffer
invariant-loop-buffer l =
    (numbers l.cells.items ++ reverse (map (λ b. b.picture.number) l.buffers.items) ≡ reverse (map (λ b. b.picture.number) l.fn.buffers.items))
    × (vec_len l.cells + length l.buffers.items ≤ vec_capacity l.cells)
    × ((r : RegionName) → AreAllOf r l.fn.buffers.items → AreAllOf r l.buffers.items × AreOf r l.cells.items)

abbrev pub decreases-loop-buffer : goal.decreases-loop-buffer
decreases-loop-buffer l = goal.left-loop-buffer l
