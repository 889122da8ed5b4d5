use Rattle.std.proofs.Common.{◌≡◌, ◌+◌, ◌*◌, length}
use Rattle.std.specs.List.{range_with_len}
use Rattle.csp_arena.specs.Cells.{AreOf, numbers}
use Rattle.csp_arena.specs.Places.{place_of}
use Rattle.csp_arena.proofs.region.Region.reclaim.Given as goal

abbrev pub invariant-loop-cell : goal.invariant-loop-cell
invariant-loop-cell l =
    AreOf l.fn.self.name l.cells.items × (numbers l.cells.items ≡ range_with_len 0 (length l.cells.items))
    × (l.strip.ptr ≡ place_of l.fn.self.name (length l.cells.items)) × (length l.strip.items + length l.cells.items * l.fn.self.size ≡ l.fn.self.cells * l.fn.self.size)

abbrev pub decreases-loop-cell : goal.decreases-loop-cell
decreases-loop-cell l = length l.cells.items
