use Rattle.std.proofs.Common.{◌≡◌, List, [], ◌++◌, length}
use Rattle.crossbeam_queue.specs.Passes.{view}
use Rattle.csp_buffer.specs.Memory.{AreAllOf}
use Rattle.csp_buffer.specs.PlainBuffer.{PlainBuffer}
use Rattle.csp_pool.proofs.Rules.{opened}
use Rattle.csp_pool.proofs.pool.Pool.open.Given as goal

abbrev pub invariant-loop-buffer : goal.invariant-loop-buffer
invariant-loop-buffer g l = (l.pass.table_id ≡ l.initial.pass.table_id) × (l.pass.me.1 ≡ []) × AreAllOf l.fn.region.name l.rest.items
    × ((done : List PlainBuffer) × (l.fn.buffers.items ≡ done ++ l.rest.items) × (view l.pass ≡ opened l.fn.region.name done))

abbrev pub decreases-loop-buffer : goal.decreases-loop-buffer
decreases-loop-buffer g l = length l.rest.items
