use Rattle.std.proofs.Common.{length}
use Rattle.csp_queue_tests.proofs.pools.count.Given as goal

abbrev pub decreases-loop-buffer : goal.decreases-loop-buffer
decreases-loop-buffer l = length l.buffers.items
