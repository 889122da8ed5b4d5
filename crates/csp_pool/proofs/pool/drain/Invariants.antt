use Rattle.std.proofs.Common.{◌≡◌, ◌+◌, List, ◌++◌, length, vec_len, vec_capacity}
use Rattle.crossbeam_queue.specs.Passes.{view}
use Rattle.csp_buffer.specs.Memory.{AreAllOf}
use Rattle.csp_buffer.specs.PlainBuffer.{PlainBuffer}
use Rattle.csp_pool.specs.Hands.{took_all}
use Rattle.csp_pool.specs.PlainPool.{numbers}
use Rattle.csp_pool.proofs.pool.drain.Given as goal

abbrev pub invariant-loop : goal.invariant-loop
invariant-loop g l = (l.pass.table_id ≡ l.initial.pass.table_id) × (l.pass.id ≡ l.initial.pass.id) × (l.pass.me.1 ≡ l.initial.pass.me.1) × (vec_len l.into ≡ vec_len l.initial.into + l.counter) × (vec_capacity l.into ≡ vec_capacity l.initial.into)
    × ((left : List PlainBuffer) × (l.into.items ≡ l.initial.into.items ++ left) × AreAllOf (view l.initial.pass).region left × (view l.pass ≡ took_all (view l.initial.pass) (numbers left)) × (length left ≡ l.counter))
