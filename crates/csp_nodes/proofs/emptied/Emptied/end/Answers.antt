use Rattle.std.proofs.Common.{◌≡◌, ◌+◌, ◌≤◌, length, vec_len, vec_capacity, arith}
use Rattle.csp_lists.specs.Gathered.{numbers_back, pictures}
use Rattle.csp_nodes.specs.Emptied.{IsComplete}
use Rattle.csp_nodes.proofs.ClosingParts.{all_there, back_long, each_once}
use Rattle.csp_nodes.proofs.emptied.Emptied.end.Goals as goal

pub close-requires-clause-room : goal.close-requires-clause-room
close-requires-clause-room c =
    let complete : IsComplete (record { pool = c.self.inside.pool.pool; gathered = numbers_back c.self.inside.gathered.items }) = rw (← c.self.view_is) at c.requires.complete in
    omega (arith, complete.fits, back_long c.self.inside.gathered.items, c.self.invariant.room, c.self.inside.gathered.ok.0)

pub close-requires-2-clause-count : goal.close-requires-2-clause-count
close-requires-2-clause-count c = all_there c.self.inside.gathered.items c.close.new.into.items c.self.inside.pool.pool c.self.inside.memory.count c.close.ensures.buffers c.self.invariant.count (rw (← c.self.view_is) at c.requires.complete)

pub close-requires-2-clause-each_once : goal.close-requires-2-clause-each_once
close-requires-2-clause-each_once c = each_once c.self.inside.gathered.items c.close.new.into.items c.self.inside.pool.pool c.self.inside.memory.count c.close.ensures.buffers c.self.invariant.count (rw (← c.self.view_is) at c.requires.complete)
