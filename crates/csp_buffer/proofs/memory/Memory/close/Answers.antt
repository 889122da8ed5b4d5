use Rattle.std.proofs.Common.{arith}
use Rattle.csp_buffer.proofs.Memories.{each_once_back}
use Rattle.csp_buffer.proofs.memory.Memory.close.Goals as goal

pub empty-requires-clause-room : goal.empty-requires-clause-room
empty-requires-clause-room c = grind (arith, c.self.view_is, c.self.invariant, c.requires.count)

pub close-requires-clause-of_it : goal.close-requires-clause-of_it
close-requires-clause-of_it c = c.empty.ensures.of_it c.self.inside.region.name (rw (← c.self.view_is) at c.requires.of_it)

pub close-requires-clause-each_once : goal.close-requires-clause-each_once
close-requires-clause-each_once c = each_once_back c.self.inside.region.cells c.args.buffers.items _ c.empty.ensures.numbers (rw (← c.self.view_is) at c.requires.each_once)
