use Rattle.std.proofs.Common.{arith, rules}
use Rattle.csp_buffer.proofs.Memories.{one_back, one_of_it}
use Rattle.csp_buffer.proofs.memory.empty.Goals as goal

pub loop-buffer-preserved : goal.loop-buffer-preserved
loop-buffer-preserved c =
    let before = c.loop-buffer.invariant in (
      one_back _ _ _ _ _ _ _ c.in-Some.ensures.items c.push_reserved.ensures.items c.into_cell.ensures.number before.0,
      grind (arith, rules),
      λ r all. let old = before.2 r all in one_of_it r _ _ _ _ _ _ c.in-Some.ensures.items c.push_reserved.ensures.items c.into_cell.ensures.region old.0 old.1,
    )
