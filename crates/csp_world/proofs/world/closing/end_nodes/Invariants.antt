use Rattle.std.proofs.Common.{◌≡◌, ◌+◌, ◌≤◌, ◌++◌, All, length, map, vec_len, vec_capacity}
use Rattle.csp_nodes.specs.Emptied.{IsComplete, emptied_in}
use Rattle.csp_nodes.specs.Gathering.{pools_held}
use Rattle.csp_world.proofs.world.closing.end_nodes.Given as goal

abbrev pub invariant-loop-rest : goal.invariant-loop-rest
invariant-loop-rest l = record {
  held : l.held.items ++ pools_held l.node (map (λ e. e.pool) (emptied_in l.emptied.items)) ≡ l.fn.held.items ++ pools_held 0 (map (λ e. e.pool) (emptied_in l.fn.emptied.items));
  count : l.node + length l.emptied.items ≡ length l.fn.emptied.items;
  complete : All IsComplete (emptied_in l.emptied.items);
  room : vec_len l.held + length l.emptied.items ≤ vec_capacity l.held;
}

abbrev pub decreases-loop-rest : goal.decreases-loop-rest
decreases-loop-rest l = length l.emptied.items
