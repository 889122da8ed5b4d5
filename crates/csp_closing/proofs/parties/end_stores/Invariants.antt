use Rattle.std.proofs.Common.{◌≡◌, ◌+◌, ◌≤◌, ◌++◌, All, length, map}
use Rattle.csp_closing.specs.Stores.{CanGiveBack, pile_of, pool_part}
use Rattle.csp_consistent.specs.Pools.{pools_held}
use Rattle.csp_closing.proofs.parties.end_stores.Given as goal

abbrev pub invariant-loop-rest : goal.invariant-loop-rest
invariant-loop-rest l = record {
  left : l.notes.left ≡ l.fn.notes.left;
  held : l.notes.held ++ pools_held l.node (map pool_part (map pile_of l.stores.items)) ≡ l.fn.notes.held ++ pools_held 0 (map pool_part (map pile_of l.fn.stores.items));
  queues : l.notes.queues ≡ l.fn.notes.queues;
  count : l.node + length l.stores.items ≡ length l.fn.stores.items;
  can : All CanGiveBack (map pile_of l.stores.items);
  room : length l.stores.items ≤ l.notes.others;
}

abbrev pub decreases-loop-rest : goal.decreases-loop-rest
decreases-loop-rest l = length l.stores.items
