-- Lists of nodes with which nothing was done yet.
use Rattle.std.specs.Prelude.{[]}
use Rattle.csp_lists.specs.PlainDeck.{PlainDeck, IsIdle}
use Rattle.csp_nodes.specs.Emptied.{IsComplete}

-- the queues of a node are empty, and all its buffers are in its pool
pub record IsUnused (d : PlainDeck) : Type 0 where
  pub idle : IsIdle d
  pub complete : IsComplete (record { pool = d.pool; gathered = [] })
