-- What the fields of an emptied node are, and what is true of them.
use Rattle.std.specs.Prelude.{◌≡◌, ◌≤◌, vec_capacity}
use Rattle.csp_buffer.specs.Memory.{AreAllOf}
use Rattle.csp_lists.specs.Gathered.{numbers_back}
use Rattle.csp_nodes.specs.Emptied.{EmptiedAt}
use Rattle.csp_nodes.specs.declared.emptied.Emptied.TheInside.{Inside}

-- what is left of a node: its pool, and the numbers of the buffers that were taken back so far
abbrev pub emptied_at : Inside → EmptiedAt
emptied_at e = record { region = e.pool.region; emptied = record { pool = e.pool.pool; gathered = numbers_back e.gathered.items } }

-- all its buffers are of one region, whose memory it has, and there is room for them
pub record IsOfOne (e : Inside) : Type 0 where
  pub room : e.pool.pool.room ≤ vec_capacity e.gathered
  pub of_it : AreAllOf e.pool.region e.gathered.items
  pub region : e.memory.region ≡ e.pool.region
  pub count : e.memory.count ≡ e.pool.pool.room
