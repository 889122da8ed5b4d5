-- how a pool keeps its buffers
use Rattle.std.specs.Prelude.{◌≡◌, ◌≤◌, [], length, vec_capacity}
use Rattle.csp_buffer.specs.Memory.{AreAllOf}
use Rattle.csp_lists.specs.Gathered.{pictures}
use Rattle.csp_lists.specs.Regioned.{PoolAt}
use Rattle.csp_lists.specs.declared.pool.Pool.TheInside.{Inside}

-- a pool's fields as contracts see them
abbrev pub pool_seen : Inside → PoolAt
pool_seen p = record { region = p.token.name; pool = record { room = p.buffers.room; items = pictures p.buffers.items } }

-- what a pool's fields keep at every time
pub record IsPool (p : Inside) : Type 0 where
  pub of_it : AreAllOf p.token.name p.buffers.items
  pub fits : length p.buffers.items ≤ p.buffers.room
  pub numbers : p.numbers.items ≡ []
  pub numbers_room : vec_capacity p.numbers ≡ p.buffers.room
