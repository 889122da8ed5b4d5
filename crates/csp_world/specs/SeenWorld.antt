-- What a world is seen as.
use Rattle.std.specs.Prelude.{ℕ, List}
use Rattle.csp_arena.specs.Cells.{RegionName}
use Rattle.csp_world.specs.World.{PlainWorld}

-- a world, for how many turns the log of each party has room, and the region of each node's buffers
pub record SeenWorld : Type 0 where
  pub plain : PlainWorld
  pub spares : List ℕ
  pub regions : List RegionName
