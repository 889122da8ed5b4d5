-- The worlds that turns and ticks make of a scene's opening world.
use Rattle.std.specs.Prelude.{ℕ, ◌≡◌, List, [], ◌∷◌}
use Rattle.csp_scene.specs.Scene.{PlainScene}
use Rattle.csp_world.specs.Opening.{opening}
use Rattle.csp_world.specs.World.{PlainWorld, turn, tick}

-- what happens to a world: a turn of the party at this place, or a tick
pub data Happening : Type 0 where
  a_turn : ℕ → Happening
  a_tick : Happening

-- the world after a turn or a tick
abbrev pub happened : PlainWorld → Happening → PlainWorld
happened w (a_turn place) = turn w place
happened w a_tick = tick w

-- the world of a scene after these, the last of which stands first
abbrev pub world_after : PlainScene → List Happening → PlainWorld
world_after scene [] = opening scene
world_after scene (h ∷ earlier) = happened (world_after scene earlier) h

-- the world is one that some turns and ticks make of the scene's opening
pub record IsReached (scene : PlainScene) (w : PlainWorld) : Type 0 where
  pub happenings : List Happening
  pub there : w ≡ world_after scene happenings
