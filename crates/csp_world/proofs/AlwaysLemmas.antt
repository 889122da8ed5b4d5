-- What holds of a scene's opening, and is kept in each turn and tick, holds of each world that turns and ticks make of it.
use Rattle.std.proofs.Common.{◌≡◌, ℕ, Bool, true, false, Option, None, Some, List, [], ◌∷◌, refl}
use Rattle.std.specs.Prelude.{slice_get, if◌then◌else◌}
use Rattle.csp_party.specs.Any.{has_ended}
use Rattle.csp_scene.specs.Scene.{PlainScene}
use Rattle.csp_world.specs.Opening.{opening}
use Rattle.csp_world.specs.Reached.{Happening, a_tick, a_turn, world_after}
use Rattle.csp_world.specs.World.{PlainMember, PlainWorld, tick, turn, turn_at, turned}

turn_keeps : (P : PlainWorld → Type 0) (w : PlainWorld) → ((k : ℕ) (m : PlainMember) → slice_get w.members k ≡ Some m → has_ended m.party ≡ false → P (turned w k m)) → P w → (k : ℕ) → P (turn w k)
unfolding turn
turn_keeps P w each h k =
    at (slice_get w.members k) refl
  where
    at : (found : Option PlainMember) → slice_get w.members k ≡ found → P (turn_at w k found)
    at None e = h
    at (Some m) e = by (has_ended m.party) refl where
      by : (ended : Bool) → has_ended m.party ≡ ended → P (if ended then w else turned w k m)
      by true f = h
      by false f = each k m e f

pub always : (scene : PlainScene) (P : PlainWorld → Type 0) → P (opening scene)
    → ((hs : List Happening) → P (world_after scene hs) → (k : ℕ) (m : PlainMember) → slice_get (world_after scene hs).members k ≡ Some m → has_ended m.party ≡ false → P (turned (world_after scene hs) k m))
    → ((w : PlainWorld) → P w → P (tick w)) → (hs : List Happening) → P (world_after scene hs)
always scene P first each ticks [] = first
always scene P first each ticks (a_turn k ∷ hs) = let before = always scene P first each ticks hs in turn_keeps P (world_after scene hs) (each hs before) before k
always scene P first each ticks (a_tick ∷ hs) = ticks (world_after scene hs) (always scene P first each ticks hs)
