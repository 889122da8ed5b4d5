-- Turns, rounds and moves reach worlds from worlds that are reached.
use Rattle.std.proofs.Common.{◌≡◌, ℕ, zero, suc, Bool, true, false, Option, None, Some, List, [], ◌∷◌, length, refl, subst, ap}
use Rattle.std.specs.Prelude.{if◌then◌else◌, nat_le}
use Rattle.std.proofs.lemmas.Option.{same_Some}
use Rattle.csp_scene.specs.Scene.{PlainScene, PlainSchedule, in_rounds, shuffled, stepwise}
use Rattle.csp_scene.specs.declared.scenario.Move.{Move}
use Rattle.csp_scene.specs.declared.scenario.Move.TheVariants as move
use Rattle.csp_world.specs.Opening.{opening}
use Rattle.csp_world.specs.Reached.{IsReached, a_tick, a_turn}
use Rattle.csp_world.specs.Schedule.{checked, moved, moves, next_order, places_in, round, rounds, run, run_as, run_moves, run_rounds, turns}
use Rattle.csp_world.specs.World.{PlainWorld, finished, tick, turn, weight}
use Rattle.csp_world.specs.declared.limits.TheConstants.{MAX_ENTRIES}
use Rattle.csp_world.specs.declared.rounds.Order.{Order}
use Rattle.csp_world.specs.declared.rounds.Order.TheVariants as order

pub reached_opening : (scene : PlainScene) → IsReached scene (opening scene)
reached_opening scene = record { happenings = []; there = refl }

pub reached_turn : (scene : PlainScene) (w : PlainWorld) (place : ℕ) → IsReached scene w → IsReached scene (turn w place)
reached_turn scene w place r = record { happenings = a_turn place ∷ r.happenings; there = ap (λ (x : PlainWorld). turn x place) r.there }

pub reached_tick : (scene : PlainScene) (w : PlainWorld) → IsReached scene w → IsReached scene (tick w)
reached_tick scene w r = record { happenings = a_tick ∷ r.happenings; there = ap tick r.there }

pub reached_turns : (scene : PlainScene) (places : List ℕ) (w : PlainWorld) → IsReached scene w → IsReached scene (turns w places)
unfolding turns
reached_turns scene [] w r = r
reached_turns scene (place ∷ places) w r = reached_turns scene places (turn w place) (reached_turn scene w place r)

reached_round : (scene : PlainScene) (o : Order) (w : PlainWorld) → IsReached scene w → IsReached scene (round o w)
unfolding round
reached_round scene o w r = reached_tick scene _ (reached_turns scene (places_in (length w.members) o) w r)

-- what is looked at leaves the world, or what comes later, or none
reached_checked : (scene : PlainScene) (after w : PlainWorld) (later : Option PlainWorld) → IsReached scene after → (later ≡ Some w → IsReached scene w) → checked after later ≡ Some w → IsReached scene w
reached_checked scene after w later now next e = by (finished after) e where
  full : (reached : Bool) → (if reached then None else later) ≡ Some w → IsReached scene w
  full true g = absurd cc
  full false g = next g

  by : (done : Bool) → (if done then Some after else if nat_le MAX_ENTRIES (weight after) then None else later) ≡ Some w → IsReached scene w
  by true g = subst (IsReached scene) (same_Some after w g) now
  by false g = full (nat_le MAX_ENTRIES (weight after)) g

reached_rounds : (scene : PlainScene) (most : ℕ) (o : Order) (w v : PlainWorld) → IsReached scene w → rounds most o w ≡ Some v → IsReached scene v
unfolding rounds
reached_rounds scene zero o w v r e = subst (IsReached scene) (same_Some w v e) r
reached_rounds scene (suc most) o w v r e =
    let next = reached_round scene o w r in
    reached_checked scene (round o w) v _ next (λ g. reached_rounds scene most (next_order (length w.members) o) (round o w) v next g) e

reached_run_rounds : (scene : PlainScene) (most : ℕ) (o : Order) (w v : PlainWorld) → IsReached scene w → run_rounds most o w ≡ Some v → IsReached scene v
unfolding run_rounds
reached_run_rounds scene most o w v r e = by (finished w) e where
  by : (done : Bool) → (if done then Some w else rounds most o w) ≡ Some v → IsReached scene v
  by true g = subst (IsReached scene) (same_Some w v g) r
  by false g = reached_rounds scene most o w v r g

reached_moved : (scene : PlainScene) (w : PlainWorld) (m : Move) → IsReached scene w → IsReached scene (moved w m)
reached_moved scene w move.Tick r = reached_tick scene w r
reached_moved scene w (move.Turn party) r = reached_turn scene w _ r

reached_moves : (scene : PlainScene) (ms : List Move) (w : PlainWorld) → IsReached scene w → IsReached scene (moves w ms)
unfolding moves
reached_moves scene [] w r = r
reached_moves scene (m ∷ ms) w r = reached_moves scene ms (moved w m) (reached_moved scene w m r)

reached_run_moves : (scene : PlainScene) (w v : PlainWorld) → IsReached scene w → run_moves w ≡ Some v → IsReached scene v
unfolding run_moves
reached_run_moves scene w v r e = reached_checked scene w v (Some w) r (λ g. subst (IsReached scene) (same_Some w v g) r) e

reached_by : (scene : PlainScene) (s : PlainSchedule) (most : ℕ) (w v : PlainWorld) → IsReached scene w → run_as s most w ≡ Some v → IsReached scene v
reached_by scene in_rounds most w v r e = reached_run_rounds scene most order.ByParty w v r e
reached_by scene (shuffled seed) most w v r e = reached_run_rounds scene most (order.ByDraw seed) w v r e
reached_by scene (stepwise ms) most w v r e = reached_run_moves scene (moves w ms) v (reached_moves scene ms w r) e

-- so the world at the end of a scene's run is reached
pub reached_run : (scene : PlainScene) (w : PlainWorld) → run scene ≡ Some w → IsReached scene w
unfolding run
reached_run scene w e = reached_by scene scene.schedule scene.until (opening scene) w (reached_opening scene) e
