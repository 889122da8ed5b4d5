-- The run of a generated scene ends below the entry limit, however it goes: each of its entries weighs one.
use Rattle.std.proofs.Common.{map, sum_by, ◌≡◌, ℕ, zero, suc, ◌+◌, ◌*◌, ◌<◌, ◌≤◌, Bool, true, false, cond, leb, Option, None, Some, List, [], ◌∷◌, length, refl, sym, ◌∙◌, length-append, arith}
use Rattle.std.proofs.lemmas.Bool.{leb-true}
use Rattle.std.specs.List.{range_with_len, flat_map}
use Rattle.std.specs.Option.{option_map}
use Rattle.std.specs.Prelude.{replicate}
use Rattle.csp_gen.specs.GenScene.{gen_scene}
use Rattle.csp_link.specs.declared.fault.Fault.{Fault}
use Rattle.csp_log.specs.Weights.{weight_of_all}
use Rattle.csp_scene.specs.Scene.{PlainScene, in_rounds}
use Rattle.csp_sizes.proofs.LightOpening.{opening_light}
use Rattle.csp_sizes.proofs.LightTurns.{IsLightAfter, turn_light}
use Rattle.csp_sizes.specs.Worlds.{IsLightWorld}
use Rattle.csp_topology.specs.Parties.{PlainOpening, parties_of}
use Rattle.csp_world.specs.Opening.{new_member, opening}
use Rattle.csp_world.specs.Record.{record_of, sim_record}
use Rattle.csp_world.specs.Schedule.{checked, turns, round_places, round, rounds, run, run_rounds, run_as}
use Rattle.csp_world.specs.World.{PlainMember, PlainWorld, tick, turn, finished, weight}
use Rattle.csp_world.specs.declared.limits.TheConstants.{TURNS_PER_ROUND, MAX_ENTRIES}

-- each turn weighs at most one
turns_light : (w : PlainWorld) (places : List ℕ) → IsLightWorld w → IsLightAfter (length places) w (turns w places)
unfolding turns
turns_light w [] h = record { members = refl; light = h; weighs = omega arith }
turns_light w (place ∷ places) h =
    let one = turn_light w place h in
    let rest = turns_light (turn w place) places one.light in
    record { members = rest.members ∙ one.members; light = rest.light; weighs = omega (arith, one.weighs, rest.weighs) }

places_count : (first count : ℕ) → length (flat_map (λ place. replicate TURNS_PER_ROUND place) (range_with_len first count)) ≡ 8 * count
places_count first zero = refl
places_count first (suc count) =
    let rest = places_count (first + 1) count in
    let whole = length-append (replicate TURNS_PER_ROUND first) (flat_map (λ place. replicate TURNS_PER_ROUND place) (range_with_len (first + 1) count)) in
    omega (arith, rest, whole)

-- a round of eleven parties weighs at most 88
round_light : (w : PlainWorld) → length w.members ≡ 11 → IsLightWorld w → IsLightAfter 88 w (tick (turns w (round_places (length w.members))))
round_light w count h =
    let all = turns_light w (round_places (length w.members)) h in
    let places = places_count 0 (length w.members) in
    record { members = all.members; light = record { decks = all.light.decks; members = all.light.members }; weighs = omega (arith, all.weighs, places, count) }

-- rounds that weigh so much, with the checks after each, end below the limit: what their order is does not matter
rounds_end : {O : Type 0} (rs : ℕ → O → PlainWorld → Option PlainWorld) (one : O → PlainWorld → PlainWorld) (o : O)
    → ((w : PlainWorld) → rs zero o w ≡ Some w)
    → ((most : ℕ) (w : PlainWorld) → rs (suc most) o w ≡ checked (one o w) (rs most o (one o w)))
    → ((w : PlainWorld) → length w.members ≡ 11 → IsLightWorld w → IsLightAfter 88 w (one o w))
    → (most : ℕ) (w : PlainWorld) → length w.members ≡ 11 → IsLightWorld w → weight w + 88 * most < MAX_ENTRIES → rs most o w ≡ None → ⊥
rounds_end rs one o start step each zero w count light few none = let never : Some w ≡ None = sym (start w) ∙ none in cc
rounds_end rs one o start step each (suc most) w count light few none =
    by_tests (rounds_end rs one o start step each most (one o w) (after.members ∙ count) after.light) (finished (one o w)) (leb MAX_ENTRIES (weight (one o w))) refl (sym (step most w) ∙ none)
  where
    after : IsLightAfter 88 w (one o w)
    after = each w count light

    more : weight (one o w) ≤ weight w + 88
    more = after.weighs

    by_tests : (weight (one o w) + 88 * most < MAX_ENTRIES → rs most o (one o w) ≡ None → ⊥) → (t u : Bool) → leb MAX_ENTRIES (weight (one o w)) ≡ u
        → cond t (Some (one o w)) (cond u None (rs most o (one o w))) ≡ None → ⊥
    by_tests later true u full gone = cc
    by_tests later false true full gone = let is = leb-true MAX_ENTRIES (weight (one o w)) full in let add = more in omega arith
    by_tests later false false full gone = later (let add = more in omega arith) gone

-- the same, told first which rounds they are
rounds_past : {O : Type 0} (rs : ℕ → O → PlainWorld → Option PlainWorld) (one : O → PlainWorld → PlainWorld) (o : O) (most : ℕ) (w : PlainWorld) → rs most o w ≡ None
    → ((w : PlainWorld) → rs zero o w ≡ Some w)
    → ((most : ℕ) (w : PlainWorld) → rs (suc most) o w ≡ checked (one o w) (rs most o (one o w)))
    → ((w : PlainWorld) → length w.members ≡ 11 → IsLightWorld w → IsLightAfter 88 w (one o w))
    → length w.members ≡ 11 → IsLightWorld w → weight w + 88 * most < MAX_ENTRIES → ⊥
rounds_past rs one o most w none start step each count light few = rounds_end rs one o start step each most w count light few none

gone_on : (t : Bool) (w : PlainWorld) (later : Option PlainWorld) → cond t (Some w) later ≡ None → later ≡ None
gone_on true w later e = cc
gone_on false w later e = e

run_end : (most : ℕ) (w : PlainWorld) → length w.members ≡ 11 → IsLightWorld w → weight w + 88 * most < MAX_ENTRIES → run_as in_rounds most w ≡ None → ⊥
unfolding run_rounds rounds round
run_end most w count light few none = rounds_past rounds round _ most w (gone_on (finished w) w _ none) (λ v. refl) (λ n v. refl) round_light count light few

-- ---- a generated scene

eleven : (packets : ℕ) (plan : List Fault) → length (opening (gen_scene packets plan)).members ≡ 11
unfolding opening parties_of
eleven packets plan = refl

none_logged : (os : List PlainOpening) → sum_by (λ (p : PlainMember). weight_of_all p.entries) (map new_member os) ≡ 0
none_logged [] = refl
none_logged (o ∷ os) = none_logged os

opening_empty : (scene : PlainScene) → weight (opening scene) ≡ 0
unfolding opening
opening_empty scene = none_logged (parties_of scene)

mapped : {A B : Type 0} (f : A → B) (o : Option A) → option_map f o ≡ None → o ≡ None
mapped f None e = refl
mapped f (Some x) e = cc

pub never_past : (packets : ℕ) (plan : List Fault) → sim_record (gen_scene packets plan) ≡ None → ⊥
unfolding sim_record run
never_past packets plan none =
    let w = opening (gen_scene packets plan) in
    let empty = opening_empty (gen_scene packets plan) in
    run_end 40000 w (eleven packets plan) (opening_light packets plan) (omega (arith, empty)) (mapped record_of (run (gen_scene packets plan)) none)
