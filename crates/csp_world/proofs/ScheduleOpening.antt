-- Lemmas on the numbers of an opening world: its entries, its time, its buffers.
use Rattle.std.proofs.Common.{◌≡◌, ℕ, ◌+◌, List, [], ◌∷◌, length, map, refl, ◌∙◌, ap, sum_by}
use Rattle.std.proofs.lemmas.List.{length-map}
use Rattle.std.proofs.lemmas.List.FromFn.{length-map-range_with_len}
use Rattle.csp_buffer.specs.Content.{cleared}
use Rattle.csp_lists.specs.PlainDeck.{PlainDeck}
use Rattle.csp_scene.specs.Scene.{PlainLink, PlainNode, PlainScene}
use Rattle.csp_topology.specs.Parties.{PlainOpening, parties_of}
use Rattle.csp_topology.specs.Plan.{plans_from}
use Rattle.csp_world.specs.Holders.{counts}
use Rattle.csp_world.specs.Opening.{deck_of, new_member, opening}
use Rattle.csp_world.specs.World.{PlainMember, entries}

-- nothing is logged at opening
none_logged : (os : List PlainOpening) → sum_by (λ (p : PlainMember). length p.entries) (map new_member os) ≡ 0
none_logged [] = refl
none_logged (o ∷ os) = none_logged os

pub opening_empty : (scene : PlainScene) → entries (opening scene) ≡ 0
unfolding opening
opening_empty scene = none_logged (parties_of scene)

pub opening_time : (scene : PlainScene) → (opening scene).time ≡ 0
unfolding opening
opening_time scene = refl

-- a node has the buffers that its line states
opened_count : (place : ℕ) (nodes : List PlainNode) (links : List PlainLink) → map (λ (d : PlainDeck). d.pool.room) (map deck_of (plans_from place nodes links)) ≡ map (λ n. n.buffers) nodes
opened_count place [] links = refl
opened_count place (n ∷ nodes) links =
    ap (λ k. k ∷ map (λ (d : PlainDeck). d.pool.room) (map deck_of (plans_from (place + 1) nodes links))) (length-map-range_with_len cleared 0 n.buffers)
    ∙ ap (λ ks. n.buffers ∷ ks) (opened_count (place + 1) nodes links)

pub opening_counts : (scene : PlainScene) → counts (opening scene) ≡ map (λ n. n.buffers) scene.nodes
unfolding opening
opening_counts scene = opened_count 0 scene.nodes scene.links

-- there are as many parties as the scene has
pub opening_parties : (scene : PlainScene) → length (opening scene).members ≡ length (parties_of scene)
unfolding opening
opening_parties scene = length-map (parties_of scene) new_member
