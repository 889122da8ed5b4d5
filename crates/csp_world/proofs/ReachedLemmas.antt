-- What is true of each world that turns and ticks make of a scene's opening.
use Rattle.std.proofs.Common.{◌≡◌, ℕ, ◌+◌, Some, List, [], ◌∷◌, length, map, refl, sym, subst}
use Rattle.std.specs.Prelude.{slice_get, slice_index_or}
use Rattle.std.proofs.Math.Path.{transport}
use Rattle.std.specs.List.{AllByRecursion, range_with_len}
use Rattle.csp_consistent.proofs.Public.{are_apart, scene_own, are_owners}
use Rattle.csp_consistent.specs.Inboxes.{AreInboxesInOrder, IsInboxInOrder}
use Rattle.csp_consistent.specs.Lanes.{AreInOrder, IsInOrder}
use Rattle.csp_topology.specs.Lanes.{PlainLane, leader_of}
use Rattle.csp_topology.specs.Wires.{lanes_of}
use Rattle.csp_topology.specs.Parties.{parties_of}
use Rattle.csp_consistent.specs.Pools.{AreNumbersKept, IsPoolWhole}
use Rattle.csp_consistent.specs.Promises.{IsPoolKept}
use Rattle.csp_consistent.specs.Runs.{AreLogsOf}
use Rattle.csp_log.specs.Kinds.{carried_on}
use Rattle.csp_lists.specs.PlainDeck.{PlainDeck}
use Rattle.csp_log.specs.declared.places.End.{End}
use Rattle.csp_nodes.specs.Fresh.{fresh_buffers}
use Rattle.csp_scene.proofs.Public.{AllByRecursion-map}
use Rattle.csp_scene.specs.Kept.{AreLinksAfter}
use Rattle.csp_scene.specs.Links.{links_at}
use Rattle.csp_scene.specs.Ranges.{IsScene}
use Rattle.csp_scene.specs.Scene.{PlainLink, PlainNode, PlainScene}
use Rattle.csp_party.specs.Any.{asks}
use Rattle.csp_world.proofs.AlwaysLemmas.{always}
use Rattle.csp_world.proofs.EndsApart.{ends_in}
use Rattle.csp_world.proofs.InboxLemmas.{HasKeptInbox, IsKnown, inbox_in_order, inbox_opened, inbox_turned}
use Rattle.csp_world.proofs.KeptLemmas.{HasKeptPool, gave_logs, kept_opened, kept_turned, took_logs}
use Rattle.csp_world.proofs.LaneLemmas.{HasKeptLane, IsLaneOf, lane_in_order, lane_opened, lane_turned}
use Rattle.csp_world.proofs.LinkLanes.{all_lanes_of}
use Rattle.csp_world.proofs.LocalLemmas.{Keeps, all_kept}
use Rattle.csp_world.proofs.LoggedLemmas.{AreLogged, logged_logs, logged_tick, logged_turned}
use Rattle.csp_world.proofs.MovedLemmas.{KeepsShape, right-kept}
use Rattle.csp_world.proofs.OpenedLemmas.{members_opened, opening_logged}
use Rattle.csp_nodes.proofs.Public.{fresh_numbers}
use Rattle.csp_world.proofs.OpeningRules.{Stands}
use Rattle.csp_world.proofs.OpeningScene.{deck_there}
use Rattle.csp_world.proofs.QueuedLemmas.{AreQueued, KeepsQueues, queued-kept, queued-opening}
use Rattle.csp_world.proofs.WholeLemmas.{held_each, in_pool, in_pool_at, left_each, many_pools, rows_after}
use Rattle.csp_topology.specs.Plan.{plans_from}
use Rattle.csp_world.specs.Opening.{deck_of, opened_deck, opening}
use Rattle.csp_world.specs.Reached.{Happening, IsReached, world_after}
use Rattle.csp_world.specs.Record.{record_of}
use Rattle.csp_world.specs.World.{PlainWorld}

-- each party has taken the turns of its log
pub all_logged : (scene : PlainScene) (hs : List Happening) → AreLogged (world_after scene hs).time (parties_of scene) (world_after scene hs).members
all_logged scene =
    always scene (λ w. AreLogged w.time (parties_of scene) w.members) (opening_logged scene)
    (λ hs h k m at e. logged_turned (world_after scene hs) (parties_of scene) k m at e h) (λ w h. logged_tick w.time (parties_of scene) w.members h)

pub reached_logs : (scene : PlainScene) (w : PlainWorld) → IsReached scene w → AreLogsOf (parties_of scene) (record_of w).parties
reached_logs scene w r = rw r.there (logged_logs _ (parties_of scene) _ (all_logged scene r.happenings))

-- what the answers keep of the lists of each node
pub all_after : (P : PlainDeck → Type 0) → Keeps P → (scene : PlainScene) → AllByRecursion P (opening scene).decks → (hs : List Happening) → AllByRecursion P (world_after scene hs).decks
all_after P keeps scene all =
    always scene (λ w. AllByRecursion P w.decks) all
    (λ hs h k m at e. let w = world_after scene hs in all_kept P keeps w.decks w.links m.who (asks m.party w.time) h) (λ w h. h)

-- each queue stands where a queue does
decks_queued : (place : ℕ) (nodes : List PlainNode) (links : List PlainLink) → AllByRecursion AreQueued (map deck_of (plans_from place nodes links))
decks_queued place [] links = tt
decks_queued place (n ∷ nodes) links = (queued-opening (fresh_buffers n.buffers) n.inbox (length n.apps) (map (λ l. carried_on l.kind) (links_at place links)), decks_queued (place + 1) nodes links)

opening_queued : (scene : PlainScene) → AllByRecursion AreQueued (opening scene).decks
unfolding opening
opening_queued scene = decks_queued 0 scene.nodes scene.links

opening_there : (scene : PlainScene) (node : ℕ) (n : PlainNode) → slice_get scene.nodes node ≡ Some n → slice_get (opening scene).decks node ≡ Some (opened_deck n (links_at node scene.links))
unfolding opening
opening_there scene node n at = deck_there scene.nodes scene.links node n at

-- each pool is kept
opening_kept : (scene : PlainScene) (node : ℕ) (n : PlainNode) → slice_get scene.nodes node ≡ Some n → HasKeptPool node n.buffers (opening scene).decks (opening scene).members
opening_kept scene node n at = rw (members_opened scene) (kept_opened node n.buffers _ (opened_deck n (links_at node scene.links)) (parties_of scene) (opening_there scene node n at) (fresh_numbers n.buffers))

all_pooled : (scene : PlainScene) (node : ℕ) (n : PlainNode) → slice_get scene.nodes node ≡ Some n → (hs : List Happening) → HasKeptPool node n.buffers (world_after scene hs).decks (world_after scene hs).members
all_pooled scene node n at =
    always scene (λ w. HasKeptPool node n.buffers w.decks w.members) (opening_kept scene node n at) (λ hs h k m found e. kept_turned node n.buffers (world_after scene hs) k m found h) (λ w h. h)

-- so each pool is whole, with what is in it
pool_whole : (w : PlainWorld) (node count : ℕ) → HasKeptPool node count w.decks w.members → IsPoolWhole (record_of w) node count (slice_index_or (map in_pool w.decks) node [])
pool_whole w node count h =
    transport (λ i. IsPoolKept (range_with_len 0 count) (sym (gave_logs node w.members) i) (sym (took_logs node w.members) i) (sym (in_pool_at w.decks node h.deck h.there) i)) h.kept

-- so the numbers are kept
pub reached_numbers : KeepsQueues → (scene : PlainScene) (w : PlainWorld) → IsReached scene w → AreNumbersKept scene (record_of w)
reached_numbers law scene w r =
    let v = world_after scene r.happenings in
    let same = rows_after law scene r.happenings in
    let kept : AreNumbersKept scene (record_of v) = record {
      in_pools = map in_pool v.decks;
      nodes = many_pools scene v same;
      pools = λ node n at. pool_whole v node n.buffers (all_pooled scene node n at r.happenings);
      left = left_each scene v same;
      held = held_each scene v (all_after AreQueued (queued-kept law) scene (opening_queued scene) r.happenings) (all_logged scene r.happenings);
    } in
    subst (λ (x : PlainWorld). AreNumbersKept scene (record_of x)) (sym r.there) kept

-- and so is each inbox
scene_known : Stands → KeepsQueues → KeepsShape → (scene : PlainScene) → IsScene scene → IsKnown scene (parties_of scene)
scene_known stands queues shape scene is = record {
  stands = stands;
  queues = queues;
  shape = shape;
  keeps = right-kept queues shape;
  apart = are_apart scene;
  own = scene_own scene;
  owned = are_owners scene;
  few = is.few_links;
}

opening_inbox : (scene : PlainScene) (node : ℕ) (n : PlainNode) → slice_get scene.nodes node ≡ Some n → HasKeptInbox node n (opening scene).decks (opening scene).members
opening_inbox scene node n at =
    rw (members_opened scene)
    (inbox_opened node n (fresh_buffers n.buffers) n.inbox (length n.apps) (map (λ l. carried_on l.kind) (links_at node scene.links)) (opening scene).decks (parties_of scene) (opening_there scene node n at))

all_inboxes : (scene : PlainScene) → IsKnown scene (parties_of scene) → (node : ℕ) (n : PlainNode) → slice_get scene.nodes node ≡ Some n → (hs : List Happening) → HasKeptInbox node n (world_after scene hs).decks (world_after scene hs).members
all_inboxes scene known node n at =
    always scene (λ w. HasKeptInbox node n w.decks w.members) (opening_inbox scene node n at)
    (λ hs h k m found e. inbox_turned scene (parties_of scene) known node n at (world_after scene hs) (all_logged scene hs) k m found h) (λ w h. h)

pub reached_inboxes : Stands → KeepsQueues → KeepsShape → (scene : PlainScene) (w : PlainWorld) → IsScene scene → IsReached scene w → AreInboxesInOrder scene (record_of w)
reached_inboxes stands queues shape scene w is r = λ node n at.
    subst (λ (x : PlainWorld). IsInboxInOrder (record_of x) node (leader_of node n.addr)) (sym r.there)
    (inbox_in_order (world_after scene r.happenings) node n (all_inboxes scene (scene_known stands queues shape scene is) node n at r.happenings))

-- the links have their ends still
links_opening : (scene : PlainScene) → (opening scene).links ≡ ends_in scene.links
unfolding opening
links_opening scene = refl

links_after : (scene : PlainScene) (hs : List Happening) → (world_after scene hs).links ≡ ends_in scene.links
links_after scene = always scene (λ w. w.links ≡ ends_in scene.links) (links_opening scene) (λ hs same k m at e. same) (λ w same. same)

-- and so each lane is in order
opening_lane : (scene : PlainScene) → IsKnown scene (parties_of scene) → (l : PlainLane) → IsLaneOf scene (ends_in scene.links) l → HasKeptLane l (opening scene).decks (opening scene).members
opening_lane scene known l is =
    rw (members_opened scene) (lane_opened scene (parties_of scene) known (ends_in scene.links) l is (opening scene).decks (opening_there scene l.node is.node is.there))

all_lanes : (scene : PlainScene) → IsKnown scene (parties_of scene) → (l : PlainLane) → IsLaneOf scene (ends_in scene.links) l → (hs : List Happening) → HasKeptLane l (world_after scene hs).decks (world_after scene hs).members
all_lanes scene known l is =
    always scene (λ w. HasKeptLane l w.decks w.members) (opening_lane scene known l is)
    (λ hs h k m found e. lane_turned scene (parties_of scene) known l (world_after scene hs) (subst (λ (links : List (List End)). IsLaneOf scene links l) (sym (links_after scene hs)) is) (all_logged scene hs) k m found h)
    (λ w h. h)

pub reached_lanes : Stands → KeepsQueues → KeepsShape → (scene : PlainScene) (w : PlainWorld) → IsScene scene → AreLinksAfter (length scene.nodes) [] scene.links → IsReached scene w → AreInOrder scene (record_of w)
reached_lanes stands queues shape scene w is after r =
    let v = world_after scene r.happenings in
    let links = ends_in scene.links in
    let known = scene_known stands queues shape scene is in
    subst (λ (x : PlainWorld). AreInOrder scene (record_of x)) (sym r.there)
    (AllByRecursion-map (IsLaneOf scene links) (IsInOrder (record_of v)) (lanes_of scene) (λ l of. lane_in_order v scene links l of (all_lanes scene known l of r.happenings)) (all_lanes_of scene is after))
