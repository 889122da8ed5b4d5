-- The record of a reached world speaks of each queue and each place of the scene once, and of no other.
use Rattle.std.proofs.Common.{◌≡◌, ℕ, zero, suc, ◌+◌, Option, None, Some, List, [], ◌∷◌, ◌++◌, length, map, set, refl, sym, ap, ◌∙◌}
use Rattle.std.specs.Prelude.{slice_get, slice_index_or}
use Rattle.std.specs.List.{AllByRecursion, flat_map}
use Rattle.std.specs.Option.{option_map, option_to_list}
use Rattle.std.proofs.lemmas.List.{length-map, map-append}
use Rattle.std.proofs.lemmas.Option.{same_Some}
use Rattle.csp_base.specs.declared.priority.Prio.TheVariants.{Critical, High, Normal, Low}
use Rattle.csp_topology.specs.Parties.{PlainOpening, parties_of}
use Rattle.csp_consistent.specs.Pools.{held_by, left_held, parties_held, party_held, place_named, pools_held}
use Rattle.csp_consistent.specs.Whole.{AreQueuesLeft, left_name, queue_name}
use Rattle.csp_topology.specs.Queues.{at_node, queues_from, queues_of}
use Rattle.csp_lists.specs.Gathered.{held_at, left_at, prio_named, queue_named}
use Rattle.csp_lists.specs.Order.{places_in}
use Rattle.csp_lists.specs.PlainDeck.{PlainDeck, PlainQueue, answer_of, buffer_numbers, emptied, numbers_of, opening_queue, shape_of}
use Rattle.csp_log.specs.Remains.{PlainHeld}
use Rattle.csp_log.specs.declared.places.Carries.{Carries}
use Rattle.csp_log.specs.declared.places.End.{End}
use Rattle.csp_log.specs.declared.places.Place.{Place}
use Rattle.csp_log.specs.declared.places.Place.TheVariants as place
use Rattle.csp_log.specs.declared.places.QueueId.{QueueId}
use Rattle.csp_log.specs.declared.places.QueueId.TheVariants as queue
use Rattle.csp_log.specs.declared.shown.OpShown.{OpShown}
use Rattle.csp_nodes.specs.Gathering as nodes
use Rattle.csp_nodes.specs.Gathering.{all_left, queues_held}
use Rattle.csp_nodes.specs.Serving.{answer_at, answer_in, answer_there, served}
use Rattle.csp_party.specs.Any.{PlainParty, asks, holds}
use Rattle.csp_log.specs.Who.{home_of}
use Rattle.csp_log.specs.declared.who.Who.{Who}
use Rattle.csp_scene.specs.Scene.{PlainLink, PlainNode, PlainScene}
use Rattle.csp_world.proofs.AlwaysLemmas.{always}
use Rattle.csp_world.proofs.LoggedLemmas.{AreLogged}
use Rattle.csp_world.proofs.QueuedLemmas.{AreQueued, IsQueued, KeepsQueues}
use Rattle.csp_topology.specs.Plan.{PlainNodePlan, plans_from}
use Rattle.csp_world.specs.Opening.{deck_of, opening}
use Rattle.csp_world.specs.Reached.{Happening, world_after}
use Rattle.csp_world.specs.Record.{member_held, member_log, record_of}
use Rattle.csp_world.specs.World.{PlainMember, PlainWorld}

-- where the queues of each node stand
abbrev pub row : PlainDeck → List Place
row d = map (λ q. q.place) (map emptied d.queues)

abbrev pub rows : List PlainDeck → List (List Place)
rows decks = map row decks

-- so they stand after each operation
rows_set : (decks : List PlainDeck) (k : ℕ) (x y : PlainDeck) → slice_get decks k ≡ Some x → row y ≡ row x → rows (set decks k y) ≡ rows decks
rows_set [] k x y at e = absurd cc
rows_set (d ∷ decks) zero x y at e = ap (λ ps. ps ∷ rows decks) (e ∙ ap row (sym (same_Some d x at)))
rows_set (d ∷ decks) (suc k) x y at e = ap (λ pss. row d ∷ pss) (rows_set decks k x y at e)

rows_at : KeepsQueues → (decks : List PlainDeck) (o : OpShown) (s : ℕ × OpShown) (found : Option PlainDeck) → slice_get decks s.0 ≡ found → rows (answer_at decks o s found).1 ≡ rows decks
rows_at law decks o s None f = refl
rows_at law decks o s (Some x) f = rows_set decks s.0 x (answer_of x s.1).1 f (ap (λ (qs : List PlainQueue). map (λ q. q.place) qs) (law x s.1))

rows_there : KeepsQueues → (decks : List PlainDeck) (o : OpShown) (there : Option (ℕ × OpShown)) → rows (answer_there decks o there).1 ≡ rows decks
rows_there law decks o None = refl
rows_there law decks o (Some s) = rows_at law decks o s (slice_get decks s.0) refl

rows_answered : KeepsQueues → (decks : List PlainDeck) (links : List (List End)) (w : Who) (o : OpShown) → rows (answer_in decks links w o).1 ≡ rows decks
rows_answered law decks links w o = rows_there law decks o (served links w o)

pub rows_after : KeepsQueues → (scene : PlainScene) (hs : List Happening) → rows (world_after scene hs).decks ≡ rows (opening scene).decks
rows_after law scene =
    always scene (λ w. rows w.decks ≡ rows (opening scene).decks) refl
    (λ hs same k m at e. let w = world_after scene hs in rows_answered law w.decks w.links m.who (asks m.party w.time) ∙ same) (λ w same. same)

-- the places of rows, from this node on
abbrev places_from : ℕ → List (List Place) → List (ℕ × Place)
places_from node [] = []
places_from node (ps ∷ pss) = at_node node ps ++ places_from (node + 1) pss

-- at the opening they are those of the scene
row_opened : (inbox : ℕ) (links : List Carries) (ps : List Place) → map (λ q. q.place) (map emptied (map (opening_queue inbox links) ps)) ≡ ps
row_opened inbox links [] = refl
row_opened inbox links (p ∷ ps) = ap (λ (rest : List Place). p ∷ rest) (row_opened inbox links ps)

nodes_opened : (node : ℕ) (nodes : List PlainNodePlan) → places_from node (rows (map deck_of nodes)) ≡ queues_from node nodes
nodes_opened node [] = refl
nodes_opened node (n ∷ nodes) =
    ap (λ (ps : List Place). at_node node ps ++ places_from (node + 1) (rows (map deck_of nodes))) (row_opened n.inbox n.lanes (places_in (shape_of n.apps n.lanes)))
    ∙ ap (λ (more : List (ℕ × Place)). at_node node (places_in (shape_of n.apps n.lanes)) ++ more) (nodes_opened (node + 1) nodes)

scene_opened : (scene : PlainScene) → places_from 0 (rows (opening scene).decks) ≡ queues_of scene
unfolding opening
scene_opened scene = nodes_opened 0 (plans_from 0 scene.nodes scene.links)

count_opened : (node : ℕ) (nodes : List PlainNode) (links : List PlainLink) → length (map deck_of (plans_from node nodes links)) ≡ length nodes
count_opened node [] links = refl
count_opened node (n ∷ nodes) links = ap suc (count_opened (node + 1) nodes links)

scene_count : (scene : PlainScene) → length (opening scene).decks ≡ length scene.nodes
unfolding opening
scene_count scene = count_opened 0 scene.nodes scene.links

-- what is noted of the queues is of their places
left_row : (node : ℕ) (qs : List PlainQueue) → map left_name (map (left_at node) qs) ≡ map queue_name (at_node node (map (λ q. q.place) (map emptied qs)))
left_row node [] = refl
left_row node (q ∷ qs) = ap (λ (rest : List (ℕ × QueueId × ℕ)). queue_name (node, q.place) ∷ rest) (left_row node qs)

left_named : (node : ℕ) (decks : List PlainDeck) → map left_name (all_left node decks) ≡ map queue_name (places_from node (rows decks))
left_named node [] = refl
left_named node (d ∷ decks) =
    map-append left_name (map (left_at node) d.queues) (all_left (node + 1) decks)
    ∙ rw (left_row node d.queues, left_named (node + 1) decks) (sym (map-append queue_name (at_node node (row d)) (places_from (node + 1) (rows decks))))

-- a queue held what was left in it
named_so : (p : Place) → IsQueued p → place_named (queue_named p) (prio_named p) ≡ p
named_so (place.Inbox Critical) h = refl
named_so (place.Inbox High) h = refl
named_so (place.Inbox Normal) h = refl
named_so (place.Inbox Low) h = refl
named_so (place.Lane queue.Inbox) h = absurd h
named_so (place.Lane (queue.Up k)) h = refl
named_so (place.Lane (queue.Down k)) h = refl
named_so (place.Lane (queue.Out k)) h = refl
named_so (place.Lane (queue.Tx k)) h = refl
named_so (place.Lane (queue.Rx k)) h = refl
named_so place.Pool h = absurd h
named_so place.Router h = absurd h
named_so (place.Iface k) h = absurd h
named_so (place.App k) h = absurd h

held_row : (node : ℕ) (qs : List PlainQueue) → AllByRecursion (λ q. IsQueued q.place) (map emptied qs) → map (held_at node) qs ≡ map left_held (map (left_at node) qs)
held_row node [] h = refl
held_row node (q ∷ qs) h =
    ap (λ (p : Place). held node p (numbers_of q.items) ∷ map (held_at node) qs) (sym (named_so q.place h.0))
    ∙ ap (λ (rest : List PlainHeld). left_held (left_at node q) ∷ rest) (held_row node qs h.1)
  where
    held : ℕ → Place → List ℕ → PlainHeld
    held n p numbers = record { node = n; place = p; numbers = numbers }

held_left : (node : ℕ) (decks : List PlainDeck) → AllByRecursion AreQueued decks → queues_held node decks ≡ map left_held (all_left node decks)
held_left node [] h = refl
held_left node (d ∷ decks) h = rw (held_row node d.queues h.0, held_left (node + 1) decks h.1) (sym (map-append left_held (map (left_at node) d.queues) (all_left (node + 1) decks)))

-- a party held what is its in its state
homes_held : (time : ℕ) (os : List PlainOpening) (ms : List PlainMember) → AreLogged time os ms → flat_map member_held ms ≡ parties_held os (map member_log ms)
homes_held time [] [] h = refl
homes_held time [] (m ∷ ms) h = absurd h
homes_held time (o ∷ os) [] h = absurd h
homes_held time (o ∷ os) (m ∷ ms) h =
    ap (λ (p : PlainParty). option_to_list (option_map (held_by (holds p)) (home_of m.who)) ++ flat_map member_held ms) (sym h.0.reached)
    ∙ ap (λ (rest : List PlainHeld). party_held o (member_log m) ++ rest) (homes_held time os ms h.1)

-- and the pools what is in them
abbrev pub in_pool : PlainDeck → List ℕ
in_pool d = buffer_numbers d.pool.items

pools_same : (node : ℕ) (decks : List PlainDeck) → nodes.pools_held node (map (λ d. d.pool) decks) ≡ pools_held node (map in_pool decks)
pools_same node [] = refl
pools_same node (d ∷ decks) = ap (λ (rest : List PlainHeld). pool node (in_pool d) ∷ rest) (pools_same (node + 1) decks) where
  pool : ℕ → List ℕ → PlainHeld
  pool n numbers = record { node = n; place = place.Pool; numbers = numbers }

pub in_pool_at : (decks : List PlainDeck) (node : ℕ) (d : PlainDeck) → slice_get decks node ≡ Some d → slice_index_or (map in_pool decks) node [] ≡ in_pool d
in_pool_at [] node d at = absurd cc
in_pool_at (x ∷ decks) zero d at = ap in_pool (same_Some x d at)
in_pool_at (x ∷ decks) (suc node) d at = in_pool_at decks node d at

-- so the record says
pub left_each : (scene : PlainScene) (w : PlainWorld) → rows w.decks ≡ rows (opening scene).decks → AreQueuesLeft scene (record_of w)
left_each scene w same = left_named 0 w.decks ∙ ap (λ (pss : List (List Place)). map queue_name (places_from 0 pss)) same ∙ ap (map queue_name) (scene_opened scene)

pub many_pools : (scene : PlainScene) (w : PlainWorld) → rows w.decks ≡ rows (opening scene).decks → length (map in_pool w.decks) ≡ length scene.nodes
many_pools scene w same =
    length-map w.decks in_pool ∙ sym (length-map w.decks row) ∙ ap (λ (pss : List (List Place)). length pss) same ∙ length-map (opening scene).decks row ∙ scene_count scene

pub held_each : (scene : PlainScene) (w : PlainWorld) → AllByRecursion AreQueued w.decks → AreLogged w.time (parties_of scene) w.members
    → (record_of w).held ≡ map left_held (record_of w).left ++ (parties_held (parties_of scene) (record_of w).parties ++ pools_held 0 (map in_pool w.decks))
held_each scene w queued logged = rw (held_left 0 w.decks queued, homes_held w.time (parties_of scene) w.members logged, pools_same 0 w.decks) refl
