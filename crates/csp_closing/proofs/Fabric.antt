-- A network of a scene can end.
use Rattle.std.proofs.Common.{◌≡◌, ◌+◌, ℕ, zero, suc, Option, None, Some, List, [], ◌∷◌, length, map, refl, sym, ap, ◌∙◌, subst, arith}
use Rattle.std.specs.Prelude.{IsSomeAnd, slice_get}
use Rattle.std.specs.List.{AllByRecursion}
use Rattle.std.specs.Option.{option_and_then}
use Rattle.std.proofs.lemmas.Option.{same_Some}
use Rattle.csp_arena.specs.Cells.{RegionName}
use Rattle.csp_closing.proofs.Leading.{HasMet, has_met, home_region}
use Rattle.csp_closing.proofs.Lists.{all_from, made_at, made_from}
use Rattle.csp_closing.proofs.Members.{homes_of}
use Rattle.csp_closing.proofs.Nodes.{AreAllWired, CanMeet, all_count, all_end}
use Rattle.csp_closing.proofs.Remains.{nodes_left, sides_of}
use Rattle.csp_closing.proofs.Noted.{back_long, lanes_long}
use Rattle.csp_closing.proofs.Sides.{AreDistinct, AreNamed, AreWired, EachSide, IsOfNetwork, IsWired, same_later}
use Rattle.csp_closing.specs.Hands.{homes_at}
use Rattle.csp_closing.specs.Nodes.{AreLeftIn, CanAllEnd, HaveBack, queue_count}
use Rattle.csp_consistent.specs.Pools.{place_named}
use Rattle.csp_ends.specs.Ends.{PlainNodeQueues, PlainSide, IsSideOf}
use Rattle.csp_log.specs.declared.places.Carries.{Carries}
use Rattle.csp_log.specs.declared.places.Place.TheVariants as place
use Rattle.csp_log.specs.declared.places.QueueId.{QueueId}
use Rattle.csp_log.specs.declared.places.QueueId.TheVariants as queue
use Rattle.csp_posts.specs.Posts.{PlainPost}
use Rattle.csp_log.specs.declared.who.Who.{Who}
use Rattle.csp_scene.specs.Scene.{PlainNode, PlainScene}
use Rattle.csp_standing.proofs.Public.{Apart, Hubs, Led, HasPost, post_at, post_of, JoinsAll}
use Rattle.csp_standing.specs.Fabrics.{AreRoomsOf, AreStoresOf, network_of, queues_in}
use Rattle.csp_standing.specs.Network.{AreNodesOf, IsNetworkOf, IsSideAmong, PlainNetwork, sides_from}
use Rattle.csp_standing.specs.declared.fabric.Fabric.{Fabric}
use Rattle.csp_standing.specs.declared.fabric.NodeStore.{NodeStore}
use Rattle.csp_telling.specs.Remains.{AreLeftAt, AreRemains, PlainRemains}
use Rattle.csp_topology.specs.Lanes.{PlainLane}
use Rattle.csp_topology.specs.Parties.{PlainOpening, parties_of}
use Rattle.csp_topology.specs.Wired.{IsNamedFor, StaysHome}
use Rattle.csp_topology.specs.Wires.{wire_at, wires_of}
use Rattle.csp_topology.specs.Wiring.{AreWires, IsWireOf, wired_at}
use Rattle.csp_topology.specs.declared.wire.Wire.{Wire}

-- what csp_topology says of the nodes and the lanes of a scene
abbrev pub StaysAll : PlainScene → Type 0
StaysAll scene = (node k : ℕ) (l : PlainLane) → wire_at scene node k ≡ Some l → StaysHome scene node l

-- the names of all parties
abbrev pub whos_of : PlainScene → List Who
whos_of scene = map (λ (o : PlainOpening). o.who) (parties_of scene)

pub distinct : Apart → (scene : PlainScene) → AreDistinct (whos_of scene)
distinct apart scene = λ i j w e f.
    let (o, at_i, is_o) = made_from (λ (o : PlainOpening). o.who) (parties_of scene) i w e in
    let (p, at_j, is_p) = made_from (λ (o : PlainOpening). o.who) (parties_of scene) j w f in
    apart scene i j o p at_i at_j (is_o ∙ sym is_p)

-- a lane's place
lane_place : (q : QueueId) (c : Carries) → IsNamedFor q c → place_named q 0 ≡ place.Lane q
lane_place queue.Inbox c h = absurd h
lane_place (queue.Up k) c h = refl
lane_place (queue.Down k) c h = refl
lane_place (queue.Out k) c h = refl
lane_place (queue.Tx k) c h = refl
lane_place (queue.Rx k) c h = refl

wired_one : (scene : PlainScene) → JoinsAll scene → StaysAll scene → (node k : ℕ) (l : PlainLane) → wire_at scene node k ≡ Some l → (w : Wire) → IsWireOf scene l w → IsWired (whos_of scene) l w
wired_one scene joins stays node k l at w is = record {
  from = is.from.party;
  to = is.to.party;
  apart = (joins node k l at).apart;
  queue = is.named;
  named = subst (λ (q : QueueId). place_named q 0 ≡ place.Lane q) (sym is.named) (lane_place l.queue l.carries (stays node k l at).named);
}

-- each lane has a wire, and no wire is another's
zip_one : (whos : List Who) (ls : List PlainLane) (ws : List Wire) → ((k : ℕ) (l : PlainLane) → slice_get ls k ≡ Some l → IsSomeAnd (slice_get ws k) (IsWired whos l))
    → ((k : ℕ) (w : Wire) → slice_get ws k ≡ Some w → IsSomeAnd (slice_get ls k) (λ l. Unit {0})) → AreWired whos ls ws
zip_one whos [] [] each only = tt
zip_one whos (l ∷ ls) (w ∷ ws) each only = (each 0 l refl, zip_one whos ls ws (λ k. each (suc k)) (λ k. only (suc k)))
zip_one whos [] (w ∷ ws) each only = absurd (only 0 w refl)
zip_one whos (l ∷ ls) [] each only = absurd (each 0 l refl)

zip_all : (whos : List Who) (lanes : List (List PlainLane)) (wires : List (List Wire)) → length wires ≡ length lanes
    → ((node k : ℕ) (l : PlainLane) → option_and_then (λ (ls : List PlainLane). slice_get ls k) (slice_get lanes node) ≡ Some l → IsSomeAnd (wired_at wires node k) (IsWired whos l))
    → ((node k : ℕ) (w : Wire) → wired_at wires node k ≡ Some w → IsSomeAnd (option_and_then (λ (ls : List PlainLane). slice_get ls k) (slice_get lanes node)) (λ l. Unit {0})) → AreAllWired whos lanes wires
zip_all whos [] [] long each only = tt
zip_all whos (ls ∷ lanes) (ws ∷ wires) long each only = (zip_one whos ls ws (each 0) (only 0), zip_all whos lanes wires (omega (arith, long)) (λ node. each (suc node)) (λ node. only (suc node)))
zip_all whos [] (ws ∷ wires) long each only = absurd (omega (arith, long))
zip_all whos (ls ∷ lanes) [] long each only = absurd (omega (arith, long))

some_then : {X : Type 0} (P Q : X → Type 0) (o : Option X) → ((x : X) → P x → Q x) → IsSomeAnd o P → IsSomeAnd o Q
some_then P Q None f h = h
some_then P Q (Some x) f h = f x h

-- as many queues and lanes as nodes
pub nodes_long : (ms : List PlainNode) (lanes : List (List PlainLane)) (queues : List PlainNodeQueues) → AreNodesOf ms lanes queues → (length lanes ≡ length ms) × (length queues ≡ length ms)
nodes_long [] [] [] h = (refl, refl)
nodes_long (m ∷ ms) (ls ∷ lanes) (q ∷ queues) h =
    let later = nodes_long ms lanes queues h.1 in
    (ap suc later.0, ap suc later.1)
nodes_long [] (ls ∷ lanes) queues h = absurd h
nodes_long [] [] (q ∷ queues) h = absurd h
nodes_long (m ∷ ms) [] queues h = absurd h
nodes_long (m ∷ ms) (ls ∷ lanes) [] h = absurd h

pub stores_long : (ms : List PlainNode) (lanes : List (List PlainLane)) (stores : List NodeStore) → AreStoresOf ms lanes stores → length stores ≡ length ms
stores_long [] [] [] h = refl
stores_long (m ∷ ms) (ls ∷ lanes) (s ∷ stores) h = ap suc (stores_long ms lanes stores h.1)
stores_long [] (ls ∷ lanes) stores h = absurd h
stores_long [] [] (s ∷ stores) h = absurd h
stores_long (m ∷ ms) [] stores h = absurd h
stores_long (m ∷ ms) (ls ∷ lanes) [] h = absurd h

-- the node of queues that are there
pub node_there : (ms : List PlainNode) (lanes : List (List PlainLane)) (queues : List PlainNodeQueues) (k : ℕ) (q : PlainNodeQueues) → AreNodesOf ms lanes queues → slice_get queues k ≡ Some q → (m : PlainNode) × (slice_get ms k ≡ Some m)
node_there [] [] [] k q h e = absurd cc
node_there (m ∷ ms) (ls ∷ lanes) (x ∷ queues) zero q h e = (m, refl)
node_there (m ∷ ms) (ls ∷ lanes) (x ∷ queues) (suc k) q h e = node_there ms lanes queues k q h.1 e
node_there [] (ls ∷ lanes) queues k q h e = absurd h
node_there [] [] (x ∷ queues) k q h e = absurd h
node_there (m ∷ ms) [] queues k q h e = absurd h
node_there (m ∷ ms) (ls ∷ lanes) [] k q h e = absurd h

pub wired_all : (scene : PlainScene) → JoinsAll scene → StaysAll scene → (wires : List (List Wire)) → AreWires scene wires → length (wires_of scene) ≡ length scene.nodes → AreAllWired (whos_of scene) (wires_of scene) wires
wired_all scene joins stays wires are long =
    zip_all (whos_of scene) (wires_of scene) wires (are.count ∙ sym long)
    (λ node k l at. some_then (IsWireOf scene l) (IsWired (whos_of scene) l) (wired_at wires node k) (wired_one scene joins stays node k l at) (are.each node k l at))
    (λ node k w at. some_then (λ l. IsWireOf scene l w) (λ l. Unit {0}) (wire_at scene node k) (λ l h. tt) (are.only node k w at))

-- the ends of the posts are called as the scene has it
named_all : (scene : PlainScene) (n : PlainNetwork) (posts : List PlainPost) → IsNetworkOf scene n posts → AreNamed (whos_of scene) (sides_of posts) (λ v. sides_from v 0 (wires_of scene))
named_all scene n posts net = λ at w e.
    let (o, there, is) = made_from (λ (o : PlainOpening). o.who) (parties_of scene) at w e in
    let r = network_post o at there in
    record {
      own = r.post.ends.sides;
      there = made_at (λ (s : PlainPost). s.ends.sides) posts at r.post r.there;
      named = r.its.sides ∙ ap (λ (v : Who). sides_from v 0 (wires_of scene)) is;
    }
  where
    network_post : (o : PlainOpening) (at : ℕ) → slice_get (parties_of scene) at ≡ Some o → HasPost scene n posts at o
    network_post o at there = post_of scene n (parties_of scene) posts at o net.parties there

both_sides : (nodes : List PlainNodeQueues) (regions : List RegionName) (ss : List PlainSide) → AllByRecursion (IsSideOf nodes) ss → AllByRecursion (IsSideAmong regions) ss → AllByRecursion (IsOfNetwork nodes regions) ss
both_sides nodes regions [] f g = tt
both_sides nodes regions (s ∷ ss) f g = ((f.0, g.0), both_sides nodes regions ss f.1 g.1)

each_side : (scene : PlainScene) (n : PlainNetwork) (posts : List PlainPost) → IsNetworkOf scene n posts → EachSide (IsOfNetwork n.nodes n.regions) (sides_of posts)
each_side scene n posts net = all_from (AllByRecursion (IsOfNetwork n.nodes n.regions)) (sides_of posts) (λ k ss e.
    let (s, there, is) = made_from (λ (s : PlainPost). s.ends.sides) posts k ss e in
    let x = post_at scene n (parties_of scene) posts k s net.parties there in
    subst (AllByRecursion (IsOfNetwork n.nodes n.regions)) is (both_sides n.nodes n.regions s.ends.sides x.post.from.of_it.sides x.post.regions))

-- the hub of each node has met the others
pub met_at : Led → Hubs → Apart → (scene : PlainScene) (n : PlainNetwork) (posts : List PlainPost) → IsNetworkOf scene n posts → (j : ℕ) (q : PlainNodeQueues) → slice_get n.nodes j ≡ Some q → HasMet scene posts q j
met_at led hubs apart scene n posts net j q at =
    let m = node_there scene.nodes (wires_of scene) n.nodes j q net.nodes at in
    has_met led hubs apart scene n posts net j m.0 q m.1 at

meet_at : Led → Hubs → Apart → (scene : PlainScene) (n : PlainNetwork) (posts : List PlainPost) → IsNetworkOf scene n posts → (j : ℕ) (q : PlainNodeQueues) (region : RegionName) → slice_get n.nodes j ≡ Some q → slice_get n.regions j ≡ Some region
    → CanMeet q region (homes_at j (homes_of posts))
meet_at led hubs apart scene n posts net j q region at where_ =
    let met = met_at led hubs apart scene n posts net j q at in
    let x = post_at scene n (parties_of scene) posts met.at met.post net.parties met.there in
    let own : slice_get n.regions j ≡ Some met.home.pool.hand.region = ap (slice_get n.regions) (sym met.here) ∙ home_region scene n x.party met.post met.home x.post met.its in
    subst (λ (r : RegionName). CanMeet q r (homes_at j (homes_of posts))) (same_Some met.home.pool.hand.region region (sym own ∙ where_)) met.can

-- the queues of a fabric can end, one node after the other
pub can_all_end : Led → Hubs → Apart → (scene : PlainScene) → JoinsAll scene → StaysAll scene → (f : Fabric) (posts : List PlainPost) → IsNetworkOf scene (network_of f) posts → AreWires scene (map (λ ws. ws.items) f.wires.items)
    → AreStoresOf scene.nodes (wires_of scene) f.stores.items → AreRoomsOf scene.nodes (wires_of scene) f.rooms.items
    → CanAllEnd 0 f.queues f.rooms.items (map (λ ws. ws.items) f.wires.items) f.stores.items (homes_of posts) (sides_of posts)
can_all_end led hubs apart scene joins stays f posts net are stores rooms =
    let n = network_of f in
    let wires = map (λ ws. ws.items) f.wires.items in
    let none : (j : ℕ) → j ≡ 0 + j = λ j. omega arith in
    let region_at : (j : ℕ) (s : NodeStore) → slice_get f.stores.items j ≡ Some s → slice_get n.regions j ≡ Some s.store.region = λ j s e. made_at (λ (s : NodeStore). s.store.region) f.stores.items j s e in
    all_end (whos_of scene) (distinct apart scene) n.nodes n.regions 0 scene.nodes (wires_of scene) n.nodes f.rooms.items wires f.stores.items (homes_of posts) (sides_of posts) net.nodes stores rooms
    (wired_all scene joins stays wires are (nodes_long scene.nodes (wires_of scene) n.nodes net.nodes).0)
    (λ j. ap (slice_get n.nodes) (none j))
    (λ j s e. subst (λ (k : ℕ). slice_get n.regions k ≡ Some s.store.region) (none j) (region_at j s e))
    (λ j q s at there. subst (λ (k : ℕ). CanMeet q s.store.region (homes_at k (homes_of posts))) (none j) (meet_at led hubs apart scene n posts net j q s.store.region at (region_at j s there)))
    (named_all scene n posts net) (each_side scene n posts net)

-- there is room for the notes on all queues
pub queues_noted : (scene : PlainScene) → JoinsAll scene → StaysAll scene → (f : Fabric) (posts : List PlainPost) → IsNetworkOf scene (network_of f) posts → AreWires scene (map (λ ws. ws.items) f.wires.items)
    → queue_count (map (λ ws. ws.items) f.wires.items) ≡ queues_in scene
queues_noted scene joins stays f posts net are =
    let n = network_of f in
    let wires = map (λ ws. ws.items) f.wires.items in
    all_count (whos_of scene) (wires_of scene) wires (wired_all scene joins stays wires are (nodes_long scene.nodes (wires_of scene) n.nodes net.nodes).0)

-- what was left in the queues of each node
pub all_remains : Led → Hubs → Apart → (scene : PlainScene) → JoinsAll scene → StaysAll scene → (f : Fabric) (posts : List PlainPost) → IsNetworkOf scene (network_of f) posts → AreWires scene (map (λ ws. ws.items) f.wires.items)
    → AreStoresOf scene.nodes (wires_of scene) f.stores.items → (all : List PlainRemains) (after : List NodeStore) → AreLeftIn 0 f.queues (map (λ ws. ws.items) f.wires.items) (homes_of posts) (sides_of posts) all → HaveBack f.stores.items all after
    → AreRemains scene posts all
all_remains led hubs apart scene joins stays f posts net are stores all after left back =
    let n = network_of f in
    let wires = map (λ ws. ws.items) f.wires.items in
    let none : (j : ℕ) → 0 + j ≡ j = λ j. omega arith in
    let wired = wired_all scene joins stays wires are (nodes_long scene.nodes (wires_of scene) n.nodes net.nodes).0 in
    record {
      nodes = (back_long f.stores.items all after back).0 ∙ stores_long scene.nodes (wires_of scene) f.stores.items stores;
      lanes = lanes_long (whos_of scene) 0 (wires_of scene) n.nodes wires (homes_of posts) (sides_of posts) all wired left;
      each = λ node m at.
          subst (λ (k : ℕ). AreLeftAt posts k m) (none node)
          (nodes_left scene posts 0 n.nodes wires (homes_of posts) (sides_of posts) all (λ j q there. subst (HasMet scene posts q) (sym (none j)) (met_at led hubs apart scene n posts net j q there)) (λ j. refl) (same_later (sides_of posts)) left node m at);
    }
