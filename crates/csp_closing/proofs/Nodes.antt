-- The queues of all nodes can end.
use Rattle.std.proofs.Common.{◌≡◌, ◌≢◌, ◌+◌, ◌*◌, ◌≤◌, ℕ, suc, Option, Some, List, [], ◌∷◌, length, map, refl, sym, ap, ◌∙◌, subst, arith, sum_by}
use Rattle.std.specs.Prelude.{slice_get, IsSomeAnd}
use Rattle.std.proofs.lemmas.List.{length-map}
use Rattle.std.proofs.lemmas.List.Sums.{sum_by-cons}
use Rattle.csp_arena.specs.Cells.{RegionName}
use Rattle.csp_closing.proofs.Members.{stay_at}
use Rattle.csp_closing.proofs.Sides.{AreDistinct, AreNamed, AreWired, EachSide, HaveAllNext, IsOfNetwork, have_all_next}
use Rattle.csp_closing.specs.Hands.{CanGather, gathered, homes_at, without_home}
use Rattle.csp_closing.specs.Nodes.{CanAllEnd, CanClose, queue_count}
use Rattle.csp_closing.specs.Wires.{HaveRooms, rooms_in, without_all}
use Rattle.csp_ends.specs.Ends.{PlainHome, PlainNodeQueues, PlainSide}
use Rattle.csp_lane.specs.Ends as lane
use Rattle.csp_lists.specs.PlainDeck.{lane_room}
use Rattle.csp_log.specs.declared.who.Who.{Who}
use Rattle.csp_scene.specs.Scene.{PlainNode}
use Rattle.csp_standing.specs.Fabrics.{AreRoomsOf, AreStoresOf, IsStoreOf}
use Rattle.csp_standing.specs.Network.{AreNodesOf, AreQueuesOf, sides_from}
use Rattle.csp_standing.specs.declared.fabric.NodeRooms.{NodeRooms}
use Rattle.csp_standing.specs.declared.fabric.NodeStore.{NodeStore}
use Rattle.csp_topology.specs.Lanes.{PlainLane}
use Rattle.csp_topology.specs.declared.wire.Wire.{Wire}

-- what the parties of a node have in hand comes together
pub record CanMeet (q : PlainNodeQueues) (region : RegionName) (hs : List PlainHome) : Type 0 where
  pub gather : CanGather q hs
  pub close : IsSomeAnd (gathered hs) (CanClose region)

-- the wires of each node
abbrev pub AreAllWired : List Who → List (List PlainLane) → List (List Wire) → Type 0
AreAllWired whos [] [] = Unit {0}
AreAllWired whos (ls ∷ lanes) (ws ∷ wires) = AreWired whos ls ws × AreAllWired whos lanes wires
AreAllWired _ _ _ = ⊥

have_rooms : (lanes : List lane.PlainLane) (rooms : List ℕ) → map (λ (l : lane.PlainLane). l.room) lanes ≡ rooms → HaveRooms lanes rooms
have_rooms [] [] e = tt
have_rooms (l ∷ lanes) (r ∷ rooms) e =
    let first : l.room ≡ r = cc in
    let later : map (λ (l : lane.PlainLane). l.room) lanes ≡ rooms = cc in
    (omega (arith, first), have_rooms lanes rooms later)
have_rooms [] (r ∷ rooms) e = absurd cc
have_rooms (l ∷ lanes) [] e = absurd cc

rooms_sum : (lanes : List lane.PlainLane) (ls : List PlainLane) → map (λ (l : lane.PlainLane). l.room) lanes ≡ map (λ (l : PlainLane). lane_room l.queue) ls → rooms_in lanes ≡ sum_by (λ (l : PlainLane). lane_room l.queue) ls
rooms_sum [] [] e = refl
rooms_sum (x ∷ lanes) (l ∷ ls) e =
    let first : x.room ≡ lane_room l.queue = cc in
    let later : map (λ (l : lane.PlainLane). l.room) lanes ≡ map (λ (l : PlainLane). lane_room l.queue) ls = cc in
    ap (λ n. n + rooms_in lanes) first ∙ ap (λ n. lane_room l.queue + n) (rooms_sum lanes ls later) ∙ sym (sum_by-cons (λ (l : PlainLane). lane_room l.queue) l ls)
rooms_sum [] (l ∷ ls) e = absurd cc
rooms_sum (x ∷ lanes) [] e = absurd cc

lanes_count : (lanes : List lane.PlainLane) (ls : List PlainLane) → map (λ (l : lane.PlainLane). l.room) lanes ≡ map (λ (l : PlainLane). lane_room l.queue) ls → length lanes ≡ length ls
lanes_count lanes ls e = sym (length-map lanes (λ (l : lane.PlainLane). l.room)) ∙ ap (λ (ns : List ℕ). length ns) e ∙ length-map ls (λ (l : PlainLane). lane_room l.queue)

-- there is room for all buffers of a node that may come back from its queues
store_room : (m : PlainNode) (ls : List PlainLane) (q : PlainNodeQueues) (s : NodeStore) → AreQueuesOf m ls q → IsStoreOf m ls s → length s.store.numbers + (q.pool.capacity + (rooms_in q.lanes + 4 * q.inbox.room)) ≤ s.store.room
store_room m ls q s of_it store =
    let none : length s.store.numbers ≡ 0 = ap (λ (ns : List ℕ). length ns) store.none in
    let pool = of_it.pool in
    let inbox = of_it.inbox in
    let lanes = rooms_sum q.lanes ls of_it.lanes in
    let room = store.room in
    omega (arith, none, pool, inbox, lanes, room)

pub all_end : (whos : List Who) → AreDistinct whos → (nodes : List PlainNodeQueues) (regions : List RegionName) (node : ℕ) (ms : List PlainNode) (lanes : List (List PlainLane)) (queues : List PlainNodeQueues) (rooms : List NodeRooms)
    (wires : List (List Wire)) (stores : List NodeStore) (homes : List (Option PlainHome)) (sides : List (List PlainSide))
    → AreNodesOf ms lanes queues → AreStoresOf ms lanes stores → AreRoomsOf ms lanes rooms → AreAllWired whos lanes wires
    → ((j : ℕ) → slice_get queues j ≡ slice_get nodes (node + j)) → ((j : ℕ) (s : NodeStore) → slice_get stores j ≡ Some s → slice_get regions (node + j) ≡ Some s.store.region)
    → ((j : ℕ) (q : PlainNodeQueues) (s : NodeStore) → slice_get queues j ≡ Some q → slice_get stores j ≡ Some s → CanMeet q s.store.region (homes_at (node + j) homes))
    → AreNamed whos sides (λ v. sides_from v node lanes) → EachSide (IsOfNetwork nodes regions) sides → CanAllEnd node queues rooms wires stores homes sides
all_end whos distinct nodes regions node [] [] [] [] [] [] homes sides are_nodes are_stores are_rooms wired places named meet names each = tt
all_end whos distinct nodes regions node (m ∷ ms) (ls ∷ lanes) (q ∷ queues) (r ∷ rooms) (ws ∷ wires) (s ∷ stores) homes sides are_nodes are_stores are_rooms wired places where_ meet names each =
    let of_it = are_nodes.0 in
    let zero_more : node + 0 ≡ node = omega arith in
    let here : slice_get nodes node ≡ Some q = ap (slice_get nodes) (sym zero_more) ∙ sym (places 0) in
    let region : slice_get regions node ≡ Some s.store.region = ap (slice_get regions) (sym zero_more) ∙ where_ 0 s refl in
    let next : HaveAllNext whos (IsOfNetwork nodes regions) sides ws q.lanes s.store.region node 0 (λ v. sides_from v (node + 1) lanes) = have_all_next whos distinct nodes regions q s.store.region node here region ls ws q.lanes 0 sides (λ v. sides_from v (node + 1) lanes) wired.0 (lanes_count q.lanes ls of_it.lanes)
    (λ j. ap (slice_get q.lanes) (omega arith)) names each in
    let first : CanMeet q s.store.region (homes_at node homes) = subst (λ (n : ℕ). CanMeet q s.store.region (homes_at n homes)) zero_more (meet 0 q s refl refl) in (
      record {
        gather = first.gather;
        close = first.close;
        lanes = next.next;
        rooms = have_rooms q.lanes r.lanes.items (of_it.lanes ∙ sym are_rooms.0.lanes);
        inbox = (let mine = of_it.inbox in let its = are_rooms.0.inbox in omega (arith, mine, its));
        store = store_room m ls q s of_it are_stores.0;
      },
      all_end whos distinct nodes regions (node + 1) ms lanes queues rooms wires stores (map (without_home node) homes) (without_all ws sides) are_nodes.1 are_stores.1 are_rooms.1 wired.1
          (λ j. places (suc j) ∙ ap (slice_get nodes) (omega arith))
          (λ j t at. ap (slice_get regions) (omega arith) ∙ where_ (suc j) t at)
          (λ j p t at there.
          let other : node + 1 + j ≢ node = (λ e. omega (arith, e)) in
          let same : homes_at (node + suc j) homes ≡ homes_at (node + 1 + j) (map (without_home node) homes) = ap (λ (n : ℕ). homes_at n homes) (omega arith) ∙ sym (stay_at node (node + 1 + j) homes other) in
          subst (CanMeet p t.store.region) same (meet (suc j) p t at there))
          next.later next.each,
    )
all_end whos distinct nodes regions node [] (ls ∷ lanes) queues rooms wires stores homes sides are_nodes are_stores are_rooms wired places where_ meet names each = absurd are_nodes
all_end whos distinct nodes regions node [] [] (q ∷ queues) rooms wires stores homes sides are_nodes are_stores are_rooms wired places where_ meet names each = absurd are_nodes
all_end whos distinct nodes regions node [] [] [] (r ∷ rooms) wires stores homes sides are_nodes are_stores are_rooms wired places where_ meet names each = absurd are_rooms
all_end whos distinct nodes regions node [] [] [] [] (ws ∷ wires) stores homes sides are_nodes are_stores are_rooms wired places where_ meet names each = absurd wired
all_end whos distinct nodes regions node [] [] [] [] [] (s ∷ stores) homes sides are_nodes are_stores are_rooms wired places where_ meet names each = absurd are_stores
all_end whos distinct nodes regions node (m ∷ ms) [] queues rooms wires stores homes sides are_nodes are_stores are_rooms wired places where_ meet names each = absurd are_nodes
all_end whos distinct nodes regions node (m ∷ ms) (ls ∷ lanes) [] rooms wires stores homes sides are_nodes are_stores are_rooms wired places where_ meet names each = absurd are_nodes
all_end whos distinct nodes regions node (m ∷ ms) (ls ∷ lanes) (q ∷ queues) [] wires stores homes sides are_nodes are_stores are_rooms wired places where_ meet names each = absurd are_rooms
all_end whos distinct nodes regions node (m ∷ ms) (ls ∷ lanes) (q ∷ queues) (r ∷ rooms) [] stores homes sides are_nodes are_stores are_rooms wired places where_ meet names each = absurd wired
all_end whos distinct nodes regions node (m ∷ ms) (ls ∷ lanes) (q ∷ queues) (r ∷ rooms) (ws ∷ wires) [] homes sides are_nodes are_stores are_rooms wired places where_ meet names each = absurd are_stores

-- the notes have room for all queues
pub one_count : (whos : List Who) (ls : List PlainLane) (ws : List Wire) → AreWired whos ls ws → length ws ≡ length ls
one_count whos [] [] h = refl
one_count whos (l ∷ ls) (w ∷ ws) h = ap suc (one_count whos ls ws h.1)
one_count whos [] (w ∷ ws) h = absurd h
one_count whos (l ∷ ls) [] h = absurd h

pub all_count : (whos : List Who) (lanes : List (List PlainLane)) (wires : List (List Wire)) → AreAllWired whos lanes wires → queue_count wires ≡ sum_by (λ (ls : List PlainLane). length ls + 4) lanes
all_count whos [] [] h = refl
all_count whos (ls ∷ lanes) (ws ∷ wires) h =
    let first = one_count whos ls ws h.0 in
    let later = all_count whos lanes wires h.1 in
    ap (λ n. n + 4 + queue_count wires) first ∙ ap (λ n. length ls + 4 + n) later ∙ sym (sum_by-cons (λ (ls : List PlainLane). length ls + 4) ls lanes)
all_count whos [] (ws ∷ wires) h = absurd h
all_count whos (ls ∷ lanes) [] h = absurd h
