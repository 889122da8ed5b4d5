-- The queues of the nodes at the end of a run.
use Rattle.std.specs.Prelude.{◌≡◌, ◌≤◌, ◌+◌, ◌*◌, ℕ, ⊤, List, [], ◌∷◌, ◌++◌, IsSomeAnd, length, map, vec_capacity}
use Rattle.std.specs.List.{flat_map}
use Rattle.csp_arena.specs.Cells.{RegionName}
use Rattle.csp_base.specs.declared.priority.Prio.{Prio}
use Rattle.csp_closing.specs.Hands.{CanGather, gathered, homes_at, without_home}
use Rattle.csp_closing.specs.Wires.{AreAllNext, AreLeftAmong, HaveRooms, rooms_in, with_notes, wire_notes, without_all}
use Rattle.csp_closing.specs.declared.passes.Passes.{Passes}
use Rattle.csp_ending.specs.Ends.{IsLeftAt}
use Rattle.csp_ending.specs.Notes.{PlainNotes}
use Rattle.csp_ends.specs.Ends.{PlainHome, PlainNodeQueues, PlainSide}
use Rattle.csp_inbox.specs.Passes as inbox
use Rattle.csp_lists.specs.PlainDeck.{numbers_of}
use Rattle.csp_log.specs.Remains.{PlainLeft}
use Rattle.csp_pool.specs.Fairness.{Closes}
use Rattle.csp_standing.specs.declared.fabric.NodeRooms.{NodeRooms}
use Rattle.csp_standing.specs.declared.fabric.NodeStore.{NodeStore}
use Rattle.csp_telling.specs.Closed.{inbox_notes}
use Rattle.csp_telling.specs.Remains.{PlainRemains, inbox_numbers}
use Rattle.csp_topology.specs.declared.wire.Wire.{Wire}
use Rattle.std.specs.Prelude.{Option}

-- the joined passes of a node can end its pool and its inbox, whose buffers are of this region
pub record CanClose (region : RegionName) (v : Passes) : Type 0 where
  pub out : v.pool.hand.out ≡ 0
  pub pool : v.pool.hand.region ≡ region
  pub home : inbox.AllIn v.inbox
  pub inbox : v.inbox.role.token.name ≡ region

-- the queues of a node can end: its passes and the ends of its lanes are in the hands of the parties, and there is room for all that is left
pub record CanEnd (node : ℕ) (q : PlainNodeQueues) (r : NodeRooms) (wires : List Wire) (s : NodeStore) (homes : List (Option PlainHome)) (sides : List (List PlainSide)) : Type 0 where
  pub gather : CanGather q (homes_at node homes)
  pub close : IsSomeAnd (gathered (homes_at node homes)) (CanClose s.store.region)
  pub lanes : AreAllNext node 0 s.store.region wires q.lanes sides
  pub rooms : HaveRooms q.lanes r.lanes.items
  pub inbox : q.inbox.room ≤ r.inbox
  pub store : length s.store.numbers + (q.pool.capacity + (rooms_in q.lanes + 4 * q.inbox.room)) ≤ s.store.room

-- so can those of each of these nodes, one after the other, from this node on
abbrev pub CanAllEnd : ℕ → List PlainNodeQueues → List NodeRooms → List (List Wire) → List NodeStore → List (Option PlainHome) → List (List PlainSide) → Type 0
CanAllEnd node [] [] [] [] homes sides = ⊤
CanAllEnd node (q ∷ queues) (r ∷ rooms) (ws ∷ wires) (s ∷ stores) homes sides =
    CanEnd node q r ws s homes sides × CanAllEnd (node + 1) queues rooms wires stores (map (without_home node) homes) (without_all ws sides)
CanAllEnd _ _ _ _ _ _ _ = ⊥

-- what was left in the pool and the inbox of a node, by its joined passes
pub record IsLeftBy (room : ℕ) (v : Passes) (m : PlainRemains) : Type 0 where
  pub pool : Closes v.pool.hand m.pool
  pub inbox : (p : Prio) → IsLeftAt room p (inbox.mail_at v.inbox p) (m.inbox p)

-- what was left in the queues of a node, by what its parties had in hand
pub record IsLeftIn (node : ℕ) (room : ℕ) (wires : List Wire) (homes : List (Option PlainHome)) (sides : List (List PlainSide)) (m : PlainRemains) : Type 0 where
  pub passes : IsSomeAnd (gathered (homes_at node homes)) (λ v. IsLeftBy room v m)
  pub count : length m.lanes ≡ length wires
  pub lanes : AreLeftAmong sides node 0 m.lanes

-- in those of each of these nodes, from this node on
abbrev pub AreLeftIn : ℕ → List PlainNodeQueues → List (List Wire) → List (Option PlainHome) → List (List PlainSide) → List PlainRemains → Type 0
AreLeftIn node [] [] homes sides [] = ⊤
AreLeftIn node (q ∷ queues) (ws ∷ wires) homes sides (m ∷ all) =
    IsLeftIn node q.inbox.room ws homes sides m × AreLeftIn (node + 1) queues wires (map (without_home node) homes) (without_all ws sides) all
AreLeftIn _ _ _ _ _ _ = ⊥

-- the ends that are left once those of all lanes of these nodes were taken
abbrev pub without_wires : List (List Wire) → List (List PlainSide) → List (List PlainSide)
without_wires [] sides = sides
without_wires (ws ∷ wires) sides = without_wires wires (without_all ws sides)

-- what is said of the queues of a node
abbrev pub queue_notes : ℕ → List Wire → PlainRemains → List PlainLeft
queue_notes node wires m = wire_notes node wires m.lanes ++ inbox_notes node m.inbox

-- of those of each of these nodes, from this node on
abbrev pub all_queue_notes : ℕ → List (List Wire) → List PlainRemains → List PlainLeft
all_queue_notes node [] all = []
all_queue_notes node (ws ∷ wires) [] = []
all_queue_notes node (ws ∷ wires) (m ∷ all) = queue_notes node ws m ++ all_queue_notes (node + 1) wires all

-- how many queues these nodes have
abbrev pub queue_count : List (List Wire) → ℕ
queue_count [] = 0
queue_count (ws ∷ wires) = length ws + 4 + queue_count wires

-- the numbers of the buffers that were left in the lanes and the inbox of a node
abbrev pub queue_numbers : PlainRemains → List ℕ
queue_numbers m = flat_map numbers_of m.lanes ++ inbox_numbers m

-- and in its pool, after these
abbrev pub left_numbers : PlainRemains → List ℕ
left_numbers m = queue_numbers m ++ m.pool

-- the memory of a node once what was left in its queues is back: it is noted which of that was in the pool
pub record HasBack (s : NodeStore) (m : PlainRemains) (t : NodeStore) : Type 0 where
  pub region : t.store.region ≡ s.store.region
  pub count : t.store.count ≡ s.store.count
  pub room : t.store.room ≡ s.store.room
  pub numbers : t.store.numbers ≡ s.store.numbers ++ left_numbers m
  pub first : t.first ≡ length s.store.numbers + length (queue_numbers m)
  pub last : t.last ≡ t.first + length m.pool
  pub unnoted : t.numbers.items ≡ s.numbers.items
  pub capacity : vec_capacity t.numbers ≡ vec_capacity s.numbers

-- so is that of each of these nodes
abbrev pub HaveBack : List NodeStore → List PlainRemains → List NodeStore → Type 0
HaveBack [] [] [] = ⊤
HaveBack (s ∷ stores) (m ∷ all) (t ∷ after) = HasBack s m t × HaveBack stores all after
HaveBack _ _ _ = ⊥

-- the end of the queues of a node: what was left in them is noted, and its buffers are back
pub record NodeEnds (node : ℕ) (room : ℕ) (wires : List Wire) (homes : List (Option PlainHome)) (sides : List (List PlainSide)) (m n : PlainNotes) (s t : NodeStore) : Type 0 where
  pub remains : PlainRemains
  pub left : IsLeftIn node room wires homes sides remains
  pub noted : n ≡ with_notes m (queue_notes node wires remains) n.queues
  pub rooms : m.queues ≡ n.queues + (length wires + 4)
  pub back : HasBack s remains t

-- the end of those of each of these nodes, from this node on
pub record NodesEnd (node : ℕ) (queues : List PlainNodeQueues) (wires : List (List Wire)) (homes : List (Option PlainHome)) (sides : List (List PlainSide)) (m n : PlainNotes) (stores after : List NodeStore) : Type 0 where
  pub all : List PlainRemains
  pub left : AreLeftIn node queues wires homes sides all
  pub noted : n ≡ with_notes m (all_queue_notes node wires all) n.queues
  pub back : HaveBack stores all after
