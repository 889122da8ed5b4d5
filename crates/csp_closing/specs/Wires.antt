-- The lanes of a node at the end of a run, each with the two ends that come next in the hands of its parties.
use Rattle.std.specs.Prelude.{◌≡◌, ◌≢◌, ◌≤◌, ◌+◌, ℕ, zero, suc, true, false, ⊤, Some, List, [], ◌∷◌, ◌++◌, length, map, drop, slice_get}
use Rattle.std.specs.List.{AllByRecursion, flat_map}
use Rattle.csp_arena.specs.Cells.{RegionName}
use Rattle.csp_consistent.specs.Pools.{left_held, place_named}
use Rattle.csp_consistent.specs.Promises.{IsLaneKept}
use Rattle.csp_deck.specs.Carried.{IsCarried}
use Rattle.csp_ending.specs.Notes.{PlainNotes, left_note}
use Rattle.csp_ending.specs.Stores.{PlainStore, TakesBack}
use Rattle.csp_ends.specs.Ends.{PlainSide}
use Rattle.csp_lane.specs.Ends.{PlainLane, IsEndOf}
use Rattle.csp_lane.specs.Marks.{AreHeeded}
use Rattle.csp_lists.specs.PlainDeck.{numbers_of}
use Rattle.csp_log.specs.Remains.{PlainLeft}
use Rattle.csp_log.specs.declared.places.Place.TheVariants as place
use Rattle.csp_log.specs.declared.places.Rule.TheVariants as rule
use Rattle.csp_log.specs.declared.shown.ItemShown.{ItemShown}
use Rattle.csp_topology.specs.declared.wire.Wire.{Wire}

-- it is the first end of the party at this place
pub record IsFirstAt (sides : List (List PlainSide)) (at : ℕ) (s : PlainSide) : Type 0 where
  pub rest : List PlainSide
  pub there : slice_get sides at ≡ Some (s ∷ rest)

-- the ends of all parties once the first of the party at this place was taken
abbrev pub without_first : ℕ → List (List PlainSide) → List (List PlainSide)
without_first at [] = []
without_first zero (ss ∷ sides) = drop 1 ss ∷ sides
without_first (suc at) (ss ∷ sides) = ss ∷ without_first at sides

-- and once the two of a lane were taken
abbrev pub without_ends : Wire → List (List PlainSide) → List (List PlainSide)
without_ends w sides = without_first w.to.party (without_first w.from.party sides)

-- of each of these lanes
abbrev pub without_all : List Wire → List (List PlainSide) → List (List PlainSide)
without_all [] sides = sides
without_all (w ∷ wires) sides = without_all wires (without_ends w sides)

-- an end of this lane, which is that one of that node and of this region
pub record IsEndThere (l : PlainLane) (region : RegionName) (node lane : ℕ) (s : PlainSide) : Type 0 where
  pub of_it : IsEndOf l s.end
  pub within : s.end.region ≡ region
  pub node_is : s.node ≡ node
  pub lane_is : s.lane ≡ lane

-- the two ends of a lane come next in the hands of its parties
pub record AreNext (sides : List (List PlainSide)) (w : Wire) (l : PlainLane) (region : RegionName) (node lane : ℕ) : Type 0 where
  pub x : PlainSide
  pub y : PlainSide
  pub from : IsFirstAt sides w.from.party x
  pub to : IsFirstAt sides w.to.party y
  pub apart : w.from.party ≢ w.to.party
  pub puts : x.puts ≡ true
  pub gets : y.puts ≡ false
  pub x_there : IsEndThere l region node lane x
  pub y_there : IsEndThere l region node lane y
  pub named : place_named w.queue 0 ≡ place.Lane w.queue

-- so do those of each of these lanes, one after the other, from this lane on
abbrev pub AreAllNext : ℕ → ℕ → RegionName → List Wire → List PlainLane → List (List PlainSide) → Type 0
AreAllNext node lane region [] [] sides = ⊤
AreAllNext node lane region (w ∷ wires) (l ∷ lanes) sides = AreNext sides w l region node lane × AreAllNext node (lane + 1) region wires lanes (without_ends w sides)
AreAllNext _ _ _ _ _ _ = ⊥

-- there is room for what is left of each lane
abbrev pub HaveRooms : List PlainLane → List ℕ → Type 0
HaveRooms [] [] = ⊤
HaveRooms (l ∷ lanes) (r ∷ rooms) = (l.room ≤ r) × HaveRooms lanes rooms
HaveRooms _ _ = ⊥

-- for how many items there is room in these lanes
abbrev pub rooms_in : List PlainLane → ℕ
rooms_in [] = 0
rooms_in (l ∷ lanes) = l.room + rooms_in lanes

-- what was left in a lane of a node, by the ends of all parties: of what the one put and the other got the lane kept its promise, it carries what was left,
-- and the marks of what was got keep to their bounds
pub record IsLeftAmong (sides : List (List PlainSide)) (node lane : ℕ) (left : List ItemShown) : Type 0 where
  pub i : ℕ
  pub j : ℕ
  pub xs : List PlainSide
  pub ys : List PlainSide
  pub first : slice_get sides i ≡ Some xs
  pub second : slice_get sides j ≡ Some ys
  pub apart : i ≢ j
  pub a : ℕ
  pub b : ℕ
  pub x : PlainSide
  pub y : PlainSide
  pub from : slice_get xs a ≡ Some x
  pub to : slice_get ys b ≡ Some y
  pub puts : x.puts ≡ true
  pub gets : y.puts ≡ false
  pub x_node : x.node ≡ node
  pub x_lane : x.lane ≡ lane
  pub y_node : y.node ≡ node
  pub y_lane : y.lane ≡ lane
  pub kept : IsLaneKept x.end.room x.end.items y.end.items left
  pub carried : AllByRecursion (IsCarried (rule.Lane x.end.carries)) left
  pub heeded : AreHeeded x.end.marks y.end.marks

-- the notes with these on queues, and what the queues held by them
abbrev pub with_notes : PlainNotes → List PlainLeft → ℕ → PlainNotes
with_notes m more queues = record { left = m.left ++ more; held = m.held ++ map left_held more; queues = queues; others = m.others }

-- what is said of the lanes of a node
abbrev pub wire_notes : ℕ → List Wire → List (List ItemShown) → List PlainLeft
wire_notes node [] lefts = []
wire_notes node (w ∷ wires) [] = []
wire_notes node (w ∷ wires) (left ∷ lefts) = left_note node w.queue 0 left ∷ wire_notes node wires lefts

-- what was left in each of these lanes of a node, from this lane on
abbrev pub AreLeftAmong : List (List PlainSide) → ℕ → ℕ → List (List ItemShown) → Type 0
AreLeftAmong sides node lane [] = ⊤
AreLeftAmong sides node lane (left ∷ lefts) = IsLeftAmong sides node lane left × AreLeftAmong sides node (lane + 1) lefts

-- the end of a lane: what was left in it is noted, and its buffers are back
pub record WireEnds (sides : List (List PlainSide)) (w : Wire) (node lane : ℕ) (m n : PlainNotes) (s t : PlainStore) : Type 0 where
  pub left : List ItemShown
  pub whole : IsLeftAmong sides node lane left
  pub noted : n ≡ with_notes m (left_note node w.queue 0 left ∷ []) n.queues
  pub rooms : m.queues ≡ n.queues + 1
  pub back : TakesBack s (numbers_of left) t

-- the end of these lanes of a node, from this lane on
pub record WiresEnd (sides : List (List PlainSide)) (wires : List Wire) (node lane : ℕ) (m n : PlainNotes) (s t : PlainStore) : Type 0 where
  pub lefts : List (List ItemShown)
  pub count : length lefts ≡ length wires
  pub whole : AreLeftAmong sides node lane lefts
  pub noted : n ≡ with_notes m (wire_notes node wires lefts) n.queues
  pub rooms : m.queues ≡ n.queues + length wires
  pub back : TakesBack s (flat_map numbers_of lefts) t
