-- Who is handed which end of which lane.
use Rattle.std.specs.Prelude.{◌≡◌, ◌+◌, ◌<◌, ◌≤◌, ◌==◌, ℕ, zero, suc, true, false, List, [], ◌∷◌, ◌++◌, length, vec_capacity, if◌then◌else◌}
use Rattle.std.specs.List.{sum_by}
use Rattle.std.specs.Global.{Vec}
use Rattle.csp_ends.specs.Ends.{PlainSide}
use Rattle.csp_opening.specs.declared.lanes.Pair.{Pair}
use Rattle.csp_topology.specs.declared.wire.Wire.{Wire}

-- how many ends of a lane the party at a place has
abbrev pub ends_of : ℕ → Wire → ℕ
ends_of p w = (if w.from.party == p then 1 else 0) + (if w.to.party == p then 1 else 0)

-- how many of the lanes of a node
abbrev pub ends_among : ℕ → List Wire → ℕ
ends_among p wires = sum_by (ends_of p) wires

-- the end of a lane that puts, in the hand of who has it
abbrev pub putting : ℕ → ℕ → Pair → PlainSide
putting node lane x = record { queue = x.wire.from.queue; node = node; lane = lane; puts = true; end = x.producer }

-- the end that gets
abbrev pub getting : ℕ → ℕ → Pair → PlainSide
getting node lane x = record { queue = x.wire.to.queue; node = node; lane = lane; puts = false; end = x.consumer }

-- the ends of a lane that the party at a place is handed
abbrev pub handed_of : ℕ → ℕ → ℕ → Pair → List PlainSide
handed_of p node lane x = (if x.wire.from.party == p then putting node lane x ∷ [] else []) ++ (if x.wire.to.party == p then getting node lane x ∷ [] else [])

-- those of the lanes of a node, from this one on
abbrev pub handed_among : ℕ → ℕ → ℕ → List Pair → List PlainSide
handed_among p node lane [] = []
handed_among p node lane (x ∷ pairs) = handed_of p node lane x ++ handed_among p node (lane + 1) pairs

-- those of all nodes, from this one on
abbrev pub handed_from : ℕ → ℕ → List (List Pair) → List PlainSide
handed_from p node [] = []
handed_from p node (pairs ∷ nodes) = handed_among p node 0 pairs ++ handed_from p (node + 1) nodes

-- both parties of a lane are among so many
pub record IsAmong (count : ℕ) (x : Pair) : Type 0 where
  pub from : x.wire.from.party < count
  pub to : x.wire.to.party < count

-- what the party at a place was handed
abbrev pub list_at : List (Vec PlainSide) → ℕ → List PlainSide
list_at [] p = []
list_at (v ∷ sides) zero = v.items
list_at (v ∷ sides) (suc p) = list_at sides p

-- for how many ends there is room at a place
abbrev pub room_at : List (Vec PlainSide) → ℕ → ℕ
room_at [] p = 0
room_at (v ∷ sides) zero = vec_capacity v
room_at (v ∷ sides) (suc p) = room_at sides p

-- there is room for so many more at each place
abbrev pub HaveRoom : List (Vec PlainSide) → (ℕ → ℕ) → Type 0
HaveRoom sides more = (p : ℕ) → p < length sides → length (list_at sides p) + more p ≤ room_at sides p

-- lists with these more at each place, and the room that there was
pub record AreHanded (before : List (Vec PlainSide)) (more : ℕ → List PlainSide) (after : List (Vec PlainSide)) : Type 0 where
  pub count : length after ≡ length before
  pub lists : (p : ℕ) → p < length before → list_at after p ≡ list_at before p ++ more p
  pub rooms : (p : ℕ) → p < length before → room_at after p ≡ room_at before p
