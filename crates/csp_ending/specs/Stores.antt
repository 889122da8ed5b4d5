-- A node's memory, and the buffers that came back to it at the end of a run.
use Rattle.std.specs.Prelude.{◌≡◌, ℕ, ◌+◌, ◌≤◌, List, ◌++◌, length, slice_range}
use Rattle.std.specs.List.{range_with_len}
use Rattle.csp_arena.specs.Cells.{RegionName}
use Rattle.csp_deck.specs.Step.{times}

-- the region of the buffers, how many there are, the numbers of those that came back so far, and for how many there is room in all
pub record PlainStore : Type 0 where
  pub region : RegionName
  pub count : ℕ
  pub numbers : List ℕ
  pub room : ℕ

-- a store once buffers of these numbers came back
pub record TakesBack (s : PlainStore) (ns : List ℕ) (t : PlainStore) : Type 0 where
  pub region : t.region ≡ s.region
  pub count : t.count ≡ s.count
  pub numbers : t.numbers ≡ s.numbers ++ ns
  pub room : t.room ≡ s.room

-- there is room for so many more
abbrev pub HasRoom : PlainStore → ℕ → Type 0
HasRoom s n = length s.numbers + n ≤ s.room

-- each of the buffers is back once
abbrev pub IsWhole : PlainStore → Type 0
IsWhole s = (k : ℕ) → times k s.numbers ≡ times k (range_with_len 0 s.count)

-- the numbers of those that came back from this place on, before the other
abbrev pub part : ℕ → ℕ → List ℕ → List ℕ
part first last ns = slice_range ns first last
