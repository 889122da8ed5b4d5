use Rattle.std.specs.Prelude.{◌≡◌, ℕ, List, map, replicate, ◌==◌, All}
use Rattle.std.specs.List.{count_by, range_with_len}

-- a region's name, which contracts alone see: the block of memory that its cells lie in, where in it they start, and how many bytes each has
pub record RegionName : Type 0 where
  pub block : ℕ
  pub start : ℕ
  pub size : ℕ

-- a cell: the region that it is of, its number there, its bytes
pub record PlainCell : Type 0 where
  pub region : RegionName
  pub number : ℕ
  pub bytes : List ℕ

-- a region: its name, how many cells it has, and how many bytes each of them has
pub record PlainRegion : Type 0 where
  pub name : RegionName
  pub cells : ℕ
  pub size : ℕ

-- the cell of this number as a region opens it: its bytes are zero
abbrev pub blank : RegionName → ℕ → PlainCell
blank name n = record { region = name; number = n; bytes = replicate name.size 0 }

-- the cells of a region as it opens them, in order of their numbers from 0 up
abbrev pub blank_cells : PlainRegion → List PlainCell
blank_cells r = map (blank r.name) (range_with_len 0 r.cells)

-- all of these cells are of the region of that name
abbrev pub AreOf : RegionName → List PlainCell → Type 0
AreOf name cells = All (λ c. c.region ≡ name) cells

-- the numbers of cells, in their order
abbrev pub numbers : List PlainCell → List ℕ
numbers cells = map (λ c. c.number) cells

-- a list that has each of the numbers from 0 up to n once, and no other
abbrev pub HasEachOnce : ℕ → List ℕ → Type 0
HasEachOnce n ns = (k : ℕ) → count_by (λ m. m == k) ns ≡ count_by (λ m. m == k) (range_with_len 0 n)
