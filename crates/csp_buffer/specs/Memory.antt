-- the memory of a node's buffers
use Rattle.std.specs.Prelude.{◌≡◌, ℕ, ◌==◌, List, map, All}
use Rattle.std.specs.List.{count_by, range_with_len}
use Rattle.csp_arena.specs.Cells.{RegionName}
use Rattle.csp_buffer.specs.Content.{cleared}
use Rattle.csp_buffer.specs.PlainBuffer.{PlainBuffer}

-- the region of the buffers, and how many there are
pub record PlainMemory : Type 0 where
  pub region : RegionName
  pub count : ℕ

-- the cleared buffer of this number and region
abbrev pub fresh : RegionName → ℕ → PlainBuffer
fresh r n = record { picture = cleared n; region = r }

-- the buffers of a memory as it opens them, in order of their numbers from 0 up
abbrev pub fresh_all : PlainMemory → List PlainBuffer
fresh_all m = map (fresh m.region) (range_with_len 0 m.count)

-- each of these buffers is of this region
abbrev pub AreAllOf : RegionName → List PlainBuffer → Type 0
AreAllOf r bs = All (λ b. b.region ≡ r) bs

-- the buffers have each of the numbers from 0 up to n once, and no other
abbrev pub HaveEachOnce : ℕ → List PlainBuffer → Type 0
HaveEachOnce n bs = (k : ℕ) → count_by (λ m. m == k) (map (λ b. b.picture.number) bs) ≡ count_by (λ m. m == k) (range_with_len 0 n)
