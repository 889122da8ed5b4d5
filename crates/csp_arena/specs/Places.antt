-- Where the cells of a region lie. Only this crate's own invariants speak of it.
use Rattle.std.specs.Prelude.{ℕ, ◌+◌, ◌-◌, ◌*◌, ◌≤◌, List, length, take, drop, ◌++◌}
use denote.RawPtr.{Ptr, block_ptr, block_of, count_of}
use Rattle.bytes.specs.Ownership.{IsPlaced}
use Rattle.csp_arena.specs.Cells.{RegionName, PlainCell}

-- the name of the region whose cells have s bytes, and whose cell n lies at p
abbrev pub name_at : Ptr → ℕ → ℕ → RegionName
name_at p n s = record { block = block_of p; start = count_of p - n * s; size = s }

-- there is room before p for n cells of s bytes
abbrev pub IsCellAt : Ptr → ℕ → ℕ → Type 0
IsCellAt p n s = IsPlaced p × (n * s ≤ count_of p)

-- where the cell of this number lies
abbrev pub place_of : RegionName → ℕ → Ptr
place_of name n = block_ptr name.block (name.start + n * name.size)

-- the cell with ws written over its bytes: as many of them as it has
abbrev pub with_bytes : PlainCell → List ℕ → PlainCell
with_bytes c ws = record { region = c.region; number = c.number; bytes = take (length c.bytes) (ws ++ drop (length ws) c.bytes) }
