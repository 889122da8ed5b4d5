-- What a clause says of a ring and of its passes.
use Rattle.std.specs.Prelude.{◌≡◌, ℕ, []}
use Rattle.atomic_table.specs.Seated.{TableId}
use Rattle.crossbeam_queue.specs.Passes.{Pass}
use Rattle.csp_ring.specs.declared.shapes.RuledRing.{RuledRing}

module _ {T V P A : Type 0} where
  -- the ring's name, which its passes have too
  abbrev pub ring_name : RuledRing T V P A → TableId
  ring_name r = r.table.shared.table_id

  -- how many items the ring has room for
  abbrev pub ring_capacity : RuledRing T V P A → ℕ
  ring_capacity r = r.capacity

  -- it is a pass of this ring, and no slot is out with it
  abbrev pub IsPassOf : RuledRing T V P A → Pass T V → Type 0
  IsPassOf r p = (p.table_id ≡ ring_name r) × (p.me.1 ≡ [])
