-- a stock of boxes: how many there are, and for how many it has room
use Rattle.std.specs.Prelude.{ℕ, ◌+◌, ◌-◌, nat_lt, if◌then◌else◌}

-- a stock of boxes: how many it has, and for how many it has room
pub record PlainSpares : Type 0 where
  pub boxes : ℕ
  pub room : ℕ

-- no box, and no room
abbrev pub no_spares : PlainSpares
no_spares = record { boxes = 0; room = 0 }

-- a box is taken
abbrev pub without_box : PlainSpares → PlainSpares
without_box s = record { boxes = s.boxes - 1; room = s.room }

-- the box of a frame that is used up is put back, where there is room for it
abbrev pub with_box : PlainSpares → PlainSpares
with_box s = record { boxes = (if nat_lt s.boxes s.room then s.boxes + 1 else s.boxes); room = s.room }
