-- a slot of an application of a node
use Rattle.std.specs.Prelude.{ℕ}
use Rattle.csp_base.specs.declared.seat.Seat.{Seat}

-- the seat of these numbers
abbrev pub seat : (app slot : ℕ) → Seat
seat app slot = record { app = app; slot = slot }
