-- the bytes of a frame
use Rattle.std.specs.Prelude.{ℕ, slice_set}
use Rattle.csp_log.specs.declared.frame.Frame.{Frame}

-- a frame with this byte at an index
abbrev pub with_byte : Frame → ℕ → ℕ → Frame
with_byte frame index byte = record frame { bytes = record { items = slice_set frame.bytes.items index byte } }
