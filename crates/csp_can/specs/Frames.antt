use Rattle.std.specs.Prelude.{ℕ, ◌^◌, ◌<◌, ◌≤◌, List, length}
use Rattle.csp_can.specs.declared.identifiers.Identifier.{Identifier}
use Rattle.csp_can.specs.declared.frames.CanFrame.{CanFrame}
use Rattle.csp_can.specs.declared.frames.TheConstants.{MAX_DATA}
use Rattle.csp_can.specs.Identifiers.{identifier_number, identifier_of}

-- a frame as the rules read it: the parts of its identifier, and its data
pub record Frame : Type 0 where
  pub head : Identifier
  pub bytes : List ℕ

-- the frame with an identifier's number and data
abbrev pub frame_of : ℕ → List ℕ → Frame
frame_of id bytes = record { head = identifier_of id; bytes = bytes }

-- a frame of the bus, read
abbrev pub read_frame : CanFrame → Frame
read_frame f = frame_of f.id f.bytes.items

-- a frame, as it stands on the bus
abbrev pub written : Frame → CanFrame
written f = record { id = identifier_number f.head; bytes = record { items = f.bytes } }

-- a frame that a bus carries: an identifier of 29 bits and few data bytes
abbrev pub IsOnBus : CanFrame → Type 0
IsOnBus f = (f.id < 2 ^ 29) × (length f.bytes.items ≤ MAX_DATA)
