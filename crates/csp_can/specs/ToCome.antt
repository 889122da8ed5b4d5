use Rattle.std.specs.Prelude.{List, ◌++◌, ◌<◌, ◌≤◌, length, drop, map}
use Rattle.std.specs.Option.{option_to_list}
use Rattle.csp_can.specs.declared.frames.CanFrame.{CanFrame}
use Rattle.csp_can.specs.declared.cutter.Fragments.TheInside.{Inside}
use Rattle.csp_can.specs.Frames.{written}
use Rattle.csp_can.specs.Fragments.{more_frames}

-- the frames still to come: the first where it was not given, then those of the rest of the payload
abbrev pub frames_to_come : Inside → List CanFrame
frames_to_come a =
    option_to_list a.first ++ map written (more_frames a.head a.left (drop a.given a.payload.items))

-- the packet's number has 10 bits, and no more was given than there is
abbrev pub IsCutter : Inside → Type 0
IsCutter a = (a.head.id < 1024) × (a.given ≤ length a.payload.items)
