-- what a fate makes of a frame
use Rattle.std.specs.Prelude.{ℕ, ◌+◌, ◌/◌, ◌%◌, ◌^◌, Option, Some, None, List, [], map, replicate, slice_index, if◌then◌else◌}
use Rattle.std.specs.Int.Bits.{bit_xor}
use Rattle.csp_link.specs.declared.fates.Fate.{Fate}
use Rattle.csp_link.specs.declared.held.Held.{Held}
use Rattle.csp_log.specs.Bytes.{with_byte}
use Rattle.csp_log.specs.declared.frame.Frame.{Frame}

-- bit 0 of a frame is the top bit of its first byte, which counts 128; where there is no such bit nothing changes
abbrev pub flipped : ℕ → Frame → Frame
flipped bit frame = with_byte frame (bit / 8) (bit_xor (slice_index frame.bytes.items (bit / 8)) (128 / 2 ^ (bit % 8)))

-- with the bit changed that is to be
abbrev pub damaged : Option ℕ → Frame → Frame
damaged None frame = frame
damaged (Some bit) frame = flipped bit frame

-- a lost frame has no copy, any other one and those besides, each damaged alike
abbrev pub copies_of : Fate → Frame → List Frame
copies_of fate frame = (if fate.lost then [] else replicate (fate.repeats + 1) (damaged fate.flip frame))

-- a frame held until then
abbrev pub held_until : ℕ → Frame → Held
held_until due frame = record { due = due; frame = frame }

-- the copies, held from now on: each is due at once, or so many rounds later
abbrev pub held_copies : Fate → ℕ → Frame → List Held
held_copies fate now frame = map (held_until (now + fate.delay)) (copies_of fate frame)
