-- A flip that no link lets pass unnoticed: it changes nothing, or what it changes shows.
use Rattle.std.specs.Prelude.{ℕ, ◌*◌, ◌<◌, ◌≤◌, Option, None, Some, length, ⊤}
use Rattle.csp_log.specs.declared.frame.Frame.{Frame}
use Rattle.csp_log.specs.declared.places.LinkKind.{LinkKind}
use Rattle.csp_log.specs.declared.places.LinkKind.TheVariants as link
use Rattle.csp_noticed.specs.Plain.{FlipsPlain}

-- a frame has this bit
abbrev pub HasBit : ℕ → Frame → Type 0
HasBit bit f = bit < 8 * length f.bytes.items

-- a frame is too short to have this bit
abbrev pub HasNoBit : ℕ → Frame → Type 0
HasNoBit bit f = 8 * length f.bytes.items ≤ bit

-- by the kind of the link, a flip of this bit harms a frame nowhere: on a CAN bus, and on a KISS link whose CRC is of the payload alone, the frame has
-- no such bit; on a KISS link whose CRC covers the header, it turns a plain byte into a plain byte if it turns any
abbrev pub IsHarmlessFlip : LinkKind → ℕ → Frame → Type 0
IsHarmlessFlip link.Kiss bit f = HasNoBit bit f
IsHarmlessFlip link.KissHeader bit f = HasBit bit f → FlipsPlain bit f.bytes.items
IsHarmlessFlip link.Can bit f = HasNoBit bit f

-- the flip that a plan has for a frame, if it has one, is such
abbrev pub IsHarmless : LinkKind → Option ℕ → Frame → Type 0
IsHarmless kind None f = ⊤
IsHarmless kind (Some bit) f = IsHarmlessFlip kind bit f
