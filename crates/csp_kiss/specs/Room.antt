-- The room of a reader.
use Rattle.std.specs.Prelude.{ℕ, ◌≤◌, List, length}
use Rattle.csp_base.specs.declared.limits.TheConstants.{MAX_PAYLOAD}
use Rattle.csp_kiss.specs.Reading.{room}

-- no packet is longer than a payload may be, and no more bytes of a piece are kept than there is room for
abbrev pub IsInRoom : (mtu : ℕ) (plain : List ℕ) → Type 0
IsInRoom mtu plain = (mtu ≤ MAX_PAYLOAD) × (length plain ≤ room mtu)
