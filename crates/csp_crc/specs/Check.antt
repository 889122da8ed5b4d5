-- Why a checked payload is refused.
use Rattle.std.specs.Prelude.{◌≡◌, ◌≢◌, ℕ, ◌-◌, ◌<◌, ◌≤◌, List, length, take, drop, ◌==◌, nat_lt, if◌then◌else◌, Option, Some, None}
use Rattle.std.specs.Int.{w32, from_be_bytes}
use Rattle.csp_crc.specs.Crc.{crc_of}
use Rattle.csp_crc.specs.declared.CrcError.{CrcError}
use Rattle.csp_crc.specs.declared.CrcError.TheVariants.{Short, Wrong}

-- just these bytes are refused so: those under four as short, and where the last four
-- are not the CRC of those before, with what stands there and what belongs there
abbrev pub IsCause : List ℕ → CrcError → Type 0
IsCause bytes Short = length bytes < 4
IsCause bytes (Wrong found wanted) =
    let before = length bytes - 4 in
    (4 ≤ length bytes) × (found ≡ from_be_bytes w32 (drop before bytes)) × (wanted ≡ crc_of (take before bytes)) × (found ≢ wanted)

-- the payload whose checked form these bytes are, if there is one
unfoldable pub payload_of : List ℕ → Option (List ℕ)
payload_of bytes =
    let before = length bytes - 4 in
    if nat_lt (length bytes) 4 then None
    else if from_be_bytes w32 (drop before bytes) == crc_of (take before bytes) then Some (take before bytes)
    else None
