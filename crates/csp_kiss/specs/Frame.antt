-- A KISS frame of one packet.
use Rattle.std.specs.Prelude.{ℕ, ◌==◌, Bool, if◌then◌else◌, List, [], ◌∷◌, ◌++◌}
use Rattle.std.specs.Int.{w32, to_be_bytes}
use Rattle.std.specs.List.{flat_map}
use Rattle.csp_crc.specs.Crc.{crc_of}
use Rattle.csp_kiss.specs.declared.TheConstants.{FEND, FESC, TFEND, TFESC}

-- a byte as it stands in a frame: FEND and FESC become two bytes
abbrev pub escape_of : ℕ → List ℕ
escape_of byte = if byte == FEND then FESC ∷ TFEND ∷ [] else if byte == FESC then FESC ∷ TFESC ∷ [] else byte ∷ []

-- the escaped form of some bytes
abbrev pub escaped : List ℕ → List ℕ
escaped bytes = flat_map escape_of bytes

-- what the CRC of a frame is of: the payload, and where it covers the header the four header bytes before it
abbrev pub covered : (cover : Bool) (header : ℕ) (payload : List ℕ) → List ℕ
covered cover header payload = if cover then to_be_bytes w32 header ++ payload else payload

-- the frame: FEND, 0, the escaped form of the four header bytes, the payload and the four bytes of the CRC, FEND
unfoldable pub frame : (cover : Bool) (header : ℕ) (payload : List ℕ) → List ℕ
frame cover header payload = FEND ∷ 0 ∷ (escaped (to_be_bytes w32 header ++ (payload ++ to_be_bytes w32 (crc_of (covered cover header payload)))) ++ FEND ∷ [])
