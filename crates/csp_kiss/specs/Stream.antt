-- A stream of KISS frames, cut as a whole.
use Rattle.std.specs.Prelude.{ℕ, ◌+◌, ◌-◌, ◌==◌, nat_lt, Bool, true, false, if◌then◌else◌, List, [], ◌∷◌, ◌++◌, length, take, drop}
use Rattle.std.specs.Int.{w32, from_be_bytes}
use Rattle.std.specs.List.{flat_map, slice_split}
use Rattle.csp_crc.specs.Crc.{crc_of}
use Rattle.csp_kiss.specs.declared.TheConstants.{FEND, FESC, TFEND, TFESC}
use Rattle.csp_kiss.specs.declared.event.KissEvent.{KissEvent}
use Rattle.csp_kiss.specs.declared.event.KissEvent.TheVariants.{Packet, TooLong, Short, BadCrc}
use Rattle.csp_kiss.specs.Frame.{covered}

-- where a stream is cut
abbrev pub is_end : ℕ → Bool
is_end byte = byte == FEND

-- all parts but the last
unfoldable pub but_last : List (List ℕ) → List (List ℕ)
but_last [] = []
but_last (part ∷ []) = []
but_last (part ∷ next ∷ parts) = part ∷ but_last (next ∷ parts)

-- the parts between two FENDs that follow each other: neither what stands before the first FEND nor what stands after the last
unfoldable pub pieces : List ℕ → List (List ℕ)
pieces stream = drop 1 (but_last (slice_split is_end stream))

-- what the byte after FESC stands for; any other than the two is dropped with the FESC
abbrev pub meaning : ℕ → List ℕ
meaning byte = if byte == TFEND then FEND ∷ [] else if byte == TFESC then FESC ∷ [] else []

-- bytes with their escapes undone, where the test says whether a FESC stands before them; a FESC that is last is dropped
unfoldable pub undone : Bool → List ℕ → List ℕ
undone escaping [] = []
undone false (byte ∷ bytes) = if byte == FESC then undone true bytes else byte ∷ undone false bytes
undone true (byte ∷ bytes) = meaning byte ++ undone false bytes

-- the packet, or that its CRC is wrong
unfoldable pub compared : (cover : Bool) (header : ℕ) (payload : List ℕ) (found : ℕ) → KissEvent
compared cover header payload found =
    let wanted = crc_of (covered cover header payload) in
    if found == wanted then Packet header (record { items = payload }) else BadCrc found wanted

-- what the bytes of a piece are where a packet has at most so many payload bytes: too many, too few, or four of a header, a payload and four of a CRC
unfoldable pub judged : (cover : Bool) (mtu : ℕ) → List ℕ → KissEvent
judged cover mtu bytes =
    let before = length bytes - 4 in
    let front = take before bytes in
    if nat_lt (mtu + 8) (length bytes) then TooLong
    else if nat_lt (length bytes) 8 then Short
    else compared cover (from_be_bytes w32 (take 4 front)) (drop 4 front) (from_be_bytes w32 (drop before bytes))

-- what a piece gives: nothing where it has no byte, and else what is judged of it without its first byte
unfoldable pub event_of : (cover : Bool) (mtu : ℕ) → List ℕ → List KissEvent
event_of cover mtu [] = []
event_of cover mtu (skipped ∷ bytes) = judged cover mtu (undone false bytes) ∷ []

-- the events of a whole stream, where the CRC of a frame covers the header or not, and a packet has at most so many payload bytes
unfoldable pub events : (cover : Bool) (mtu : ℕ) → List ℕ → List KissEvent
events cover mtu stream = flat_map (event_of cover mtu) (pieces stream)
