-- The trailer of a piece, its last eight bytes: where its data stands in the blob, and how long the blob is.
use Rattle.std.specs.Prelude.{ℕ, ◌-◌, List, ◌++◌, length, take, drop}
use Rattle.std.specs.Int.{to_be_bytes, from_be_bytes, w32}
use Rattle.csp_sfp.specs.declared.trailer.TheConstants.{TRAILER_LEN}

-- a trailer: the offset, then the blob's length, each the most significant byte first
abbrev pub trailer_bytes : (offset total : ℕ) → List ℕ
trailer_bytes offset total = to_be_bytes w32 offset ++ to_be_bytes w32 total

-- what stands before the trailer of a payload
abbrev pub data_of : List ℕ → List ℕ
data_of payload = take (length payload - TRAILER_LEN) payload

-- the trailer of a payload
abbrev pub trailer_of : List ℕ → List ℕ
trailer_of payload = drop (length payload - TRAILER_LEN) payload

-- where it says that the data stands
abbrev pub offset_of : List ℕ → ℕ
offset_of payload = from_be_bytes w32 (take 4 (trailer_of payload))

-- how long it says that the blob is
abbrev pub total_of : List ℕ → ℕ
total_of payload = from_be_bytes w32 (drop 4 (trailer_of payload))
