use Rattle.std.specs.Prelude.{ℕ, List, take, drop}
use Rattle.std.specs.Int.{from_be_bytes, w16, w32}

-- the header word in the data of a BEGIN frame: its first 4 bytes
abbrev pub begin_header : List ℕ → ℕ
begin_header bytes = from_be_bytes w32 (take 4 bytes)

-- how many payload bytes its packet has: the next 2 bytes
abbrev pub begin_length : List ℕ → ℕ
begin_length bytes = from_be_bytes w16 (take 2 (drop 4 bytes))

-- the payload bytes in a BEGIN frame: all after its first 6
abbrev pub begin_payload : List ℕ → List ℕ
begin_payload bytes = drop 2 (drop 4 bytes)
