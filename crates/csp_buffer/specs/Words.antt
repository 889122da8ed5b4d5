-- Where in its cell a buffer keeps its packet: the header word, most significant byte first, and then the payload.
use Rattle.std.specs.Prelude.{ℕ, ◌+◌, List, ◌++◌, length, take, drop}
use Rattle.std.specs.Int.{w32, from_be_bytes}
use Rattle.csp_base.specs.declared.traces.Trace.{Trace}
use Rattle.csp_arena.specs.Cells.{PlainCell}
use Rattle.csp_buffer.specs.PlainBuffer.{PlainBuffer}

-- the header word that stands in the first bytes
abbrev pub header_in : List ℕ → ℕ
header_in bytes = from_be_bytes w32 (take 4 bytes)

-- the n bytes of payload that follow it
abbrev pub payload_in : ℕ → List ℕ → List ℕ
payload_in n bytes = take n (drop 4 bytes)

-- the buffer that keeps n bytes of payload and this trace in the cell
abbrev pub kept_in : PlainCell → ℕ → Trace → PlainBuffer
kept_in c n trace = record { picture = record { number = c.number; header = header_in c.bytes; payload = payload_in n c.bytes; trace = trace }; region = c.region }

-- the bytes with these written over as many of them, from the place `at` on
abbrev pub overwritten : List ℕ → ℕ → List ℕ → List ℕ
overwritten bytes at ws = take at bytes ++ (ws ++ drop (at + length ws) bytes)
