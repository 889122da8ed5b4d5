use Rattle.std.proofs.Common.{◌≡◌, take}
use Rattle.csp_kiss.proofs.reader.packet.Given as goal

abbrev pub invariant-loop-byte : goal.invariant-loop-byte
invariant-loop-byte l = l.payload.items ≡ take l.byte-index l.bytes
