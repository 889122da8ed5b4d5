-- What the register and the bytes still to come leave is what the whole leaves.
use Rattle.std.proofs.Common.{◌≡◌, drop}
use Rattle.csp_crc.specs.Register.{left_after}
use Rattle.csp_crc.proofs.register.byte_by_byte.Given as goal

abbrev pub invariant-loop-byte : goal.invariant-loop-byte
invariant-loop-byte l = left_after l.fn.register l.bytes ≡ left_after l.register (drop l.byte-index l.bytes)
