-- The digits of the bytes so far are appended.
use Rattle.std.proofs.Common.{◌≡◌, ◌≤◌, ◌+◌, ◌*◌, ◌++◌, take, length}
use Rattle.hex.specs.Hex.{encode_lower}
use Rattle.csp_tap.proofs.words.put_bytes.Given as goal

abbrev pub invariant-loop-byte : goal.invariant-loop-byte
invariant-loop-byte l = record {
  written : l.line.items ≡ l.initial.line.items ++ encode_lower (take l.byte-index l.bytes);
  room : length l.line.items ≤ length l.initial.line.items + 2 * l.byte-index;
}
