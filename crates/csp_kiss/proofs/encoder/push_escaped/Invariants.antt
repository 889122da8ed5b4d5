use Rattle.std.proofs.Common.{◌≡◌, ◌≤◌, ◌+◌, ◌*◌, ◌++◌, take, length}
use Rattle.csp_kiss.specs.Frame.{escaped}
use Rattle.csp_kiss.proofs.encoder.push_escaped.Given as goal

abbrev pub invariant-loop-byte : goal.invariant-loop-byte
invariant-loop-byte l = record {
  written : l.out.items ≡ l.initial.out.items ++ escaped (take l.byte-index l.bytes);
  room : length l.out.items ≤ length l.initial.out.items + 2 * l.byte-index;
}
