use Rattle.std.proofs.Common.{◌≡◌, ◌≤◌, ◌+◌, ◌*◌, take}
use Rattle.csp_opening.specs.Opened.{room_with}
use Rattle.csp_opening.proofs.nodes.room_in.Given as goal

abbrev pub invariant-loop-wire : goal.invariant-loop-wire
invariant-loop-wire l = record {
  room : l.room ≡ room_with l.node (take l.wire-index l.wires);
  low : l.room ≤ 524288 + 65536 * l.wire-index;
}
