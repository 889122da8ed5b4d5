use Rattle.std.proofs.Common.{◌≡◌, ◌≤◌, ◌*◌, take}
use Rattle.csp_opening.specs.Handed.{ends_among}
use Rattle.csp_opening.proofs.sides.ends_among.Given as goal

abbrev pub invariant-loop-wire : goal.invariant-loop-wire
invariant-loop-wire l = record {
  count : l.count ≡ ends_among l.place (take l.wire-index l.wires);
  low : l.count ≤ 2 * l.wire-index;
}
