use Rattle.std.proofs.Common.{◌≡◌, ◌++◌, map, take}
use Rattle.csp_topology.proofs.wiring.push_outer.Given as goal
use Rattle.csp_topology.specs.Wiring.{outer_lane, wire_by}

abbrev pub invariant-loop-joint : goal.invariant-loop-joint
invariant-loop-joint l = record {
  wires : l.wires.items ≡ l.fn.wires.items ++ map (wire_by l.spots) (map (outer_lane l.kind) (take l.joint-index l.joints));
}
