use Rattle.std.proofs.Common.{◌≡◌, ◌++◌, map}
use Rattle.std.specs.List.{range_with_len}
use Rattle.csp_topology.proofs.wiring.push_inner.Given as goal
use Rattle.csp_topology.specs.Wiring.{inner_lane, wire_by}

abbrev pub invariant-loop-number : goal.invariant-loop-number
invariant-loop-number l = record {
  wires : l.wires.items ≡ l.fn.wires.items ++ map (λ k. wire_by l.spots (inner_lane l.kind l.node l.hub k)) (range_with_len 0 l.number);
}
