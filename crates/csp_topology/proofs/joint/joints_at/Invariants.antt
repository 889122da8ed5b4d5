use Rattle.std.proofs.Common.{◌≡◌, take}
use Rattle.csp_topology.proofs.joint.joints_at.Given as goal
use Rattle.csp_topology.specs.Wires.{joints_at}

abbrev pub invariant-loop-joint : goal.invariant-loop-joint
invariant-loop-joint l = record {
  here : l.here.items ≡ joints_at l.node (take l.joint-index l.joints);
}
