use Rattle.std.proofs.Common.{◌≡◌, ◌++◌, drop}
use Rattle.csp_topology.proofs.joint.push_joints.Given as goal
use Rattle.csp_topology.specs.Wires.{joints_on}

-- the ends so far, then those that are still to come, are all
abbrev pub invariant-loop-place : goal.invariant-loop-place
invariant-loop-place l = record {
  joints : l.joints.items ++ joints_on l.number l.carries l.place (drop l.place l.ends) ≡ l.fn.joints.items ++ joints_on l.number l.carries 0 l.ends;
}
