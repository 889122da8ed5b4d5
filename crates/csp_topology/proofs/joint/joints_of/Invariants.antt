use Rattle.std.proofs.Common.{◌≡◌, ◌++◌, drop}
use Rattle.csp_topology.proofs.joint.joints_of.Given as goal
use Rattle.csp_topology.specs.Wires.{joints_from}

-- the ends so far, then those of the links that are still to come, are those of all
abbrev pub invariant-loop-number : goal.invariant-loop-number
invariant-loop-number l = record {
  joints : l.joints.items ++ joints_from l.number (drop l.number l.links) ≡ joints_from 0 l.links;
}
