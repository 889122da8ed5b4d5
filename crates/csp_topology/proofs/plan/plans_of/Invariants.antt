use Rattle.std.proofs.Common.{◌≡◌, ◌++◌, drop}
use Rattle.csp_topology.proofs.plan.plans_of.Given as goal
use Rattle.csp_topology.specs.Plan.{plans_from}

-- the plans so far, then those of the nodes that are still to come, are those of all
abbrev pub invariant-loop-place : goal.invariant-loop-place
invariant-loop-place l = record {
  plans : l.plans.items ++ plans_from l.place (drop l.place l.nodes) l.links ≡ plans_from 0 l.nodes l.links;
}
