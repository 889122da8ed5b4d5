use Rattle.std.proofs.Common.{◌≡◌, ◌≤◌, ◌+◌, ◌*◌, ◌++◌, drop, map}
use Rattle.csp_base.specs.declared.limits.TheConstants.{MAX_APPS}
use Rattle.csp_scene.specs.declared.limits.TheConstants.{MAX_LINKS}
use Rattle.csp_topology.proofs.wiring.wires_of.Given as goal
use Rattle.csp_topology.specs.Wiring.{wired_from}

-- the lanes so far, then those of the nodes that are still to come, are those of all
abbrev pub invariant-loop-place : goal.invariant-loop-place
invariant-loop-place l = record {
  wires : map (λ ws. ws.items) l.all.items ++ wired_from l.place l.first l.first_link (drop l.place l.nodes) l.links ≡ wired_from 0 0 l.first_link l.nodes l.links;
  low : l.first ≤ l.place * (1 + MAX_LINKS + MAX_APPS);
}
