use Rattle.std.proofs.Common.{◌≡◌, ◌++◌, drop, map}
use Rattle.csp_topology.proofs.writers.writers_of.Given as goal
use Rattle.csp_topology.specs.Writers.{writers_from}

-- those of the nodes so far, then those of the nodes that are still to come, are those of all
abbrev pub invariant-loop-place : goal.invariant-loop-place
invariant-loop-place l = record {
  writers : map (λ ws. ws.items) l.all.items ++ writers_from l.place (drop l.place l.nodes) l.links ≡ writers_from 0 l.nodes l.links;
}
