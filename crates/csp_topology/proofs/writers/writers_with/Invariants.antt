use Rattle.std.proofs.Common.{◌≡◌}
use Rattle.csp_topology.proofs.writers.writers_with.Given as goal
use Rattle.csp_topology.specs.Writers.{writers_with}

-- those of the interfaces so far, after the router or bridge
abbrev pub invariant-loop-number : goal.invariant-loop-number
invariant-loop-number l = record {
  writers : l.writers.items ≡ writers_with l.node l.fn.hub l.number;
}
