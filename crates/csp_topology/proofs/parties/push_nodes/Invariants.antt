use Rattle.std.proofs.Common.{◌≡◌, ◌++◌, drop, map}
use Rattle.std.specs.List.{AllByRecursion}
use Rattle.csp_topology.proofs.parties.push_nodes.Given as goal
use Rattle.csp_topology.specs.Opening.{CanOpen, opening_of}
use Rattle.csp_topology.specs.Parties.{parties_from}

-- the parties so far, then those that are still to come, are all
abbrev pub invariant-loop-place : goal.invariant-loop-place
invariant-loop-place l = record {
  parties : map opening_of l.openings.items ++ parties_from l.place (drop l.place l.nodes) l.links ≡ map opening_of l.fn.openings.items ++ parties_from 0 l.nodes l.links;
  ready : AllByRecursion CanOpen l.openings.items;
}
