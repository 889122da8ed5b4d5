use Rattle.std.proofs.Common.{◌≡◌, ◌++◌, drop, map}
use Rattle.std.specs.List.{AllByRecursion}
use Rattle.csp_topology.proofs.parties.push_links.Given as goal
use Rattle.csp_topology.specs.Opening.{CanOpen, opening_of}
use Rattle.csp_topology.specs.Parties.{links_from}

-- the parties so far, then those that are still to come, are all
abbrev pub invariant-loop-number : goal.invariant-loop-number
invariant-loop-number l = record {
  parties : map opening_of l.openings.items ++ links_from l.number (drop l.number l.links) ≡ map opening_of l.fn.openings.items ++ links_from 0 l.links;
  ready : AllByRecursion CanOpen l.openings.items;
}
