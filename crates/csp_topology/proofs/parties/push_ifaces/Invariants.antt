use Rattle.std.proofs.Common.{◌≡◌, ◌++◌, length, map, take}
use Rattle.std.specs.List.{AllByRecursion}
use Rattle.csp_scene.specs.Links.{links_at}
use Rattle.csp_topology.proofs.parties.push_ifaces.Given as goal
use Rattle.csp_topology.specs.Opening.{CanOpen, opening_of}
use Rattle.csp_topology.specs.Parties.{ifaces_from}

-- an interface for each of the node's links so far
abbrev pub invariant-loop-link : goal.invariant-loop-link
invariant-loop-link l = record {
  number : l.number ≡ length (links_at l.place (take l.link-index l.links));
  parties : map opening_of l.openings.items ≡ map opening_of l.fn.openings.items ++ ifaces_from l.place l.node.addr 0 (links_at l.place (take l.link-index l.links));
  ready : AllByRecursion CanOpen l.openings.items;
}
