use Rattle.std.proofs.Common.{◌≡◌, map, take}
use Rattle.csp_world.proofs.decks.add_nodes.Given as goal
use Rattle.csp_world.specs.Opening.{deck_of}

-- the lists of the nodes so far
abbrev pub invariant-loop-node : goal.invariant-loop-node
invariant-loop-node l = record {
  decks : l.decks.decks ≡ map deck_of (take l.node-index l.nodes);
  links : l.decks.links ≡ l.initial.decks.links;
}
