use Rattle.std.proofs.Common.{◌≡◌, ◌++◌, length, map}
use Rattle.csp_world.proofs.decks.add_links.Given as goal

-- the links so far, then those that are still to come, are all
abbrev pub invariant-loop-ends : goal.invariant-loop-ends
invariant-loop-ends l = record {
  links : l.decks.links ++ map (λ ends. ends.items) l.links.items ≡ map (λ ends. ends.items) l.fn.links.items;
  decks : l.decks.decks ≡ l.initial.decks.decks;
}

abbrev pub decreases-loop-ends : goal.decreases-loop-ends
decreases-loop-ends l = length l.links.items
