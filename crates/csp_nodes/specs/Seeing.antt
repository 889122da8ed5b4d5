-- What the fields of the lists of all nodes are.
use Rattle.std.specs.Prelude.{List, map}
use Rattle.csp_arena.specs.Cells.{RegionName}
use Rattle.csp_lists.specs.PlainDeck.{PlainDeck, DeckAt}
use Rattle.csp_nodes.specs.DecksAt.{DecksAt}
use Rattle.csp_nodes.specs.declared.decks.Decks.TheInside.{Inside}

-- the lists of each node, and the region of its buffers
abbrev pub decks_of : List DeckAt → List PlainDeck
decks_of nodes = map (λ d. d.deck) nodes

-- the regions of these nodes, in their order
abbrev pub regions_of : List DeckAt → List RegionName
regions_of nodes = map (λ d. d.region) nodes

-- the fields of all nodes' lists as contracts see them
abbrev pub decks_at : Inside → DecksAt
decks_at d = record { decks = decks_of d.nodes.items; regions = regions_of d.nodes.items; links = map (λ ends. ends.items) d.links.items; whose = d.whose }
