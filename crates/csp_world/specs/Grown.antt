-- What a turn leaves of the lists as it was.
use Rattle.std.specs.Prelude.{ℕ, ◌≡◌, ◌≤◌, List, Some, length, slice_get}
use Rattle.csp_deck.specs.Step.{times}
use Rattle.csp_lists.specs.PlainDeck.{PlainDeck}
use Rattle.csp_log.specs.declared.places.QueueId.{QueueId}
use Rattle.csp_log.specs.declared.places.Rule.{Rule}
use Rattle.csp_nodes.specs.DecksAt.{DecksAt}
use Rattle.csp_nodes.specs.Serving.{rule_in}
use Rattle.csp_arena.specs.Cells.{RegionName}
use Rattle.csp_party.specs.Any.{holds}
use Rattle.csp_log.specs.Who.{node_of}
use Rattle.csp_log.specs.declared.who.Who.{Who}
use Rattle.csp_world.specs.Inside.{rooms}
use Rattle.csp_world.specs.World.{PlainMember}

-- each queue that was there carries what it did, each node that was there has as many buffers, of the same region
pub record IsGrown (d e : DecksAt) : Type 0 where
  pub rules : (w : Who) (q : QueueId) (r : Rule) → rule_in d.decks d.links w q ≡ Some r → rule_in e.decks e.links w q ≡ Some r
  pub rooms : (node room : ℕ) → slice_get (rooms d.decks) node ≡ Some room → slice_get (rooms e.decks) node ≡ Some room
  pub regions : (node : ℕ) (region : RegionName) → slice_get d.regions node ≡ Some region → slice_get e.regions node ≡ Some region

-- a party is of a node whose pool is full, and holds the buffer of this number
pub record IsFullFor (decks : List PlainDeck) (m : PlainMember) (k : ℕ) : Type 0 where
  pub node : ℕ
  pub deck : PlainDeck
  pub home : node_of m.who ≡ Some node
  pub there : slice_get decks node ≡ Some deck
  pub full : deck.pool.room ≤ length deck.pool.items
  pub has : 1 ≤ times k (holds m.party)
