-- How the parties of a network become those of a world.
use Rattle.std.specs.Prelude.{◌≡◌, ◌≤◌, ℕ, Some, List, [], length, slice_get, IsSomeAnd, vec_capacity}
use Rattle.csp_arena.specs.Cells.{RegionName}
use Rattle.csp_lists.specs.PlainDeck.{PlainDeck}
use Rattle.csp_log.specs.Who.{node_of}
use Rattle.csp_log.specs.declared.places.End.{End}
use Rattle.csp_party.specs.Any.{region_of}
use Rattle.csp_topology.specs.Opened.{opened_as}
use Rattle.csp_topology.specs.declared.opened.NewParty.{NewParty}
use Rattle.csp_topology.specs.declared.opened.NodeBuffers.{NodeBuffers}
use Rattle.csp_world.specs.Inside.{IsNew, rooms}

-- these are the buffers of the node at a place: they are of its region, and as many as its pool has room for
pub record AreBuffersAt (decks : List PlainDeck) (regions : List RegionName) (node : ℕ) (b : NodeBuffers) : Type 0 where
  pub region : slice_get regions node ≡ Some b.region.name
  pub count : slice_get (rooms decks) node ≡ Some b.count

-- those of each node
pub record AreBuffersOf (decks : List PlainDeck) (regions : List RegionName) (all : List NodeBuffers) : Type 0 where
  pub many : length all ≡ length decks
  pub each : (node : ℕ) (b : NodeBuffers) → slice_get all node ≡ Some b → AreBuffersAt decks regions node b

-- a party that was opened can be one of a world: it is new over these lists, its buffers are to be of its node's region, and there is room for the
-- numbers that it holds at the end
pub record CanSettle (decks : List PlainDeck) (links : List (List End)) (regions : List RegionName) (p : NewParty) : Type 0 where
  pub new : IsNew decks links (opened_as p)
  pub home : (node : ℕ) → node_of p.who ≡ Some node → slice_get regions node ≡ Some (region_of p.party)
  pub unnoted : p.numbers.items ≡ []
  pub room : (node : ℕ) → node_of p.who ≡ Some node → IsSomeAnd (slice_get (rooms decks) node) (λ room. room ≤ vec_capacity p.numbers)
