-- Parties of a network as they were opened.
use Rattle.std.specs.Prelude.{◌≡◌, ◌<◌, ℕ, false, Option, None, Some, List, [], map, IfSome, slice_get, vec_capacity}
use Rattle.std.specs.List.{AllByRecursion}
use Rattle.std.specs.Option.{option_and_then}
use Rattle.csp_arena.specs.Cells.{RegionName}
use Rattle.csp_deck.specs.Regions.{nowhere}
use Rattle.csp_log.specs.Who.{node_of}
use Rattle.csp_party.specs.Any.{PlainParty, plain, region_of, is_ready, count, has_ended, holds}
use Rattle.csp_topology.specs.Opening.{CanOpen, opening_of}
use Rattle.csp_topology.specs.Parties.{PlainOpening, opens}
use Rattle.csp_topology.specs.declared.opened.NewParty.{NewParty}
use Rattle.csp_topology.specs.declared.opened.NodeBuffers.{NodeBuffers}
use Rattle.csp_topology.specs.declared.opening.Opening.{Opening}

-- who a party is, and its state
abbrev pub opened_as : NewParty → PlainOpening
opened_as p = opens p.who (plain p.party)

-- a party before its first turn can be asked, has counted nothing, and holds no buffer
pub record IsNewParty (p : PlainParty) : Type 0 where
  pub ready : has_ended p ≡ false → is_ready p 0
  pub counted : count p ≡ 0
  pub holds : holds p ≡ []

-- the region of the buffers of a node, and none where there is no node
abbrev pub region_or : Option NodeBuffers → RegionName
region_or None = nowhere
region_or (Some b) = b.region.name

-- how many buffers a node has
abbrev pub count_or : Option NodeBuffers → ℕ
count_or None = 0
count_or (Some b) = b.count

-- the buffers of the node at a place, where there is one
abbrev pub buffers_at : List NodeBuffers → Option ℕ → Option NodeBuffers
buffers_at nodes home = option_and_then (slice_get nodes) home

-- a party of one of these nodes, or a link or a hub, as it was opened: its buffers are of its node's region, and it can note the numbers of just them all
pub record IsOpened (nodes : List NodeBuffers) (p : NewParty) : Type 0 where
  pub party : IsNewParty (plain p.party)
  pub region : region_of p.party ≡ region_or (buffers_at nodes (node_of p.who))
  pub unnoted : p.numbers.items ≡ []
  pub numbers : vec_capacity p.numbers ≡ count_or (buffers_at nodes (node_of p.who))

-- parties of so many nodes that can be opened
pub record AreParties (nodes : ℕ) (parties : List Opening) : Type 0 where
  pub ready : AllByRecursion CanOpen parties
  pub there : AllByRecursion (λ o. IfSome (node_of o.who) (λ node. node < nodes)) (map opening_of parties)
