-- Parties that have nothing of the queues in hand yet.
use Rattle.std.specs.Global.{Vec}
use Rattle.std.specs.List.{AllByRecursion}
use Rattle.std.specs.Prelude.{◌≡◌, ℕ, Option, None, Some, List, [], length, map, slice_get, vec_capacity}
use Rattle.csp_arena.specs.Cells.{RegionName}
use Rattle.csp_deck.specs.Regions.{nowhere}
use Rattle.csp_opening.specs.Opened.{region_in}
use Rattle.csp_opening.specs.declared.nodes.Node.{Node}
use Rattle.csp_opening.specs.declared.unposted.Unposted.{Unposted}
use Rattle.csp_party.specs.Any.{plain, region_of}
use Rattle.csp_log.specs.Who.{node_of}
use Rattle.csp_topology.specs.Opened.{IsNewParty}
use Rattle.csp_topology.specs.Opening.{opening_of}
use Rattle.csp_topology.specs.Parties.{PlainOpening}
use Rattle.csp_topology.specs.declared.opened.NewParty.{NewParty}
use Rattle.csp_topology.specs.declared.opened.NodeBuffers.{NodeBuffers}
use Rattle.csp_topology.specs.declared.opening.Opening.{Opening}

-- who a party is, and its state
abbrev pub unposted_name : Unposted → PlainOpening
unposted_name s = record { who = s.who; party = plain s.party }

-- the party as it was opened
abbrev pub as_opened : Unposted → NewParty
as_opened s = record { who = s.who; party = s.party; numbers = s.numbers }

-- these are the buffers of those nodes: the region of each, and how many there are
pub record AreBuffersIn (nodes : List Node) (all : List NodeBuffers) : Type 0 where
  pub regions : map (λ b. b.region.name) all ≡ map region_in nodes
  pub counts : map (λ b. b.count) all ≡ map (λ x. x.base.pool.capacity) nodes

-- the region of the buffers of a node
abbrev pub region_or : Option Node → RegionName
region_or None = nowhere
region_or (Some x) = region_in x

-- how many buffers a node has
abbrev pub count_or : Option Node → ℕ
count_or None = 0
count_or (Some x) = x.base.pool.capacity

-- the region of the buffers of the node at a place
abbrev pub region_at : List Node → Option ℕ → RegionName
region_at nodes None = nowhere
region_at nodes (Some k) = region_or (slice_get nodes k)

-- how many buffers it has
abbrev pub count_at : List Node → Option ℕ → ℕ
count_at nodes None = 0
count_at nodes (Some k) = count_or (slice_get nodes k)

-- a party of one of these nodes, or a link or a hub, as it was opened: its buffers are of its node's region, and it can note the numbers of just them all
pub record IsUnposted (nodes : List Node) (s : Unposted) : Type 0 where
  pub party : IsNewParty (plain s.party)
  pub region : region_of s.party ≡ region_at nodes (node_of s.who)
  pub unnoted : s.numbers.items ≡ []
  pub numbers : vec_capacity s.numbers ≡ count_at nodes (node_of s.who)

-- the parties of these openings, each of its node, in a list with just the room for them
pub record AreUnposted (nodes : List Node) (openings : List Opening) (unposted : Vec Unposted) : Type 0 where
  pub names : map unposted_name unposted.items ≡ map opening_of openings
  pub each : AllByRecursion (IsUnposted nodes) unposted.items
  pub room : vec_capacity unposted ≡ length openings
