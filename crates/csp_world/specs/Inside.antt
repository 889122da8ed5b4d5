-- The world that the fields of the program's world are, and what is true of them.
use Rattle.std.specs.Prelude.{ℕ, ◌≡◌, ◌+◌, ◌*◌, ◌<◌, ◌≤◌, ◌^◌, ⊤, List, [], Some, false, length, map, slice_get, IsSomeAnd, vec_capacity}
use Rattle.csp_lists.specs.PlainDeck.{PlainDeck}
use Rattle.csp_log.specs.declared.places.End.{End}
use Rattle.csp_log.specs.declared.places.QueueId.{QueueId}
use Rattle.csp_log.specs.declared.places.Rule.{Rule}
use Rattle.csp_nodes.specs.DecksAt.{DecksAt}
use Rattle.csp_nodes.specs.Gathering.{queue_count}
use Rattle.csp_nodes.specs.Serving.{rule_in}
use Rattle.csp_party.specs.Any.{PlainParty, a_router, a_bridge, an_iface, an_app, a_link, a_hub, plain, region_of, is_ready, count, needs, uses, has_ended, holds}
use Rattle.csp_log.specs.Who.{node_of}
use Rattle.csp_log.specs.declared.who.Who.{Who}
use Rattle.csp_log.specs.declared.who.Who.TheVariants as who
use Rattle.csp_topology.specs.Parties.{PlainOpening}
use Rattle.csp_topology.specs.declared.topology.TheConstants.{MAX_PARTIES}
use Rattle.csp_world.specs.Holders.{IsConserved}
use Rattle.csp_world.specs.Seen.{plain_member}
use Rattle.csp_world.specs.SeenWorld.{SeenWorld}
use Rattle.csp_world.specs.World.{PlainWorld}
use Rattle.csp_world.specs.declared.member.Member.{Member}
use Rattle.csp_world.specs.declared.room.Room.{Room}
use Rattle.csp_world.specs.declared.world.World.TheInside.{Inside}

-- the world of these lists and parties
abbrev pub world_of : DecksAt → List Member → ℕ → PlainWorld
world_of d members time = record { decks = d.decks; links = d.links; members = map plain_member members; time = time }

-- the world that the fields of the program's world are
abbrev pub seen_world : Inside → SeenWorld
seen_world w = record { plain = world_of w.decks w.members.items w.time; spares = map (λ m. m.log.spare) w.members.items; regions = w.decks.regions }

-- how many buffers each node has
abbrev pub rooms : List PlainDeck → List ℕ
rooms decks = map (λ d. d.pool.room) decks

-- a party that may be called a link: a link or a hub
abbrev pub IsLink : PlainParty → Type 0
IsLink (a_router _) = ⊥
IsLink (a_bridge _) = ⊥
IsLink (an_iface _) = ⊥
IsLink (an_app _) = ⊥
IsLink (a_link _) = ⊤
IsLink (a_hub _) = ⊤

-- who is called a link is a link or a hub
abbrev pub IsCalled : Who → PlainParty → Type 0
IsCalled (who.Link _) p = IsLink p
IsCalled (who.Router _) p = ⊤
IsCalled (who.Bridge _) p = ⊤
IsCalled (who.Iface _ _) p = ⊤
IsCalled (who.App _ _) p = ⊤

-- a party can take its turns over these lists from this time on: it is ready, its log counts what its turns raise, the
-- lists have the queues that it uses, its buffers are to be of its node's region, there is room for the numbers that it
-- holds at the end, and its stock has the boxes for as many turns as its log has room for
pub record IsFit (d : DecksAt) (time : ℕ) (m : Member) : Type 0 where
  pub ready : (later : ℕ) → time ≤ later → later < 2 ^ 62 → has_ended (plain m.party) ≡ false → is_ready (plain m.party) later
  pub counted : count (plain m.party) ≤ length m.log.entries
  pub served : (q : QueueId) (r : Rule) → uses (plain m.party) q ≡ Some r → rule_in d.decks d.links m.who q ≡ Some r
  pub called : IsCalled m.who (plain m.party)
  pub home : (node : ℕ) → node_of m.who ≡ Some node → slice_get d.regions node ≡ Some (region_of m.party)
  pub unnoted : m.numbers.items ≡ []
  pub room : (node : ℕ) → node_of m.who ≡ Some node → IsSomeAnd (slice_get (rooms d.decks) node) (λ room. room ≤ vec_capacity m.numbers)
  pub stock : needs (plain m.party) * m.log.spare ≤ m.spares.boxes

-- a party can take its first turn over these lists at any time, and holds nothing
pub record IsNew (decks : List PlainDeck) (links : List (List End)) (o : PlainOpening) : Type 0 where
  pub ready : (later : ℕ) → later < 2 ^ 62 → has_ended o.party ≡ false → is_ready o.party later
  pub counted : count o.party ≡ 0
  pub served : (q : QueueId) (r : Rule) → uses o.party q ≡ Some r → rule_in decks links o.who q ≡ Some r
  pub called : IsCalled o.who o.party
  pub holds : holds o.party ≡ []
  pub home : (node : ℕ) → node_of o.who ≡ Some node → node < length decks

-- each party is fit for its turns
abbrev pub AllFit : DecksAt → ℕ → List Member → Type 0
AllFit d time members = (place : ℕ) (m : Member) → slice_get members place ≡ Some m → IsFit d time m

-- there is room for the record, and for what is left of the nodes once their queues are emptied
pub record HasRoom (decks : List PlainDeck) (members : ℕ) (r : Room) : Type 0 where
  pub no_logs : r.logs.items ≡ []
  pub logs : members ≤ vec_capacity r.logs
  pub no_left : r.left.items ≡ []
  pub left : queue_count decks ≤ vec_capacity r.left
  pub no_held : r.held.items ≡ []
  pub held : queue_count decks + members + length decks ≤ vec_capacity r.held
  pub no_emptied : r.emptied.items ≡ []
  pub emptied : length decks ≤ vec_capacity r.emptied
  pub counted : r.queues ≡ queue_count decks

-- what is true of a world at every time
pub record IsWorld (w : Inside) : Type 0 where
  pub fit : AllFit w.decks w.time w.members.items
  pub conserved : IsConserved (world_of w.decks w.members.items w.time)
  pub room : HasRoom w.decks.decks (length w.members.items) w.room
  pub early : w.time < 2 ^ 62
  pub few_decks : length w.decks.decks ≤ 255
  pub few_members : length w.members.items ≤ MAX_PARTIES
