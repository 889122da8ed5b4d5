-- What a party of a threaded run has in hand: its passes of the queues that threads share.
use Rattle.std.specs.Prelude.{◌≡◌, ℕ, Bool, true, false, Option, None, Some, List, IfSome, IsSomeAnd, slice_get}
use Rattle.std.specs.List.{AllByRecursion, find}
use Rattle.std.specs.Option.{option_map}
use Rattle.csp_arena.specs.Cells.{RegionName}
use Rattle.csp_consistent.specs.Reading.{is_queue}
use Rattle.csp_deck.specs.Regions.{nowhere}
pub use Rattle.csp_ends.specs.Sides.{PlainSide}
use Rattle.csp_ends.specs.Sides.{IsBacked}
use Rattle.csp_inbox.specs.Passes as inbox
use Rattle.csp_lane.specs.Ends.{PlainLane, IsEndOf}
use Rattle.csp_lists.specs.PlainDeck.{IsLinkRule}
use Rattle.csp_log.specs.declared.places.QueueId.{QueueId}
use Rattle.csp_log.specs.declared.places.QueueId.TheVariants as queue
use Rattle.csp_log.specs.declared.places.Rule.{Rule}
use Rattle.csp_log.specs.declared.places.Rule.TheVariants as rule
use Rattle.csp_pool.specs.PlainPool as pool

-- the queues of a node: its pool, its inbox, and its lanes
pub record PlainNodeQueues : Type 0 where
  pub pool : pool.PlainPool
  pub inbox : inbox.PlainInbox
  pub lanes : List PlainLane

-- a party's passes of its own node: which node that is, its pass of the pool, and, of a router, a bridge or an interface, its pass of the inbox
pub record PlainHome : Type 0 where
  pub node : ℕ
  pub pool : pool.PlainPass
  pub inbox : Option inbox.PlainPass

-- all that a party has in hand: a link has no home
pub record PlainEnds : Type 0 where
  pub home : Option PlainHome
  pub sides : List PlainSide

-- the region of the buffers that go through a party's hands: a link has none
abbrev pub region_or : Option PlainHome → RegionName
region_or None = nowhere
region_or (Some h) = h.pool.hand.region

-- the region of all buffers that these hands may have
abbrev pub region_of : PlainEnds → RegionName
region_of e = region_or e.home

-- the pass of the inbox, where the party has one
abbrev pub inbox_of : Option PlainHome → Option inbox.PlainPass
inbox_of None = None
inbox_of (Some h) = h.inbox

-- the end that a party calls by this name
abbrev pub side_named : QueueId → List PlainSide → Option PlainSide
side_named q sides = find (λ s. is_queue q s.queue) sides

-- what the queue of a name carries, where the party has such a queue
abbrev pub rule_of : PlainEnds → QueueId → Option Rule
rule_of e queue.Inbox = option_map (λ _. rule.Inbox) (inbox_of e.home)
rule_of e q = option_map (λ s. rule.Lane s.end.carries) (side_named q e.sides)

-- the passes of a home are of the queues of its node
abbrev pub IsHomeOf : List PlainNodeQueues → PlainHome → Type 0
IsHomeOf nodes h = IsSomeAnd (slice_get nodes h.node) (λ q. pool.IsPassOf q.pool h.pool × IfSome h.inbox (inbox.IsPassOf q.inbox))

-- an end is of that lane of that node
abbrev pub IsSideOf : List PlainNodeQueues → PlainSide → Type 0
IsSideOf nodes s = IsSomeAnd (slice_get nodes s.node) (λ q. IsSomeAnd (slice_get q.lanes s.lane) (λ l. IsEndOf l s.end))

-- all that a party has in hand is of the queues of these nodes
pub record AreOf (nodes : List PlainNodeQueues) (e : PlainEnds) : Type 0 where
  pub home : IfSome e.home (IsHomeOf nodes)
  pub sides : AllByRecursion (IsSideOf nodes) e.sides

-- what goes through an end has no buffers, or buffers of this region
abbrev pub IsWithin : RegionName → PlainSide → Type 0
IsWithin region s = (IsLinkRule s.end.carries → ⊥) → s.end.region ≡ region

-- no two ends of a party have one name
abbrev pub AreApart : List PlainSide → Type 0
AreApart sides = (a b : ℕ) (s t : PlainSide) → slice_get sides a ≡ Some s → slice_get sides b ≡ Some t → is_queue s.queue t.queue ≡ true → a ≡ b

-- what is true of every party's ends: all buffers that go through them are of one region; each end is called by the name of a lane, no two by one; and
-- the marks of each tell of the party's end of that other lane, where there is one
pub record AreEnds (e : PlainEnds) : Type 0 where
  pub within : AllByRecursion (IsWithin (region_of e)) e.sides
  pub inbox : IfSome (inbox_of e.home) (λ p. p.role.token.name ≡ region_of e)
  pub lanes : AllByRecursion (λ s. is_queue queue.Inbox s.queue ≡ false) e.sides
  pub apart : AreApart e.sides
  pub backed : AllByRecursion (IsBacked e.sides) e.sides
