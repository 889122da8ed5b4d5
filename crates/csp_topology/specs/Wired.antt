-- What holds of the lanes and the parties of every scene.
use Rattle.std.specs.Prelude.{◌≡◌, ◌≢◌, ◌<◌, ◌≤◌, ◌⊎◌, ℕ, Bool, true, false, Option, None, Some, length, slice_get}
use Rattle.csp_lists.specs.PlainDeck.{IsLinkRule}
use Rattle.csp_log.specs.declared.places.Carries.{Carries}
use Rattle.csp_log.specs.declared.places.Carries.TheVariants as lane
use Rattle.csp_log.specs.declared.places.QueueId.{QueueId}
use Rattle.csp_log.specs.declared.places.QueueId.TheVariants as queue
use Rattle.csp_log.specs.declared.places.Rule.{Rule}
use Rattle.csp_log.specs.declared.places.Rule.TheVariants as rule
use Rattle.csp_log.specs.Who.{node_of}
use Rattle.csp_log.specs.declared.who.Who.{Who}
use Rattle.csp_log.specs.declared.who.Who.TheVariants as who
use Rattle.csp_scene.specs.Scene.{PlainScene, PlainNode}
use Rattle.csp_topology.specs.Lanes.{PlainEnd, PlainLane, leader_of}
use Rattle.csp_topology.specs.Parties.{PlainOpening, parties_of}
use Rattle.csp_topology.specs.Wires.{wire_at}

-- the two sides of a lane
pub data Side : Type 0 where
  putting : Side
  getting : Side

-- the end of a lane on a side
abbrev pub end_on : Side → PlainLane → PlainEnd
end_on putting l = l.from
end_on getting l = l.to

-- the scene has a party of this name
pub record Stands (scene : PlainScene) (w : Who) : Type 0 where
  pub place : ℕ
  pub party : PlainOpening
  pub at : slice_get (parties_of scene) place ≡ Some party
  pub named : party.who ≡ w

-- the lane is among those of its node
pub record IsWire (scene : PlainScene) (l : PlainLane) : Type 0 where
  pub place : ℕ
  pub at : wire_at scene l.node place ≡ Some l

-- both ends of the lane are those of parties of the scene, and of different ones
pub record Joins (scene : PlainScene) (l : PlainLane) : Type 0 where
  pub from : Stands scene l.from.who
  pub to : Stands scene l.to.who
  pub apart : l.from.who ≢ l.to.who
  pub places : from.place ≢ to.place

-- what a party takes the inbox to carry: a router, a bridge and an interface use it
abbrev pub inbox_rule : Who → Option Rule
inbox_rule (who.Router _) = Some rule.Inbox
inbox_rule (who.Bridge _) = Some rule.Inbox
inbox_rule (who.Iface _ _) = Some rule.Inbox
inbox_rule (who.App _ _) = None
inbox_rule (who.Link _) = None

-- a lane has an end that the party calls so, and carries what the party takes it to carry
pub record HasLane (scene : PlainScene) (w : Who) (q : QueueId) (r : Rule) : Type 0 where
  pub node : ℕ
  pub place : ℕ
  pub wire : PlainLane
  pub at : wire_at scene node place ≡ Some wire
  pub side : Side
  pub called : end_on side wire ≡ record { who = w; queue = q }
  pub carries : r ≡ rule.Lane wire.carries

-- it is the inbox of a party that uses one
pub record IsInbox (w : Who) (q : QueueId) (r : Rule) : Type 0 where
  pub inbox : q ≡ queue.Inbox
  pub takes : r ≡ rule.Inbox
  pub used : inbox_rule w ≡ Some rule.Inbox

-- a queue is the inbox of a party that uses one, or else there is a lane with an end that the party calls so
abbrev pub IsServed : PlainScene → Who → QueueId → Rule → Type 0
IsServed scene w q r = IsInbox w q r ⊎ HasLane scene w q r

-- a party of this node, which calls the lane by its name
pub record IsOwnEnd (node : ℕ) (l : PlainLane) (e : PlainEnd) : Type 0 where
  pub home : node_of e.who ≡ Some node
  pub called : e.queue ≡ l.queue

-- a link, and the lane carries frames
pub record IsLinkEnd (l : PlainLane) (e : PlainEnd) : Type 0 where
  pub number : ℕ
  pub link : e.who ≡ who.Link number
  pub frames : IsLinkRule l.carries

-- an end of a lane of a node
abbrev pub IsEndOf : ℕ → PlainLane → PlainEnd → Type 0
IsEndOf node l e = IsOwnEnd node l e ⊎ IsLinkEnd l e

-- a lane carries what its name says
abbrev pub IsNamedFor : QueueId → Carries → Type 0
IsNamedFor queue.Inbox carries = ⊥
IsNamedFor (queue.Up _) carries = carries ≡ lane.Up
IsNamedFor (queue.Down _) carries = carries ≡ lane.Down
IsNamedFor (queue.Out _) carries = carries ≡ lane.Out
IsNamedFor (queue.Tx _) carries = IsLinkRule carries
IsNamedFor (queue.Rx _) carries = IsLinkRule carries

-- a lane is one of this node of the scene, and so are its ends, but for those of links
pub record StaysHome (scene : PlainScene) (node : ℕ) (l : PlainLane) : Type 0 where
  pub low : node < length scene.nodes
  pub home : l.node ≡ node
  pub named : IsNamedFor l.queue l.carries
  pub from : IsEndOf node l l.from
  pub to : IsEndOf node l l.to

-- whether a party is a router or a bridge
abbrev pub is_leader : Who → Bool
is_leader (who.Router _) = true
is_leader (who.Bridge _) = true
is_leader (who.Iface _ _) = false
is_leader (who.App _ _) = false
is_leader (who.Link _) = false

-- the router or bridge of a party's node stands before the party, where it is not the party itself; and no other party of the node is one
pub record IsLed (scene : PlainScene) (node j : ℕ) (w : Who) : Type 0 where
  pub n : PlainNode
  pub there : slice_get scene.nodes node ≡ Some n
  pub hub : Stands scene (leader_of node n.addr)
  pub first : hub.place ≤ j
  pub same : hub.place ≡ j → w ≡ leader_of node n.addr
  pub only : w ≡ leader_of node n.addr → hub.place ≡ j
  pub alone : is_leader w ≡ true → hub.place ≡ j
