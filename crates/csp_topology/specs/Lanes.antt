-- What a lane is: who puts into it, and who gets.
use Rattle.std.specs.Prelude.{ℕ, Option, None, Some}
use Rattle.csp_lists.specs.PlainDeck.{lane_room}
use Rattle.csp_log.specs.declared.places.Carries.{Carries}
use Rattle.csp_log.specs.declared.places.Carries.TheVariants as lane
use Rattle.csp_log.specs.declared.places.QueueId.{QueueId}
use Rattle.csp_log.specs.declared.places.QueueId.TheVariants as queue
use Rattle.csp_log.specs.declared.who.Who.{Who}
use Rattle.csp_log.specs.declared.who.Who.TheVariants as who

-- who uses a lane, and what it calls it: a link names its lanes by its ends
pub record PlainEnd : Type 0 where
  pub who : Who
  pub queue : QueueId

-- a lane: its node and its name there, what it carries, for how many items it has room, who puts, and who gets
pub record PlainLane : Type 0 where
  pub node : ℕ
  pub queue : QueueId
  pub carries : Carries
  pub room : ℕ
  pub from : PlainEnd
  pub to : PlainEnd

-- a lane of a node between these ends, with the room that its name says
abbrev pub lane_between : ℕ → QueueId → Carries → (from to : PlainEnd) → PlainLane
lane_between node q carries from to = record { node = node; queue = q; carries = carries; room = lane_room q; from = from; to = to }

-- one whose ends both call it by its name
abbrev pub lane_at : ℕ → QueueId → Carries → (from to : Who) → PlainLane
lane_at node q carries from to = lane_between node q carries (record { who = from; queue = q }) (record { who = to; queue = q })

-- the router of a node, or the bridge that stands in its place
abbrev pub leader_of : ℕ → Option ℕ → Who
leader_of node (Some addr) = who.Router node
leader_of node None = who.Bridge node

-- the lane from a node's router or bridge to an interface
abbrev pub out_lane : ℕ → Who → ℕ → PlainLane
out_lane node hub k = lane_at node (queue.Out k) lane.Out hub (who.Iface node k)
