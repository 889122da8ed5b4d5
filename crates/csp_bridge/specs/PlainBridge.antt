-- what a bridge is: the packet that goes on, and the one that was discarded
use Rattle.std.specs.Prelude.{ℕ, Option, Some, None, List, ◌++◌, nat_lt, if◌then◌else◌}
use Rattle.std.specs.Option.{option_to_list}
use Rattle.csp_arena.specs.Cells.{RegionName}
use Rattle.csp_bridge.specs.declared.doing.Doing.{Doing}
use Rattle.csp_bridge.specs.declared.doing.Doing.TheVariants as doing
use Rattle.csp_buffer.specs.Content.{Content}
use Rattle.csp_deck.specs.Keeping.{numbers_of}
use Rattle.csp_log.specs.declared.places.Carries.TheVariants as lane
use Rattle.csp_log.specs.declared.places.QueueId.{QueueId}
use Rattle.csp_log.specs.declared.places.QueueId.TheVariants as queue
use Rattle.csp_log.specs.declared.places.Rule.{Rule}
use Rattle.csp_log.specs.declared.places.Rule.TheVariants as rule

-- a bridge: the buffers that it holds, and what its turn is
pub record PlainBridge : Type 0 where
  -- a packet that was discarded: its buffer is to be given back
  pub trash : Option Content
  -- a packet that is to go out, and the number of the interface that it goes to
  pub out : Option Content
  pub to : ℕ
  -- what this turn is, from the operation to its answer
  pub doing : Doing

-- a bridge whose buffers are of this region
pub record BridgeAt : Type 0 where
  pub region : RegionName
  pub bridge : PlainBridge

-- the bridge with this state
abbrev pub with_bridge : BridgeAt → PlainBridge → BridgeAt
with_bridge b s = record { region = b.region; bridge = s }

-- a bridge that has heard nothing yet
abbrev pub opening : PlainBridge
opening = record { trash = None; out = None; to = 0; doing = doing.Rest }

-- the buffers that it holds
abbrev pub buffers : PlainBridge → List Content
buffers s = option_to_list s.trash ++ option_to_list s.out

-- the numbers of the buffers that a bridge holds
abbrev pub holds : PlainBridge → List ℕ
holds s = numbers_of (buffers s)

-- it pops its inbox, and pushes to the `Out` of its two interfaces
abbrev pub uses : PlainBridge → QueueId → Option Rule
uses s queue.Inbox = Some rule.Inbox
uses s (queue.Out k) = (if nat_lt k 2 then Some (rule.Lane lane.Out) else None)
uses s (queue.Up _) = None
uses s (queue.Down _) = None
uses s (queue.Tx _) = None
uses s (queue.Rx _) = None
