-- what an interface is
use Rattle.std.specs.Prelude.{ℕ, ◌==◌, Option, Some, None, List, [], ◌++◌, if◌then◌else◌}
use Rattle.std.specs.Option.{option_to_list}
use Rattle.csp_arena.specs.Cells.{RegionName}
use Rattle.csp_buffer.specs.Content.{Content}
use Rattle.csp_deck.specs.Keeping.{numbers_of}
use Rattle.csp_iface.specs.Links.{receiver_for}
use Rattle.csp_iface.specs.declared.iface.TheConstants.{HUB_MTU}
use Rattle.csp_iface.specs.declared.packet.WholePacket.{WholePacket}
use Rattle.csp_iface.specs.declared.plan.IfacePlan.{IfacePlan}
use Rattle.csp_iface.specs.declared.plan.IfacePlan.TheVariants as plan
use Rattle.csp_iface.specs.declared.plan.Side.{Side}
use Rattle.csp_iface.specs.declared.plan.Side.TheVariants as side
use Rattle.csp_iface.specs.declared.receiver.Receiver.{Receiver}
use Rattle.csp_log.specs.Kinds.{carried_on}
use Rattle.csp_log.specs.declared.frame.Frame.{Frame}
use Rattle.csp_log.specs.declared.places.Carries.TheVariants as lane
use Rattle.csp_log.specs.declared.places.LinkKind.{LinkKind}
use Rattle.csp_log.specs.declared.places.LinkKind.TheVariants as link
use Rattle.csp_log.specs.declared.places.QueueId.{QueueId}
use Rattle.csp_log.specs.declared.places.QueueId.TheVariants as queue
use Rattle.csp_log.specs.declared.places.Rule.{Rule}
use Rattle.csp_log.specs.declared.places.Rule.TheVariants as rule

-- an interface: its place, what it sends, what it receives, and what its turn is
pub record PlainIface : Type 0 where
  -- its node, and its number there
  pub node : ℕ
  pub number : ℕ
  -- the kind of its link
  pub kind : LinkKind
  -- how many payload bytes a packet on it has at most
  pub mtu : ℕ
  -- on a hub the address of its node: it takes frames for that and for every node, and no other; elsewhere it takes each
  pub heeds : Option ℕ
  -- the side whose turn comes next
  pub side : Side
  -- a buffer that is to be given back
  pub back : Option Content
  -- the packet whose transmission has begun, and its frames that are left
  pub sending : Option Content
  pub frames : List Frame
  -- how many transmissions have begun
  pub serial : ℕ
  -- what it keeps of what came
  pub receiver : Receiver
  -- a whole packet that has no buffer
  pub whole : Option WholePacket
  -- an accepted packet, in its buffer
  pub accepted : Option Content
  -- what this turn is, from the operation to its answer
  pub doing : IfacePlan

-- an interface whose buffers are of this region
pub record IfaceAt : Type 0 where
  pub region : RegionName
  pub iface : PlainIface

-- the interface with this state
abbrev pub with_iface : IfaceAt → PlainIface → IfaceAt
with_iface a s = record { region = a.region; iface = s }

-- an interface at its opening: sending comes first
abbrev pub opening : (node number : ℕ) → LinkKind → (mtu : ℕ) → PlainIface
opening node number kind mtu = record {
  node = node;
  number = number;
  kind = kind;
  mtu = mtu;
  heeds = None;
  side = side.Sending;
  back = None;
  sending = None;
  frames = [];
  serial = 0;
  receiver = receiver_for kind mtu;
  whole = None;
  accepted = None;
  doing = plan.Rest;
}

-- an interface on a hub at its opening: as on a CAN bus, but it heeds this address
abbrev pub opening_on_hub : (node number addr : ℕ) → PlainIface
opening_on_hub node number addr = record (opening node number link.Can HUB_MTU) { heeds = Some addr }

-- the buffers that it holds: one to be given back, one that is sent, one accepted
abbrev pub buffers : PlainIface → List Content
buffers s = option_to_list s.back ++ (option_to_list s.sending ++ option_to_list s.accepted)

-- the numbers of the buffers that an interface holds
abbrev pub holds : PlainIface → List ℕ
holds s = numbers_of (buffers s)

-- it pushes to the inbox and the `Tx` of its number, and pops the `Out` and the `Rx`
abbrev pub uses : PlainIface → QueueId → Option Rule
uses s queue.Inbox = Some rule.Inbox
uses s (queue.Out k) = (if k == s.number then Some (rule.Lane lane.Out) else None)
uses s (queue.Tx k) = (if k == s.number then Some (rule.Lane (carried_on s.kind)) else None)
uses s (queue.Rx k) = (if k == s.number then Some (rule.Lane (carried_on s.kind)) else None)
uses s (queue.Up _) = None
uses s (queue.Down _) = None
