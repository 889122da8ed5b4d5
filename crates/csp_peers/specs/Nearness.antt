-- How near a reliable connection stands to its peer: what bounds the indices that it shows, with whom it may be, and how far it has come in its
-- peer's flow. Indices less than half of all numbers apart show each other, so that no packet of such a flow is stale.
use Rattle.std.specs.Prelude.{◌≡◌, ◌≤◌, ◌<◌, ◌+◌, ℕ, None, Some, length, All, ⊤}
use Rattle.std.specs.Option.{option_to_list}
use Rattle.csp_base.specs.declared.seat.Seat.{Seat}
use Rattle.csp_base.specs.declared.traces.Tag.{Tag}
use Rattle.csp_conn.specs.declared.slot.Connection.{Connection}
use Rattle.csp_ports.specs.declared.flows.OwnFlows.{OwnFlows}
use Rattle.csp_rdp.specs.Jobs.{says}
use Rattle.csp_rdp.specs.Machine.{flow_of, una_of}
use Rattle.csp_rdp.specs.declared.answers.State.{State}
use Rattle.csp_rdp.specs.declared.answers.State.TheVariants.{Closed, CloseWait, Open, SynRcvd, SynSent}
use Rattle.csp_rdp.specs.declared.jobs.Job.{Job}
use Rattle.csp_prefix.specs.Flows.{Flows, IsTrueOf}
use Rattle.csp_prefix.specs.Machines.{IsReceiver, IsSender}
use Rattle.csp_prefix.specs.Slots.{Coming, Now, Numbering}

-- half of all numbers of sixteen bits: two indices less than that apart are not far
abbrev pub half : ℕ
half = 32768

-- ---- the sender

-- the packets of a connection fit into a header: the other node's address is below a bound, and its ports and flags are in range
pub record IsAddressable (top : ℕ) (c : Connection) (bits : ℕ) : Type 0 where
  pub peer : c.peer < top
  pub peer_port : c.peer_port < 64
  pub own_port : c.own_port < 64
  pub flags : bits < 256

-- what bounds a connection's own indices: una is at most the next one, which every packet in the window is below; and no more was admitted than the
-- log tells as sent, less what waits
pub record IsBounded (top : ℕ) (o : OwnFlows) (n : Now) : Type 0 where
  pub node : n.machine.node ≡ o.node
  pub order : n.machine.send.una ≤ n.machine.send.nxt
  pub below : All (λ p. p.index < n.machine.send.nxt) n.machine.send.packets
  pub admitted : length (option_to_list n.waits) + n.machine.send.nxt ≤ length n.book.sent + 1
  pub addressable : IsAddressable top n.connection n.flags

-- what is known of a reliable connection as one that makes packets
abbrev pub IsMaker : (top : ℕ) → OwnFlows → Numbering → Seat → Now → Type 0
IsMaker top o m seat n = IsSender o m seat n × IsBounded top o n

-- whatever packets are handed to the connections of a node, each one that opens a connection and each connection that is asked for is such
abbrev pub addressable : (top : ℕ) → Coming
addressable top = record { fed = λ c r h tag bytes. ⊤; invites = λ c flags h tag. IsAddressable top c flags; asked = λ c flags. IsAddressable top c flags }

-- the indices of a packet that a connection makes: its own is at most the next one, and so is the least that is unacknowledged; the one that it
-- acknowledges was delivered
pub record SaysNear (n : Now) (time : ℕ) (j : Job) : Type 0 where
  pub index : (says j time n.machine).index ≤ n.machine.send.nxt
  pub ack : (says j time n.machine).ack ≤ n.machine.recv.cur
  pub una : una_of n.machine ≤ n.machine.send.nxt

-- ---- the receiver

-- where such a relation says which flows a connection may have as its peer: at most one
abbrev pub HasOnePeer : (Connection → ℕ × ℕ → Type 0) → Type 0
HasOnePeer R = (c : Connection) (a b : ℕ × ℕ) → R c a → R c b → a ≡ b

-- no flow has said so much that its indices are far from its first
abbrev pub AreShort : Flows → Type 0
AreShort flows = (flow : ℕ × ℕ) → length (flows.said flow) < half

-- a connection without a peer is in one of these states: it was asked for and is not answered yet, or it is over
abbrev pub IsAlone : State → Type 0
IsAlone SynSent = ⊤
IsAlone SynRcvd = ⊥
IsAlone Open = ⊥
IsAlone CloseWait = ⊤
IsAlone Closed = ⊤

-- the peer of a connection, where it has one, is the right one, and no more of its flow was delivered than was said; and without a peer nothing was
-- delivered
pub record IsPeered (flows : Flows) (R : Connection → ℕ × ℕ → Type 0) (n : Now) : Type 0 where
  pub right : (flow : ℕ × ℕ) → n.machine.peer ≡ Some flow → R n.connection flow
  pub near : (flow : ℕ × ℕ) → n.machine.peer ≡ Some flow → n.machine.recv.cur ≤ length (flows.said flow)
  pub fresh : n.machine.peer ≡ None → n.machine.recv.cur ≡ 0
  pub alone : n.machine.peer ≡ None → IsAlone n.machine.state

-- what is known of a reliable connection as one that hears packets
abbrev pub IsHearer : Flows → (Connection → ℕ × ℕ → Type 0) → Numbering → Seat → Now → Type 0
IsHearer flows R m seat n = IsReceiver flows m seat n × IsPeered flows R n

-- a packet with a tag of the right flow comes to each connection, whose index is bounded; and one that opens a connection is of the right flow, and
-- shows its start
abbrev pub of_peers : Flows → (Connection → ℕ × ℕ → Type 0) → (bound : ℕ) → Coming
of_peers flows R bound = record {
  fed = λ c r h tag bytes. (t : Tag) × (tag ≡ Some t) × IsTrueOf flows t h bytes × R c (flow_of t) × (t.index ≤ bound);
  invites = λ c flags h tag. (t : Tag) × (tag ≡ Some t) × (h.seq.0 ≡ flows.start (flow_of t)) × R c (flow_of t);
  asked = λ c flags. ⊤;
}
