-- What is known of a reliable connection that sends, and of one that receives; and what follows for its packets and its deliveries.
use Rattle.std.specs.Prelude.{◌≡◌, ◌≤◌, ℕ, pos, ◌<◌, ◌+◌, true, false, Option, None, Some, List, [], ◌++◌, length, take, All, ⊤}
use Rattle.std.specs.Option.{option_to_list}
use Rattle.csp_base.specs.Sequence.{number_of}
use Rattle.csp_base.specs.declared.seat.Seat.{Seat}
use Rattle.csp_base.specs.declared.traces.Tag.{Tag}
use Rattle.csp_ports.specs.PlainPorts.{start_of}
use Rattle.csp_ports.specs.declared.flows.OwnFlows.{OwnFlows}
use Rattle.csp_rdp.specs.Jobs.{head_for, job_of, says}
use Rattle.csp_rdp.specs.Machine.{PlainRdp, flow_of}
use Rattle.csp_rdp.specs.declared.answers.State.{State}
use Rattle.csp_rdp.specs.declared.answers.State.TheVariants.{Closed, CloseWait, Open, SynRcvd, SynSent}
use Rattle.csp_rdp.specs.declared.jobs.Job.{Job}
use Rattle.csp_rdp_header.specs.Head.{has_flag}
use Rattle.csp_rdp_header.specs.declared.head.RdpHead.{RdpHead}
use Rattle.csp_rdp_header.specs.declared.head.TheConstants.{SYN}
use Rattle.csp_record.specs.Stale.{is_far}
use Rattle.csp_prefix.specs.Flows.{Flows, IsSaid, IsTrueOf, is_data}
use Rattle.csp_prefix.specs.Prefix.{IsBeginning}
use Rattle.csp_prefix.specs.Slots.{Coming, Now, Numbering, blank}

-- ---- what comes to a connection

-- whatever comes
abbrev pub whatever : Coming
whatever = record { fed = λ c r h tag bytes. ⊤; invites = λ c flags h tag. ⊤; asked = λ c flags. ⊤ }

-- what of packets is handed to a connection: what they say is true of the flow that their tag names; and a connection with a peer gets
-- packets of its peer's flow, not far from where it stands
pub record IsFed (flows : Flows) (r : PlainRdp) (h : RdpHead) (tag : Option Tag) (bytes : List ℕ) : Type 0 where
  pub genuine : (t : Tag) → tag ≡ Some t → IsTrueOf flows t h bytes
  pub peer : (flow : ℕ × ℕ) → r.peer ≡ Some flow → (t : Tag) × (tag ≡ Some t) × (flow_of t ≡ flow) × (is_far t.index r.recv.cur ≡ false)

-- a packet that opens a connection shows the start of the flow in its tag
abbrev pub IsInvited : Flows → RdpHead → Option Tag → Type 0
IsInvited flows h tag = (t : Tag) → tag ≡ Some t → h.seq.0 ≡ flows.start (flow_of t)

-- such packets come to a connection and open one
abbrev pub true_packets : Flows → Coming
true_packets flows = record { fed = λ c. IsFed flows; invites = λ c flags. IsInvited flows; asked = λ c flags. ⊤ }

-- ---- numbers of a connection that is open or to be opened: its own start, and the place at which it was made
-- a machine has its own number, with the start and the slot that belong to it
pub record IsNumbered (o : OwnFlows) (m : Numbering) (seat : Seat) (n : Now) : Type 0 where
  pub node : n.machine.node ≡ o.node
  pub start : n.machine.send.start ≡ start_of o.seed n.machine.nth
  pub made : n.machine.nth < m.made
  pub home : m.home n.machine.nth ≡ (seat, n.ordinal)

-- an opening of a reliable connection has its number, made at this place
pub record IsOpeningOf (m : Numbering) (seat : Seat) (ordinal nth : ℕ) : Type 0 where
  pub made : nth < m.made
  pub home : m.home nth ≡ (seat, ordinal)

-- what was sent on an open connection was admitted, but for the payload that waits; and its window has each payload at its index
pub record IsSending (n : Now) : Type 0 where
  pub admitted : List (List ℕ)
  pub sent : n.book.sent ≡ admitted ++ option_to_list n.waits
  pub next : n.machine.send.nxt ≡ length admitted + 1
  pub said : All (λ p. IsSaid n.book.sent p.index p.buffer.picture.payload) n.machine.send.packets

-- nothing was told of a connection that never was open
pub record IsUntold (n : Now) : Type 0 where
  pub book : n.book ≡ blank
  pub waits : n.waits ≡ None

-- how a connection that was open became so
pub record WasOpened (m : Numbering) (seat : Seat) (n : Now) : Type 0 where
  pub opened : n.book.opened ≡ Some (Some n.machine.nth, n.machine.peer)
  pub numbered : IsOpeningOf m seat n.ordinal n.machine.nth

-- one that is over: it was open, or never
abbrev pub IsOver : Numbering → Seat → Now → Type 0
IsOver m seat n = (n.machine.was_open ≡ true → WasOpened m seat n) × (n.machine.was_open ≡ false → IsUntold n)

-- a window that nothing was admitted to
pub record HasSentNothing (n : Now) : Type 0 where
  pub next : n.machine.send.nxt ≡ 1
  pub packets : n.machine.send.packets ≡ []

-- the sender, by state
abbrev pub SendsIn : State → OwnFlows → Numbering → Seat → Now → Type 0
SendsIn SynSent o m seat n = IsNumbered o m seat n × IsUntold n × HasSentNothing n × (n.machine.was_open ≡ false)
SendsIn SynRcvd o m seat n = IsNumbered o m seat n × IsUntold n × HasSentNothing n × (n.machine.was_open ≡ false)
SendsIn Open o m seat n = IsNumbered o m seat n × WasOpened m seat n × IsSending n × (n.machine.was_open ≡ true)
SendsIn CloseWait o m seat n = IsOver m seat n
SendsIn Closed o m seat n = IsOver m seat n

-- what is known of a reliable connection as a sender
abbrev pub IsSender : OwnFlows → Numbering → Seat → Now → Type 0
IsSender o m seat n = SendsIn n.machine.state o m seat n

-- what such a connection says in a packet is true: an opening packet shows the start; a payload stands at its index in what was sent, on a
-- connection that became open with this number, made here
pub record SaysTrue (o : OwnFlows) (m : Numbering) (seat : Seat) (n : Now) (time : ℕ) (j : Job) : Type 0 where
  pub syn : has_flag (head_for (says j time n.machine) n.machine) SYN ≡ true
      → (n.machine.node ≡ o.node) × ((head_for (says j time n.machine) n.machine).seq.0 ≡ start_of o.seed n.machine.nth)
  pub carries : is_data (head_for (says j time n.machine) n.machine) (says j time n.machine).bytes ≡ true
      → (n.machine.node ≡ o.node)
      × ((head_for (says j time n.machine) n.machine).seq.0 ≡ number_of (start_of o.seed n.machine.nth) (pos (says j time n.machine).index))
      × IsSaid n.book.sent (says j time n.machine).index (says j time n.machine).bytes
      × WasOpened m seat n

-- what a connection makes while that is known is filled as it says
abbrev pub MakesTrue : (Numbering → Seat → Now → Type 0) → OwnFlows → Type 0
MakesTrue Is o = (m : Numbering) (seat : Seat) (n : Now) (time : ℕ) (j : Job) → Is m seat n → job_of time n.machine ≡ Some j → SaysTrue o m seat n time j

-- where an opening is told, it is that of a connection with this number, made here
abbrev pub OpensNumbered : (Numbering → Seat → Now → Type 0) → Type 0
OpensNumbered Is = (m : Numbering) (seat : Seat) (n : Now) (nth : ℕ) (peer : Option (ℕ × ℕ)) → Is m seat n → n.book.opened ≡ Some (Some nth, peer) → IsOpeningOf m seat n.ordinal nth

-- ---- the receiver

-- the start of the peer's flow is where the receive window begins
abbrev pub HasPeersStart : Flows → PlainRdp → Type 0
HasPeersStart flows r = (flow : ℕ × ℕ) → r.peer ≡ Some flow → r.recv.start ≡ flows.start flow

-- before it is open nothing is kept, and nothing was delivered
pub record HasReceivedNothing (n : Now) : Type 0 where
  pub cur : n.machine.recv.cur ≡ 0
  pub kept : n.machine.recv.kept ≡ []

-- where there is a peer, each packet kept has the payload of its index in the peer's flow, and the first of these were delivered, as many as were
-- counted
pub record IsReceiving (flows : Flows) (n : Now) (flow : ℕ × ℕ) : Type 0 where
  pub kept : All (λ k. IsSaid (flows.said flow) k.index k.buffer.picture.payload) n.machine.recv.kept
  pub down : n.book.down ≡ take n.machine.recv.cur (flows.said flow)
  pub far : n.machine.recv.cur ≤ length (flows.said flow)

-- how it became open, if it did
abbrev pub IsToldSo : Now → Type 0
IsToldSo n = (n.machine.was_open ≡ true → n.book.opened ≡ Some (Some n.machine.nth, n.machine.peer)) × (n.machine.was_open ≡ false → IsUntold n)

-- what was delivered is a beginning of what the peer's flow said
abbrev pub HasDelivered : Flows → Now → Type 0
HasDelivered flows n = (flow : ℕ × ℕ) → n.machine.peer ≡ Some flow → IsBeginning n.book.down (flows.said flow)

-- by state
abbrev pub ReceivesIn : State → Flows → Now → Type 0
ReceivesIn SynSent flows n = IsUntold n × HasReceivedNothing n × (n.machine.was_open ≡ false) × (n.machine.peer ≡ None)
ReceivesIn SynRcvd flows n = IsUntold n × HasReceivedNothing n × (n.machine.was_open ≡ false) × HasPeersStart flows n.machine
ReceivesIn Open flows n = IsToldSo n × (n.machine.was_open ≡ true) × HasPeersStart flows n.machine × ((flow : ℕ × ℕ) → n.machine.peer ≡ Some flow → IsReceiving flows n flow)
ReceivesIn CloseWait flows n = IsToldSo n × (n.machine.was_open ≡ true → HasDelivered flows n)
ReceivesIn Closed flows n = IsToldSo n × (n.machine.was_open ≡ true → HasDelivered flows n)

-- what is known of a reliable connection as a receiver
abbrev pub IsReceiver : Flows → Numbering → Seat → Now → Type 0
IsReceiver flows m seat n = ReceivesIn n.machine.state flows n

-- what was delivered is a beginning of the peer's flow
abbrev pub Receives : (Numbering → Seat → Now → Type 0) → Flows → Type 0
Receives Is flows = (m : Numbering) (seat : Seat) (n : Now) (nth : ℕ) (flow : ℕ × ℕ) → Is m seat n → n.book.opened ≡ Some (Some nth, Some flow) → IsBeginning n.book.down (flows.said flow)
