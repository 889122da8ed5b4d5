-- What is light: packets and frames so short that no entry weighs more than one for them, also where it shows them twice.
use Rattle.std.specs.Prelude.{◌≡◌, ◌+◌, ◌≤◌, All, IfSome, List, Option, Some, length, map, slice_get, ℕ, ⊤}
use Rattle.csp_app.specs.Making.{batch_of}
use Rattle.csp_app.specs.PlainApp.{PlainApp}
use Rattle.csp_app.specs.PlainStep.{PlainStep}
use Rattle.csp_buffer.specs.Content.{Content}
use Rattle.csp_iface.specs.PlainIface.{PlainIface}
use Rattle.csp_iface.specs.declared.receiver.Receiver.TheVariants as by
use Rattle.csp_iface.specs.declared.receiver.Receiver.{Receiver}
use Rattle.csp_link.specs.PlainLink.{PlainDirection, PlainLink}
use Rattle.csp_lists.specs.Order.{places_in}
use Rattle.csp_lists.specs.PlainDeck.{PlainDeck, PlainQueue}
use Rattle.csp_log.specs.Weights.{item_bytes}
use Rattle.csp_log.specs.declared.frame.Frame.{Frame}
use Rattle.csp_log.specs.declared.places.Place.TheVariants as place
use Rattle.csp_log.specs.declared.places.Place.{Place}
use Rattle.csp_log.specs.declared.places.QueueId.TheVariants as queue
use Rattle.csp_log.specs.declared.places.QueueId.{QueueId}
use Rattle.csp_log.specs.declared.shown.AnswerShown.TheVariants as answer
use Rattle.csp_log.specs.declared.shown.AnswerShown.{AnswerShown}
use Rattle.csp_log.specs.declared.shown.OpShown.TheVariants as op
use Rattle.csp_log.specs.declared.shown.OpShown.{OpShown}
use Rattle.csp_party.specs.Any.{PlainParty, a_bridge, a_hub, a_link, a_router, an_app, an_iface}
use Rattle.csp_ports.specs.PlainPorts.{PlainPorts, machine_in}
use Rattle.csp_ports.specs.declared.terms.SlotState.{SlotState}
use Rattle.csp_rdp.specs.Balance.{IsWhole}
use Rattle.csp_rdp.specs.Machine.{PlainRdp}
use Rattle.csp_rdp_window.specs.Receiving.{Kept}
use Rattle.csp_service.specs.declared.stats.Stats.{Stats}
use Rattle.csp_stack.specs.Router.{Facts, Leaving, Router, State}

-- ---- packets and frames

-- a packet is light: twice its payload is less than what makes an entry weigh more than one
abbrev pub IsLight : Content → Type 0
IsLight b = length b.payload ≤ 531

-- the same of a frame
abbrev pub IsLightFrame : Frame → Type 0
IsLightFrame frame = length frame.bytes.items ≤ 531

-- a packet of an application: it stays light with a head of the reliable transport and a checksum behind it
abbrev pub IsData : Content → Type 0
IsData b = length b.payload ≤ 522

-- how many bytes the items of a queue have at most: those from an application are its data
abbrev pub room_of : QueueId → ℕ
room_of queue.Inbox = 531
room_of (queue.Up _) = 522
room_of (queue.Down _) = 531
room_of (queue.Out _) = 531
room_of (queue.Tx _) = 531
room_of (queue.Rx _) = 531

-- an operation hands over nothing that is not light
abbrev pub IsLightOp : OpShown → Type 0
IsLightOp op.Nothing = ⊤
IsLightOp op.Take = ⊤
IsLightOp (op.Give b) = IsLight b
IsLightOp (op.Push q i) = item_bytes i ≤ room_of q
IsLightOp (op.Pop q) = ⊤

-- an answer to an operation brings nothing that is not
abbrev pub IsLightAnswer : OpShown → AnswerShown → Type 0
IsLightAnswer op.Nothing answer.Nothing = ⊤
IsLightAnswer op.Take (answer.Taken b) = IsLight b
IsLightAnswer op.Take answer.NoBuffer = ⊤
IsLightAnswer (op.Give _) answer.Given = ⊤
IsLightAnswer (op.Give _) (answer.PoolFull b) = IsLight b
IsLightAnswer (op.Push q _) answer.Pushed = ⊤
IsLightAnswer (op.Push q _) (answer.Full i) = item_bytes i ≤ room_of q
IsLightAnswer (op.Pop q) (answer.Popped i) = item_bytes i ≤ room_of q
IsLightAnswer (op.Pop q) answer.Empty = ⊤
IsLightAnswer _ _ = ⊥

-- ---- the lists of a node

-- how many bytes the items at a place have at most
abbrev pub room_at : Place → ℕ
room_at (place.Lane q) = room_of q
room_at _ = 531

-- each item of a queue is as short as those of its place
abbrev pub IsLightQueue : PlainQueue → Type 0
IsLightQueue q = All (λ i. item_bytes i ≤ room_at q.place) q.items

-- a node's buffers and items are light, and each queue stands at its place
pub record IsLightDeck (d : PlainDeck) : Type 0 where
  pub pool : All IsLight d.pool.items
  pub queues : All IsLightQueue d.queues
  pub order : (at : ℕ) (p : Place) → slice_get (map (λ q. q.place) d.queues) at ≡ Some p → slice_get (places_in d.shape) at ≡ Some p

-- ---- a router

-- a packet that a receive window keeps, up to `cur`
pub record IsLightKept (cur : ℕ) (k : Kept) : Type 0 where
  pub near : k.index ≤ cur + 41
  pub light : IsLight k.buffer.picture

-- what a reliable connection sends is data, what it keeps is light, and its windows are of at most 20 packets
pub record IsSized (r : PlainRdp) : Type 0 where
  pub sends : All (λ p. IsData p.buffer.picture) r.send.packets
  pub keeps : All (IsLightKept r.recv.cur) r.recv.kept
  pub narrow : r.recv.window ≤ 20
  pub options : r.options.window ≤ 20

-- and it is whole, so that what it keeps are few packets
pub record IsLightMachine (r : PlainRdp) : Type 0 where
  pub whole : IsWhole r
  pub sized : IsSized r

-- what is kept of a slot: its machine, and the packet that waits for room there
pub record IsLightSlot (s : SlotState) : Type 0 where
  pub machine : IsLightMachine (machine_in s)
  pub stalled : IfSome s.stalled (λ b. IsData b.picture)

-- so it is of each slot of a node's ports
abbrev pub ArePorts : PlainPorts → Type 0
ArePorts p = All IsLightSlot p.slots

-- as many counts as an interface has, at most
abbrev pub IsFew : Stats → Type 0
IsFew s = length s.counts ≤ 10

-- what a router holds: its ports, its trash, the packet that is to go out; and the counts of its interfaces
pub record IsHeld (slots : List SlotState) (spent : List Content) (leaving : Option Leaving) (counts : List Stats) : Type 0 where
  pub ports : All IsLightSlot slots
  pub trash : All IsLight spent
  pub out : IfSome leaving (λ o. length o.buffer.payload ≤ room_of o.queue)
  pub stats : All IsFew counts

-- so it is of its state
abbrev pub IsLightState : State → Type 0
IsLightState s = IsHeld s.ports.slots s.trash s.out s.services.stats

-- the window of its connections is one that a connection may have, and its name is as long as a reply has room for
pub record AreFacts (f : Facts) : Type 0 where
  pub window : f.options.window ≤ 20
  pub name : length f.name ≤ 20

-- a router with its facts
pub record IsLightRouter (r : Router) : Type 0 where
  pub facts : AreFacts r.facts
  pub state : IsLightState r.state

-- ---- the other parties

-- what a reader judges by is no more than 256 bytes of payload; and so is each partial packet
abbrev pub IsLightReceiver : Receiver → Type 0
IsLightReceiver (by.Kiss s) = s.reading.mtu ≤ 256
IsLightReceiver (by.Can l) = (l.mtu ≤ 256) × All (λ p. p.length ≤ 256) l.partials

-- an interface on a link with an mtu of at most 256: what it sends and what it receives is light
pub record IsLightIface (i : PlainIface) : Type 0 where
  pub mtu : i.mtu ≤ 256
  pub back : IfSome i.back IsLight
  pub sending : IfSome i.sending IsLight
  pub frames : All IsLightFrame i.frames
  pub receiver : IsLightReceiver i.receiver
  pub whole : IfSome i.whole (λ p. length p.payload.items ≤ 531)
  pub accepted : IfSome i.accepted IsLight

-- each packet of a step is data
abbrev pub IsShortStep : PlainStep → Type 0
IsShortStep step = (number : ℕ) → length ((batch_of step).bytes number) ≤ 522

-- what an application has: its steps, and the packets that it popped, made and holds
pub record IsAppOf (script : List PlainStep) (back next : Option Content) (kept : List Content) : Type 0 where
  pub steps : All IsShortStep script
  pub taken : IfSome back IsLight
  pub made : IfSome next IsData
  pub held : All IsLight kept

-- so it is of an application
abbrev pub IsLightApp : PlainApp → Type 0
IsLightApp a = IsAppOf a.steps a.taken a.made a.held

-- a direction of a link: the frames that it holds
abbrev pub IsLightDirection : PlainDirection → Type 0
IsLightDirection d = All (λ h. IsLightFrame h.frame) d.held

-- both of them
pub record IsLightLink (l : PlainLink) : Type 0 where
  pub forth : IsLightDirection l.forth
  pub back : IsLightDirection l.back

-- a party; a bridge is none of them, nor is a hub
abbrev pub IsLightParty : PlainParty → Type 0
IsLightParty (a_router r) = IsLightRouter r
IsLightParty (a_bridge b) = ⊥
IsLightParty (an_iface i) = IsLightIface i
IsLightParty (an_app a) = IsLightApp a
IsLightParty (a_link l) = IsLightLink l
IsLightParty (a_hub h) = ⊥
