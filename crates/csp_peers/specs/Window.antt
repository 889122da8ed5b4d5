-- How far a data packet may be ahead of the reliable connection that it is handed to: as far as its sender's window.
use Rattle.std.specs.Prelude.{◌≡◌, ℕ, ◌+◌, ◌≤◌, ◌<◌, true, Some, List, [], ◌∷◌, ◌++◌, slice_get}
use Rattle.csp_base.specs.declared.seat.Seat.{Seat}
use Rattle.csp_base.specs.declared.traces.Tag.{Tag}
use Rattle.csp_buffer.specs.Content.{Content}
use Rattle.csp_deck.specs.Runs.{state_after}
use Rattle.csp_header.specs.Word.{header_at}
use Rattle.csp_log.specs.declared.entry.Entry.{Entry}
use Rattle.csp_log.specs.declared.event.Event.TheVariants as event
use Rattle.csp_log.specs.declared.places.QueueId.TheVariants as queue
use Rattle.csp_log.specs.declared.shown.AnswerShown.TheVariants as answer
use Rattle.csp_log.specs.declared.shown.ItemShown.TheVariants as item
use Rattle.csp_log.specs.declared.shown.OpShown.TheVariants as op
use Rattle.csp_ports.specs.PlainPorts.{machine_at}
use Rattle.csp_rdp.specs.Machine.{PlainRdp, flow_of}
use Rattle.csp_rdp_header.specs.Head.{head_bytes}
use Rattle.csp_rdp_header.specs.declared.head.RdpHead.{RdpHead}
use Rattle.csp_record.specs.Record.{PlainRecord}
use Rattle.csp_record.specs.declared.connections.Opening.{Opening}
use Rattle.csp_log.specs.declared.who.Who.TheVariants as who
use Rattle.csp_route.specs.Routes.{Routes}
use Rattle.csp_scene.specs.Links.{links_at}
use Rattle.csp_scene.specs.Scene.{PlainNode, PlainScene}
use Rattle.csp_stack.specs.Readings.{is_checked}
use Rattle.csp_stack.specs.Router.{Facts}
use Rattle.csp_stack.specs.Turn.{timed}
use Rattle.csp_topology.specs.Parties.{config_of}
use Rattle.csp_consistent.specs.Reading.{entries_of}
use Rattle.csp_prefix.specs.Flows.{is_data, with_checksum}
use Rattle.csp_prefix.specs.Prefix.{IsOfFlow}
use Rattle.csp_prefix.specs.Routers.{opening_router, router_steps}

-- a packet carries data of a flow: it is filled with a head and the bytes before it, which make it data, and has a checksum where its header says so
pub record IsDataPacket (b : Content) (t : Tag) : Type 0 where
  pub tagged : b.trace.tag ≡ Some t
  pub head : RdpHead
  pub bytes : List ℕ
  pub seq_range : head.seq.0 < 65536
  pub ack_range : head.ack.0 < 65536
  pub payload : b.payload ≡ with_checksum (is_checked (header_at b.header)) (bytes ++ head_bytes head)
  pub is_data : is_data head bytes ≡ true

-- by an entry of a router's log a data packet came from its inbox and was handed to the connection with this number, which had this peer, and had
-- delivered so far
pub record IsDataHanded (e : Entry) (nth : ℕ) (peer : ℕ × ℕ) (t : Tag) (cur : ℕ) : Type 0 where
  pub mark : ℕ
  pub packet : Content
  pub asked : e.op ≡ op.Pop queue.Inbox
  pub answered : e.answer ≡ answer.Popped (item.Packet mark packet)
  pub carries : IsDataPacket packet t
  pub una : ℕ
  pub at : ℕ
  pub told : slice_get e.events.items at ≡ Some (event.Handed nth (Some peer) (Some t) cur una)

-- each connection of this flow that became open has this one as its peer
abbrev pub HasAsPeer : PlainRecord → ℕ × ℕ → ℕ × ℕ → Type 0
HasAsPeer r flow peer = (app : ℕ) (y : Opening) → IsOfFlow r flow app y → y.peer ≡ Some peer

-- at one of its turns, once the timers were tried, a router with these facts and this table had this machine on a slot
pub record HadMachine (f : Facts) (routes : Routes) (es : List Entry) (m : PlainRdp) : Type 0 where
  pub before : List Entry
  pub turn : Entry
  pub after : List Entry
  pub whole : es ≡ before ++ turn ∷ after
  pub seat : Seat
  pub there : machine_at (timed (state_after router_steps (opening_router f routes) before).state turn.time).ports seat ≡ m

-- the router of a flow's node had the flow's connection, with this peer and this window
pub record HadWindow (scene : PlainScene) (r : PlainRecord) (flow peer : ℕ × ℕ) (window : ℕ) : Type 0 where
  pub node : PlainNode
  pub addr : ℕ
  pub there : slice_get scene.nodes flow.0 ≡ Some node
  pub called : node.addr ≡ Some addr
  pub machine : PlainRdp
  pub had : HadMachine (config_of flow.0 addr node (links_at flow.0 scene.links)).facts node.routes (entries_of r (who.Router flow.0)) machine
  pub numbered : machine.nth ≡ flow.1
  pub meets : machine.peer ≡ Some peer
  pub wide : machine.send.window ≡ window

-- an index is at most a window of its sender past where this connection, which is the sender's peer, stands
pub record IsWithinWindow (scene : PlainScene) (r : PlainRecord) (t : Tag) (own : ℕ × ℕ) (cur : ℕ) : Type 0 where
  pub window : ℕ
  pub had : HadWindow scene r (flow_of t) own window
  pub within : t.index ≤ cur + window

-- in what a record's routers did last: a data packet that was handed to a connection, whose peer's peer it is, is within the window of its sender
abbrev pub LastIsWithinWindow : PlainScene → PlainRecord → Type 0
LastIsWithinWindow scene r =
    (place nth cur : ℕ) (peer : ℕ × ℕ) (t : Tag) (before : List Entry) (e : Entry) → entries_of r (who.Router place) ≡ before ++ e ∷ []
    → IsDataHanded e nth peer t cur → HasAsPeer r peer (place, nth) → IsWithinWindow scene r t (place, nth) cur
