-- What the window's law rests on: what is to be known of the machine that hears the peer's packets, of the packets that it makes, and of those that its peer makes.
use Rattle.std.specs.Prelude.{◌≡◌, ◌≢◌, ◌⊎◌, ℕ, pos, ◌+◌, ◌≤◌, ◌<◌, true, false, Some, List, ◌++◌}
use Rattle.csp_base.specs.Sequence.{number_of}
use Rattle.csp_base.specs.declared.traces.Tag.{Tag}
use Rattle.csp_buffer.specs.Content.{Content}
use Rattle.csp_header.specs.Word.{header_at}
use Rattle.csp_log.specs.declared.entry.Entry.{Entry}
use Rattle.csp_rdp.specs.Machine.{PlainRdp, flow_of}
use Rattle.csp_rdp.specs.declared.answers.State.TheVariants.{SynSent}
use Rattle.csp_rdp_header.specs.Head.{has_flag, head_bytes}
use Rattle.csp_rdp_header.specs.declared.head.RdpHead.{RdpHead}
use Rattle.csp_rdp_header.specs.declared.head.TheConstants.{ACK, RST}
use Rattle.csp_route.specs.Routes.{Routes}
use Rattle.csp_stack.specs.Readings.{is_checked}
use Rattle.csp_stack.specs.Router.{Facts}
use Rattle.csp_prefix.specs.Flows.{Flows, with_checksum}
use Rattle.csp_prefix.specs.Routers.{IsHeard}
use Rattle.csp_peers.specs.Window.{HadMachine, IsDataPacket}

-- a machine is that of the last one, or of another connection: it had delivered no more by then, and past its opening its peer was the same
abbrev pub IsBefore : PlainRdp → PlainRdp → Type 0
IsBefore last r = r.nth ≡ last.nth → (r.recv.cur ≤ last.recv.cur) × (r.state ≢ SynSent → r.peer ≡ last.peer)

-- a packet with this tag acknowledges the flow of its maker's peer, no further than this: by its tag, and where it is no reset by the number in its head
pub record IsAck (flows : Flows) (peer : ℕ × ℕ) (cur : ℕ) (b : Content) (t : Tag) : Type 0 where
  pub far : t.ack ≤ cur
  pub head : RdpHead
  pub bytes : List ℕ
  pub seq_range : head.seq.0 < 65536
  pub ack_range : head.ack.0 < 65536
  pub payload : b.payload ≡ with_checksum (is_checked (header_at b.header)) (bytes ++ head_bytes head)
  pub number : has_flag head ACK ≡ true → has_flag head RST ≡ false → head.ack.0 ≡ number_of (flows.start peer) (pos t.ack)

-- each packet of this flow is such
abbrev pub Acknowledges : Flows → (own peer : ℕ × ℕ) → (cur : ℕ) → Content → Type 0
Acknowledges flows own peer cur b = (t : Tag) → b.trace.tag ≡ Some t → flow_of t ≡ own → IsAck flows peer cur b t

-- a packet of this flow with this tag came from the inbox
pub record HasHeard (es : List Entry) (flow : ℕ × ℕ) (t : Tag) : Type 0 where
  pub packet : Content
  pub heard : IsHeard es packet
  pub tagged : packet.trace.tag ≡ Some t
  pub of : flow_of t ≡ flow

-- an index is within a window that the router had for this number and this peer, of the start of the flow, or of what a packet of the peer acknowledged
pub record IsAllowed (f : Facts) (routes : Routes) (es : List Entry) (nth : ℕ) (peer : ℕ × ℕ) (index : ℕ) : Type 0 where
  pub machine : PlainRdp
  pub had : HadMachine f routes es machine
  pub numbered : machine.nth ≡ nth
  pub met : machine.peer ≡ Some peer
  pub within : (index ≤ machine.send.window) ⊎ ((t : Tag) × HasHeard es peer t × (index ≤ t.ack + machine.send.window))

-- each data packet of this flow is so
abbrev pub IsAllowedData : Facts → Routes → List Entry → (own peer : ℕ × ℕ) → Content → Type 0
IsAllowedData f routes es own peer b = (t : Tag) → IsDataPacket b t → flow_of t ≡ own → IsAllowed f routes es own.1 peer t.index
