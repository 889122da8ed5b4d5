-- a connection of the reliable transport
use Rattle.std.specs.Prelude.{ℕ, Bool, true, false, if◌then◌else◌, Option, None, Some}
use Rattle.std.specs.Option.{option_and_then, option_map, option_map_or}
use Rattle.csp_base.specs.declared.traces.Tag.{Tag}
use Rattle.csp_rdp_header.specs.Options.{usual_options}
use Rattle.csp_rdp_header.specs.declared.options.Options.{Options}
use Rattle.csp_rdp_window.specs.Receiving.{PlainRecv, opening_recv}
use Rattle.csp_rdp_window.specs.Sending.{PlainSend, opening_send, with_mark}
use Rattle.csp_rdp_window.specs.declared.pending.Mark.TheVariants.{Abandoned}
use Rattle.csp_rdp.specs.declared.answers.State.{State}
use Rattle.csp_rdp.specs.declared.answers.State.TheVariants.{Closed, SynSent, SynRcvd, Open, CloseWait}
use Rattle.csp_rdp.specs.declared.jobs.Owed.{Owed}

-- a connection: its state, its options, its own flow (a node and the how-manieth connection of it), the flow of its peer,
-- whether it was ever open, the moment from which its timer counts, both windows, what it owes,
-- and the index of a reset that waits until all before it is delivered.
-- The receive start is that of the receive window; in SynSent there is none yet
pub record PlainRdp : Type 0 where
  pub state : State
  pub options : Options
  pub node : ℕ
  pub nth : ℕ
  pub peer : Option (ℕ × ℕ)
  pub was_open : Bool
  pub since : ℕ
  pub send : PlainSend
  pub recv : PlainRecv
  pub owed : Owed
  pub reset_at : Option ℕ

-- the flow that a tag names
abbrev pub flow_of : Tag → ℕ × ℕ
flow_of t = (t.node, t.nth)

-- ---- opening

-- nothing is owed
abbrev pub nothing_owed : Owed
nothing_owed = record { rst = false; syn = false; syn_sent = None; eak = false; ack = false; delivered = 0; first = None }

-- a new connection owes the packet that opens it, and nothing else
abbrev pub opening_owed : Owed
opening_owed = record { rst = false; syn = true; syn_sent = None; eak = false; ack = false; delivered = 0; first = None }

-- a connection as it begins, on either side: of the peer's first packet the number is the receive start, and the tag names the peer; before that has
-- come there is none of both
abbrev pub made : State → (start : ℕ) → Options → (first : Option (ℕ × Option Tag)) → (node nth time : ℕ) → PlainRdp
made state start options first node nth time = record {
  state = state;
  options = options;
  node = node;
  nth = nth;
  peer = option_and_then (λ p. option_map flow_of p.1) first;
  was_open = false;
  since = time;
  send = opening_send start options.window;
  recv = opening_recv (option_map_or (λ p. p.0) first 0) options.window;
  owed = opening_owed;
  reset_at = None;
}

-- a connection that is asked for: SynSent
abbrev pub connecting : (start : ℕ) → Options → (node nth time : ℕ) → PlainRdp
connecting start options node nth time = made SynSent start options None node nth time

-- a connection that is asked of the node by a packet with this number and tag: SynRcvd
abbrev pub accepting : (start : ℕ) → Options → (other : ℕ) → Option Tag → (node nth time : ℕ) → PlainRdp
accepting start options other tag node nth time = made SynRcvd start options (Some (other, tag)) node nth time

-- what a slot without a machine is taken for: a connection that is closed, holds nothing and owes nothing
abbrev pub idle : PlainRdp
idle = record (made Closed 0 usual_options None 0 0 0) { owed = nothing_owed }

-- ---- the steps from state to state

-- the packet with this number and tag sets the receive start and the peer
abbrev pub started : (other : ℕ) → Option Tag → PlainRdp → PlainRdp
started other tag r = record r { recv = opening_recv other r.options.window; peer = option_map flow_of tag }

-- it is open, and its timer begins anew
abbrev pub opened : (time : ℕ) → PlainRdp → PlainRdp
opened time r = record r { state = Open; was_open = true; since = time; owed = record r.owed { syn = false } }

-- it is in another state: the send window needs nothing any more, and a reset that waits is forgotten
abbrev pub left : State → (time : ℕ) → PlainRdp → PlainRdp
left state time r = record r { state = state; since = time; send = with_mark Abandoned r.send; reset_at = None }

-- it owes a reset, the answer to the first packet, an extended acknowledgement, an acknowledgement
abbrev pub owes_rst : PlainRdp → PlainRdp
owes_rst r = record r { owed = record r.owed { rst = true } }

-- the opening packet, or the answer to it, is owed
abbrev pub owes_syn : PlainRdp → PlainRdp
owes_syn r = record r { owed = record r.owed { syn = true } }

-- an extended acknowledgement is owed
abbrev pub owes_eak : PlainRdp → PlainRdp
owes_eak r = record r { owed = record r.owed { eak = true } }

-- an acknowledgement is owed at once
abbrev pub owes_ack : PlainRdp → PlainRdp
owes_ack r = record r { owed = record r.owed { ack = true } }

-- it is broken off
abbrev pub broken : (time : ℕ) → PlainRdp → PlainRdp
broken time r = owes_rst (left CloseWait time r)

-- the least unacknowledged index: that of the opening packet until the connection is open
abbrev pub una_of : PlainRdp → ℕ
una_of r = if r.was_open then r.send.una else 0
