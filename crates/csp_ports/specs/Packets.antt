-- what comes of packets: those that open a connection, those that are handed to a reliable one, and those of applications
use Rattle.std.specs.Prelude.{ℕ, ◌+◌, Bool, true, false, Option, Some, List, [], ◌∷◌}
use Rattle.csp_base.specs.declared.priority.Prio.{Prio}
use Rattle.csp_base.specs.declared.seat.Seat.{Seat}
use Rattle.csp_base.specs.declared.traces.Tag.{Tag}
use Rattle.csp_buffer.specs.Content.{Content}
use Rattle.csp_buffer.specs.PlainBuffer.{PlainBuffer}
use Rattle.csp_conn.specs.PlainConns.{with_slot}
use Rattle.csp_conn.specs.declared.slot.Connection.{Connection}
use Rattle.csp_conn.specs.declared.slot.Slot.TheVariants.{Open}
use Rattle.csp_log.specs.declared.event.Discard.TheVariants as why
use Rattle.csp_log.specs.declared.event.Event.{Event}
use Rattle.csp_log.specs.declared.event.Event.TheVariants as event
use Rattle.std.specs.Option.{option_to_list}
use Rattle.csp_ports.specs.Came.{Came, come, then, reporting, discarding, pictures}
use Rattle.csp_ports.specs.PlainPorts.{PlainPorts, anywhere, begun, has_machine, machine_at, start_of, terms_at, with_stalled}
use Rattle.csp_ports.specs.Steps.{admitted, dropped, has_room, replaced, settled, went, where_machine}
use Rattle.csp_ports.specs.declared.handing.Invitation.{Invitation}
use Rattle.csp_ports.specs.declared.flows.OwnFlows.{OwnFlows}
use Rattle.csp_ports.specs.declared.terms.Wish.TheVariants as wish
use Rattle.csp_rdp.specs.Machine.{PlainRdp, accepting, una_of}
use Rattle.csp_rdp.specs.Table.{back_of, after_packet, is_stray, row_of}
use Rattle.csp_rdp.specs.declared.answers.State.{State}
use Rattle.csp_rdp.specs.declared.answers.State.TheVariants as state
use Rattle.csp_rdp.specs.declared.answers.Cause.TheVariants as machine_why
use Rattle.csp_rdp_header.specs.declared.head.RdpHead.{RdpHead}

-- ---- packets that open a connection

-- a plain one, on a slot: it is open at once
abbrev pub accepted : PlainPorts → Seat → Connection → Prio → (flags : ℕ) → PlainPorts
accepted p seat connection prio flags = begun (record p { conns = with_slot p.conns seat (Open connection) }) seat prio flags wish.Nothing

-- a reliable one that was accepted on a slot: its machine owes the answer
abbrev pub invited : OwnFlows → Invitation → Seat → (time : ℕ) → PlainPorts → Came
invited o i seat time p = replaced seat (Some (accepting (start_of o.seed p.made) i.options i.head.seq.0 i.tag o.node p.made time)) (record p { made = p.made + 1 })

-- ---- packets of a reliable connection

-- what is recorded of it: of which connection it is, its tag, and how far the connection was
abbrev pub handing_event : PlainRdp → Option Tag → Event
handing_event r tag = event.Handed r.nth r.peer tag r.recv.cur (una_of r)

-- its buffer is kept by the machine, or handed back; then it is discarded as Stray where the machine has no use for it
abbrev pub stray_events : (back : Option PlainBuffer) → (is_stray : Bool) → List Event
stray_events (Some b) true = event.Discarded why.Stray ∷ []
stray_events _ stray = []

-- what comes of a buffer that a machine handed back: it joins the trash, and is reported where it was stray
abbrev pub back_by : (back : Option PlainBuffer) → (is_stray : Bool) → PlainPorts → Came
back_by back stray p = record { ports = p; loose = pictures (option_to_list back); events = stray_events back stray }

-- a packet with this head is handed to the machine of a slot: that is recorded; its buffer is kept or not; the machine makes its
-- step, where the slot has one; and the packet that waits for room is admitted where there is some now, or discarded where the connection is not open any more
abbrev pub handing : PlainPorts → Seat → RdpHead → Content → (time : ℕ) → Came
handing p seat h b time =
    let r = machine_at p seat in
    let packet = anywhere b in
    let row = row_of r h b.payload in
    reporting (handing_event r b.trace.tag)
    (then (back_by (back_of row packet) (is_stray row) p) (λ p.
    then (where_machine (has_machine p seat) (went r.state machine_why.Reset seat (after_packet h b.trace.tag packet time r)) p) (λ p.
    then (dropped seat p) (λ p.
    come (settled time seat p)))))

-- ---- packets of an application, on a reliable connection

-- it is admitted to the window, or waits for room there
abbrev pub admitting_by : (room : Bool) → PlainPorts → Seat → Content → (time : ℕ) → PlainPorts
admitting_by true p seat b time = admitted time seat (anywhere b) p
admitting_by false p seat b time = with_stalled p seat (Some (anywhere b))

-- that is reported as sent; where the connection is not open the packet is NoConn
abbrev pub submitting_in : State → PlainPorts → Seat → Content → (time : ℕ) → Came
submitting_in state.Open p seat b time =
    reporting (event.Sent seat.slot (terms_at p seat).ordinal) (come (admitting_by (has_room (machine_at p seat)) p seat b time))
submitting_in _ p seat b time = discarding why.NoConn b p

-- an application's packet goes on a slot's reliable connection
abbrev pub submitting : PlainPorts → Seat → Content → (time : ℕ) → Came
submitting p seat b time = submitting_in (machine_at p seat).state p seat b time
