-- what follows when the machine of a slot's reliable connection has made a step
use Rattle.std.specs.Prelude.{ℕ, ◌*◌, ◌&&◌, not, Bool, true, false, cond, Option, None, Some, unwrap_or, List, [], ◌∷◌}
use Rattle.std.specs.List.{range_with_len}
use Rattle.std.specs.Option.{option_map}
use Rattle.csp_base.specs.declared.seat.Seat.{Seat}
use Rattle.csp_conn.specs.PlainConns.{seat_of, with_slot}
use Rattle.csp_base.specs.declared.limits.TheConstants.{SLOTS}
use Rattle.csp_conn.specs.declared.slot.Slot.TheVariants.{Free}
use Rattle.csp_log.specs.declared.event.Discard.TheVariants as why
use Rattle.csp_log.specs.declared.event.Event.TheVariants as event
use Rattle.csp_log.specs.declared.note.Note.TheVariants as note
use Rattle.csp_log.specs.declared.note.Why.TheVariants as reason
use Rattle.csp_log.specs.declared.note.Why.{Why}
use Rattle.csp_ports.specs.Came.{Came, come, then, reporting, discarding, pictures}
use Rattle.csp_ports.specs.PlainPorts.{PlainPorts, has_machine, is_open, machine_at, owing, stalled_at, terms_at, wishing, with_machine, with_machine_or, with_stalled, with_terms}
use Rattle.csp_ports.specs.declared.terms.Wish.{Wish}
use Rattle.csp_ports.specs.declared.terms.Wish.TheVariants as wish
use Rattle.csp_buffer.specs.PlainBuffer.{PlainBuffer}
use Rattle.csp_rdp.specs.Changes.{change_between}
use Rattle.csp_rdp.specs.Holding.{rdp_buffers, rested, unneeded}
use Rattle.csp_rdp.specs.Jobs.{admitting, ticked}
use Rattle.csp_rdp.specs.Machine.{PlainRdp}
use Rattle.csp_rdp.specs.declared.answers.Change.{Change}
use Rattle.csp_rdp.specs.declared.answers.Change.TheVariants as change
use Rattle.csp_rdp.specs.declared.answers.State.{State}
use Rattle.csp_rdp.specs.declared.answers.Cause.{Cause as MachineWhy}
use Rattle.csp_rdp.specs.declared.answers.Cause.TheVariants as machine_why
use Rattle.csp_rdp_window.specs.Sending.{is_full}

-- where a slot has a machine, that makes this step; a slot without one makes none
abbrev pub where_machine : (has_machine : Bool) → (PlainPorts → Came) → PlainPorts → Came
where_machine true step p = step p
where_machine false step p = come p

-- the machine is then this: what it does not need any more is let go
abbrev pub stepped : Seat → PlainRdp → PlainPorts → Came
stepped seat r p = record { ports = with_machine p seat (rested r); loose = pictures (unneeded r); events = [] }

-- another machine takes its place, or none; what the one before still held is let go
abbrev pub replaced : Seat → Option PlainRdp → PlainPorts → Came
replaced seat machine p = record { ports = with_machine_or p seat machine; loose = pictures (rdp_buffers (machine_at p seat)); events = [] }

-- the slot is free, has no reliable connection, owes nothing any more, and its next connection is of this ordinal:
-- by the answer to a close the next in order, and else the same, since this one never was open
abbrev pub freed : (ordinal : ℕ) → Seat → PlainPorts → Came
freed ordinal seat p =
    replaced seat None
    (with_terms (record p { conns = with_slot p.conns seat Free }) seat (record (terms_at p seat) { wish = wish.Nothing; is_down = false; ordinal = ordinal }))

-- the application that waited for its connection is told that it is open
abbrev pub connected_by : Wish → Seat → PlainPorts → PlainPorts
connected_by wish.Connection seat p = owing (wishing p seat wish.Nothing) seat.app (note.Connected seat.slot)
connected_by _ seat p = p

-- a slot's connection is open: the application that waits for it is owed its answer
abbrev pub connected : Seat → PlainPorts → PlainPorts
connected seat p = connected_by (terms_at p seat).wish seat p

-- why a connection that was asked for is refused, as an answer says it
abbrev pub reason_of : MachineWhy → Why
reason_of machine_why.Timeout = reason.Timeout
reason_of machine_why.Reset = reason.Reset

-- a connection that was asked for is refused: its slot is free, and the application that waited is told so
abbrev pub refused_by : Wish → MachineWhy → Seat → PlainPorts → Came
refused_by wish.Connection why seat p = then (freed (terms_at p seat).ordinal seat p) (λ p. come (owing p seat.app (note.Refused (reason_of why))))
-- the others never come: only an opening that an application asked for and waits for is refused
refused_by _ why seat p = freed (terms_at p seat).ordinal seat p

-- a slot's connection is refused: the application that waits is owed the reason, and the slot is free
abbrev pub refused : MachineWhy → Seat → PlainPorts → Came
refused why seat p = refused_by (terms_at p seat).wish why seat p

-- a Down note is owed
abbrev pub down : Seat → PlainPorts → PlainPorts
down seat p = with_terms p seat (record (terms_at p seat) { is_down = true })

-- the application that asked for the end of a slot's connection is owed that it is closed
abbrev pub ended : Seat → PlainPorts → PlainPorts
ended seat p = owing (wishing p seat wish.Ended) seat.app (note.Closed seat.slot)

-- the connection is closed: the application that asked for that is told so; else a slot whose connection was open stays in
-- use, and that of one that never was is free
abbrev pub closed_by : Wish → (was_open : Bool) → Seat → PlainPorts → Came
closed_by wish.End was_open seat p = come (ended seat p)
closed_by wish.Nothing true seat p = come p
closed_by wish.Nothing false seat p = freed (terms_at p seat).ordinal seat p
-- the other two never come: what ends while its opening is waited for is refused, and what was told closed is not closed again
closed_by _ was_open seat p = come p

-- a slot's connection is closed: what the application is owed, and whether the slot is free
abbrev pub closed : Seat → PlainPorts → Came
closed seat p = closed_by (terms_at p seat).wish (machine_at p seat).was_open seat p

-- what a change of the connection comes to, which its application did not ask for: an opening is reported; a refusal frees
-- the slot; a connection that is not open any more owes a Down note
abbrev pub changed : Change → Seat → PlainPorts → Came
changed change.None seat p = come p
changed change.Opened seat p =
    let r = machine_at p seat in
    reporting (event.Opened seat.app seat.slot (Some r.nth) r.peer) (come (connected seat p))
changed (change.Refused why) seat p = refused why seat p
changed change.Down seat p = come (down seat p)
changed change.Closed seat p = closed seat p

-- a step from a state to a machine, and what it changed
abbrev pub went : State → MachineWhy → Seat → PlainRdp → PlainPorts → Came
went before why seat r p = then (stepped seat r p) (changed (change_between before r.state why) seat)

-- ---- the packet that waits for room

-- a machine takes one more packet: its connection is open, and its window is not full
abbrev pub has_room : PlainRdp → Bool
has_room r = is_open r.state && not (is_full r.send)

-- a packet is admitted to the window of a slot's connection
abbrev pub admitted : (time : ℕ) → Seat → PlainBuffer → PlainPorts → PlainPorts
admitted time seat b p = with_machine p seat (admitting b time (machine_at p seat))

-- the packet that waits at a slot is admitted where there is room now
abbrev pub settled : (time : ℕ) → Seat → PlainPorts → PlainPorts
settled time seat p = unwrap_or (option_map (λ b. cond (has_room (machine_at p seat)) (admitted time seat b (with_stalled p seat None)) p) (stalled_at p seat)) p

-- the packet that waits at a slot is discarded as NoConn where the connection is not open any more
abbrev pub dropped : Seat → PlainPorts → Came
dropped seat p =
    unwrap_or (option_map (λ b. cond (is_open (machine_at p seat).state) (come p) (discarding why.NoConn b.picture (with_stalled p seat None))) (stalled_at p seat)) (come p)

-- ---- the timers

-- the timer of a slot is tried
abbrev pub timed_at : (time : ℕ) → Seat → PlainPorts → Came
timed_at time seat p =
    let r = machine_at p seat in
    where_machine (has_machine p seat) (went r.state machine_why.Timeout seat (ticked time r)) p

-- and those of several, by their places
abbrev pub timed_in : (time : ℕ) → List ℕ → PlainPorts → Came
timed_in time [] p = come p
timed_in time (k ∷ ks) p = then (timed_at time (seat_of k) p) (timed_in time ks)

-- the packets that wait at several slots, by their places, for a connection which is not open any more are discarded
abbrev pub dropped_in : List ℕ → PlainPorts → Came
dropped_in [] p = come p
dropped_in (k ∷ ks) p = then (dropped (seat_of k) p) (dropped_in ks)

-- all timers are tried, in the order of application, then slot; then the packets are discarded that wait in vain
abbrev pub timed : (time : ℕ) → PlainPorts → Came
timed time p = then (timed_in time (range_with_len 0 (p.conns.apps * SLOTS)) p) (λ p. dropped_in (range_with_len 0 (p.conns.apps * SLOTS)) p)
