-- what applications ask of their node's ports, and what the pushes of answers come to
use Rattle.std.specs.Prelude.{ℕ, ◌+◌, ◌==◌, Bool, true, false, if◌then◌else◌, None, Some, List, [], ◌∷◌, is_some, nat_lt, unwrap_or}
use Rattle.std.specs.Int.RustNames.{bit_and}
use Rattle.std.specs.Option.{option_map}
use Rattle.csp_base.specs.Seat.{seat}
use Rattle.csp_base.specs.declared.seat.Seat.{Seat}
use Rattle.csp_conn.specs.Opening.{is_refused, opened, own_port_of}
use Rattle.csp_conn.specs.PlainConns.{slot_at, with_slot}
use Rattle.csp_conn.specs.Slots.{between, is_free}
use Rattle.csp_conn.specs.declared.slot.Slot.TheVariants.{Held}
use Rattle.csp_log.specs.declared.event.Event.TheVariants as event
use Rattle.csp_log.specs.declared.note.Note.{Note}
use Rattle.csp_log.specs.declared.note.Note.TheVariants as note
use Rattle.csp_log.specs.declared.note.Why.{Why}
use Rattle.csp_log.specs.declared.note.Why.TheVariants as why
use Rattle.csp_ports.specs.Came.{Came, come, then, reporting}
use Rattle.csp_ports.specs.PlainPorts.{PlainPorts, begun, has_machine, is_closing, machine_at, owing, start_of, terms_at, wishing}
use Rattle.csp_ports.specs.Steps.{ended, freed, replaced, stepped, where_machine}
use Rattle.csp_ports.specs.declared.flows.OwnFlows.{OwnFlows}
use Rattle.csp_ports.specs.declared.owed.Owed.{Owed}
use Rattle.csp_ports.specs.declared.request.Request.{Request}
use Rattle.csp_ports.specs.declared.terms.Wish.{Wish}
use Rattle.csp_ports.specs.declared.terms.Wish.TheVariants as wish
use Rattle.csp_rdp.specs.Jobs.{closing}
use Rattle.csp_rdp.specs.Machine.{connecting}
use Rattle.csp_rdp.specs.declared.answers.State.{State}
use Rattle.csp_rdp.specs.declared.answers.State.TheVariants.{Closed}
use Rattle.csp_socket.specs.Bound.{owner_of, with_owner}
use Rattle.csp_socket.specs.declared.sockets.TheConstants.{BINDABLE_PORTS}

-- ---- ports

-- an application asks for a port: one from 48 up is NotBindable, and one that is bound already is InUse; else it is bound
abbrev pub bind : PlainPorts → (app port need : ℕ) → PlainPorts
bind p app port need =
    if nat_lt port BINDABLE_PORTS then
    if is_some (owner_of p.bound port) then owing p app (note.Refused why.InUse)
    else owing (record p { bound = with_owner p.bound port app need }) app note.Bound
    else owing p app (note.Refused why.NotBindable)

-- ---- connections

-- the flags are those of the reliable transport (RDP)
abbrev pub is_reliable : ℕ → Bool
is_reliable flags = bit_and flags 0x02 == 0x02

-- an application's connection begins on its seat, from this own port
abbrev pub linked : Wish → PlainPorts → Request → (own : ℕ) → PlainPorts
linked what p r own = begun (record p { conns = opened p.conns r.seat (between r.dest r.port own) r.from }) r.seat r.prio r.flags what

-- a plain one is open at once, which is reported
abbrev pub plain : PlainPorts → Request → (own : ℕ) → Came
plain p r own = reporting (event.Opened r.seat.app r.seat.slot None None) (come (owing (linked wish.Nothing p r own) r.seat.app (note.Connected r.seat.slot)))

-- a slot's machine asks for a reliable connection: it owes the opening packet
abbrev pub asking : OwnFlows → Seat → (time : ℕ) → PlainPorts → Came
asking o seat time p = replaced seat (Some (connecting (start_of o.seed p.made) o.options o.node p.made time)) (record p { made = p.made + 1 })

-- for a reliable one a machine asks, and the application waits
abbrev pub joined : OwnFlows → PlainPorts → Request → (own time : ℕ) → Came
joined o p r own time = if is_reliable r.flags then asking o r.seat time (linked wish.Connection p r own) else plain p r own

-- a request for a connection is refused
abbrev pub unjoined : PlainPorts → Request → Why → Came
unjoined p r reason = come (owing p r.seat.app (note.Refused reason))

-- an application asks for a connection: on a free slot it is made; a slot in use is Busy, an own port that is taken PortBusy.
-- Where a slot is free an own port always is
abbrev pub connect : OwnFlows → PlainPorts → Request → (time : ℕ) → Came
connect o p r time =
    if is_free (slot_at p.conns r.seat) then
    if is_refused p.conns r.dest r.from then unjoined p r why.PortBusy
    else unwrap_or (option_map (λ own. joined o p r own time) (own_port_of p.conns r.dest r.from)) (come p)
    else unjoined p r why.Busy

-- ---- ends

-- a slot that is free is held by its close
abbrev pub held_by : (is_free : Bool) → PlainPorts → Seat → PlainPorts
held_by true p seat = record p { conns = with_slot p.conns seat Held }
held_by false p seat = p

-- the close, by the state of the reliable connection after it: it is closed, as where the slot has none; or it has to end before
abbrev pub ending_in : State → Seat → PlainPorts → PlainPorts
ending_in Closed seat p = ended seat p
ending_in _ seat p = wishing p seat wish.End

-- a second close has no answer of its own. No packet waits for room then: an application whose packet waits is not served
abbrev pub close_by : (is_closing : Bool) → PlainPorts → Seat → (time : ℕ) → Came
close_by true p seat time = come p
close_by false p seat time =
    let r = closing time (machine_at p seat) in
    (then) (where_machine (has_machine p seat) (stepped seat r) (held_by (is_free (slot_at p.conns seat)) p seat)) (λ p. come (ending_in r.state seat p))

-- an application asks for the end of a slot's connection
abbrev pub close : PlainPorts → Seat → (time : ℕ) → Came
close p seat time = close_by (is_closing (terms_at p seat).wish) p seat time

-- ---- what the push of an answer does

-- the answer to a close frees the slot
abbrev pub freed_by : Note → (app : ℕ) → PlainPorts → Came
freed_by (note.Closed slot) app p = freed ((terms_at p (seat app slot)).ordinal + 1) (seat app slot) p
freed_by _ app p = come p

-- the first answer that was owed is pushed
abbrev pub answered_by : List Owed → PlainPorts → Came
answered_by [] p = come p
answered_by (o ∷ os) p = freed_by o.note o.app (record p { owed = os })

-- the answer that is owed first was pushed
abbrev pub answered : PlainPorts → Came
answered p = answered_by p.owed p
