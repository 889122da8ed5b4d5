-- No step of a node's ports changes how many applications and slots there are.
use Rattle.std.proofs.Common.{◌≡◌, ℕ, ◌+◌, ◌*◌, Bool, true, false, nat_lt, Option, None, Some, List, [], ◌∷◌, length, refl, ap, ◌∙◌}
use Rattle.std.specs.Prelude.{if◌then◌else◌, is_some, unwrap_or}
use Rattle.std.specs.List.{range_with_len}
use Rattle.std.specs.Option.{option_map}
use Rattle.std.proofs.lemmas.List.{length-set}
use Rattle.csp_base.specs.Seat.{seat}
use Rattle.csp_base.specs.declared.priority.Prio.{Prio}
use Rattle.csp_base.specs.declared.seat.Seat.{Seat}
use Rattle.csp_buffer.specs.Content.{Content}
use Rattle.csp_conn.specs.Opening.{gone_on, is_refused, own_port_of}
use Rattle.csp_conn.specs.PlainConns.{PlainConns, place_of, seat_of, slot_at, with_slot}
use Rattle.csp_conn.specs.Slots.{between, is_free}
use Rattle.csp_base.specs.declared.limits.TheConstants.{SLOTS}
use Rattle.csp_conn.specs.declared.slot.Connection.{Connection}
use Rattle.csp_conn.specs.declared.slot.Slot.{Slot}
use Rattle.csp_conn.specs.declared.slot.Slot.TheVariants as has
use Rattle.csp_log.specs.declared.note.Note.{Note}
use Rattle.csp_log.specs.declared.note.Note.TheVariants as note
use Rattle.csp_ports.specs.Asking.{answered, answered_by, bind, close, close_by, connect, ending_in, freed_by, held_by, is_reliable, joined, linked}
use Rattle.csp_ports.proofs.Public.{by_dropped, by_settled}
use Rattle.csp_ports.specs.Came.{Came, come}
use Rattle.csp_ports.specs.Packets.{accepted, admitting_by, handing, submitting, submitting_in}
use Rattle.csp_ports.specs.PlainPorts.{PlainPorts, anywhere, has_machine, is_closing, machine_at, terms_at}
use Rattle.csp_ports.specs.Steps.{changed, closed_by, connected_by, dropped, dropped_in, freed, has_room, refused_by, settled, stepped, timed, timed_at, timed_in, went, where_machine}
use Rattle.csp_ports.specs.Tasks.{delivered}
use Rattle.csp_ports.specs.declared.flows.OwnFlows.{OwnFlows}
use Rattle.csp_ports.specs.declared.owed.Owed.{Owed}
use Rattle.csp_ports.specs.declared.request.Request.{Request}
use Rattle.csp_ports.specs.declared.terms.Wish.{Wish}
use Rattle.csp_ports.specs.declared.terms.Wish.TheVariants as wish
use Rattle.csp_rdp.specs.Changes.{change_between}
use Rattle.csp_rdp.specs.Jobs.{closing, delivering, ticked}
use Rattle.csp_rdp.specs.Machine.{PlainRdp}
use Rattle.csp_rdp.specs.Table.{after_packet}
use Rattle.csp_rdp.specs.declared.answers.Change.{Change}
use Rattle.csp_rdp.specs.declared.answers.Change.TheVariants as change
use Rattle.csp_rdp.specs.declared.answers.State.{State}
use Rattle.csp_rdp.specs.declared.answers.State.TheVariants.{Closed, SynSent, SynRcvd, Open, CloseWait}
use Rattle.csp_rdp.specs.declared.answers.Cause.{Cause}
use Rattle.csp_rdp.specs.declared.answers.Cause.TheVariants as machine_why
use Rattle.csp_rdp_header.specs.declared.head.RdpHead.{RdpHead}
use Rattle.csp_socket.specs.Bound.{owner_of}
use Rattle.csp_socket.specs.declared.sockets.TheConstants.{BINDABLE_PORTS}

-- how many applications and slots there are
abbrev shape_of : PlainConns → ℕ × ℕ
shape_of c = (c.apps, length c.slots)

-- those of a node's ports
abbrev pub shape : PlainPorts → ℕ × ℕ
shape p = shape_of p.conns

-- another slot, in its place
slot_shape : (c : PlainConns) (s : Seat) (what : Slot) → shape_of (with_slot c s what) ≡ shape_of c
slot_shape c s what = ap (λ n. (c.apps, n)) (length-set c.slots (place_of s) what)

-- ---- a step of a machine, and what it changes

freed_shape : (ordinal : ℕ) (s : Seat) (p : PlainPorts) → shape (freed ordinal s p).ports ≡ shape p
freed_shape ordinal s p = slot_shape p.conns s has.Free

connected_shape : (w : Wish) (s : Seat) (p : PlainPorts) → shape (connected_by w s p) ≡ shape p
connected_shape wish.Nothing s p = refl
connected_shape wish.Connection s p = refl
connected_shape wish.End s p = refl
connected_shape wish.Ended s p = refl

refused_shape : (w : Wish) (why : Cause) (s : Seat) (p : PlainPorts) → shape (refused_by w why s p).ports ≡ shape p
refused_shape wish.Nothing why s p = freed_shape (terms_at p s).ordinal s p
refused_shape wish.Connection why s p = freed_shape (terms_at p s).ordinal s p
refused_shape wish.End why s p = freed_shape (terms_at p s).ordinal s p
refused_shape wish.Ended why s p = freed_shape (terms_at p s).ordinal s p

closed_shape : (w : Wish) (was_open : Bool) (s : Seat) (p : PlainPorts) → shape (closed_by w was_open s p).ports ≡ shape p
closed_shape wish.Nothing true s p = refl
closed_shape wish.Nothing false s p = freed_shape (terms_at p s).ordinal s p
closed_shape wish.Connection was_open s p = refl
closed_shape wish.End was_open s p = refl
closed_shape wish.Ended was_open s p = refl

changed_shape : (x : Change) (s : Seat) (p : PlainPorts) → shape (changed x s p).ports ≡ shape p
changed_shape change.None s p = refl
changed_shape change.Opened s p = connected_shape (terms_at p s).wish s p
changed_shape (change.Refused why) s p = refused_shape (terms_at p s).wish why s p
changed_shape change.Down s p = refl
changed_shape change.Closed s p = closed_shape (terms_at p s).wish (machine_at p s).was_open s p

went_shape : (before : State) (why : Cause) (s : Seat) (r : PlainRdp) (p : PlainPorts) → shape (went before why s r p).ports ≡ shape p
went_shape before why s r p = changed_shape (change_between before r.state why) s (stepped s r p).ports

-- where the slot has a machine
where_shape : (b : Bool) (step : PlainPorts → Came) (p : PlainPorts) → shape (step p).ports ≡ shape p → shape (where_machine b step p).ports ≡ shape p
where_shape true step p h = h
where_shape false step p h = refl

-- ---- the packet that waits

dropped_shape : (s : Seat) (p : PlainPorts) → shape (dropped s p).ports ≡ shape p
dropped_shape s p = by_dropped (λ c. shape c.ports ≡ shape p) s p (λ opens. refl) (λ b e shut. refl)

settled_shape : (time : ℕ) (s : Seat) (p : PlainPorts) → shape (settled time s p) ≡ shape p
settled_shape time s p = by_settled (λ q. shape q ≡ shape p) time s p refl (λ b e room. refl)

-- ---- the timers

timed_in_shape : (time : ℕ) (ks : List ℕ) (p : PlainPorts) → shape (timed_in time ks p).ports ≡ shape p
timed_in_shape time [] p = refl
timed_in_shape time (k ∷ ks) p =
    let one = timed_at time (seat_of k) p in
    let r = machine_at p (seat_of k) in
    timed_in_shape time ks one.ports
    ∙ where_shape (has_machine p (seat_of k)) (went r.state machine_why.Timeout (seat_of k) (ticked time r)) p
    (went_shape r.state machine_why.Timeout (seat_of k) (ticked time r) p)

dropped_in_shape : (ks : List ℕ) (p : PlainPorts) → shape (dropped_in ks p).ports ≡ shape p
dropped_in_shape [] p = refl
dropped_in_shape (k ∷ ks) p = dropped_in_shape ks (dropped (seat_of k) p).ports ∙ dropped_shape (seat_of k) p

pub timed_shape : (time : ℕ) (p : PlainPorts) → shape (timed time p).ports ≡ shape p
timed_shape time p =
    let one = timed_in time (range_with_len 0 (p.conns.apps * SLOTS)) p in
    dropped_in_shape (range_with_len 0 (one.ports.conns.apps * SLOTS)) one.ports ∙ timed_in_shape time (range_with_len 0 (p.conns.apps * SLOTS)) p

-- ---- packets

pub accepted_shape : (p : PlainPorts) (s : Seat) (c : Connection) (prio : Prio) (flags : ℕ) → shape (accepted p s c prio flags) ≡ shape p
accepted_shape p s c prio flags = slot_shape p.conns s (has.Open c)

pub handing_shape : (p : PlainPorts) (s : Seat) (h : RdpHead) (b : Content) (time : ℕ) → shape (handing p s h b time).ports ≡ shape p
handing_shape p s h b time =
    let r = machine_at p s in
    let step : PlainPorts → Came = went r.state machine_why.Reset s (after_packet h b.trace.tag (anywhere b) time r) in
    let gone = (where_machine (has_machine p s) step p).ports in
    settled_shape time s (dropped s gone).ports ∙ dropped_shape s gone
    ∙ where_shape (has_machine p s) step p (went_shape r.state machine_why.Reset s (after_packet h b.trace.tag (anywhere b) time r) p)

pub submitting_shape : (p : PlainPorts) (s : Seat) (b : Content) (time : ℕ) → shape (submitting p s b time).ports ≡ shape p
submitting_shape p s b time = by (machine_at p s).state
  where
    room : (x : Bool) → shape (admitting_by x p s b time) ≡ shape p
    room true = refl
    room false = refl

    by : (st : State) → shape (submitting_in st p s b time).ports ≡ shape p
    by Open = room (has_room (machine_at p s))
    by SynSent = refl
    by SynRcvd = refl
    by CloseWait = refl
    by Closed = refl

-- ---- what applications ask

-- what holds of both holds of either
pub either : {X : Type 0} (P : X → Type 0) (b : Bool) (x y : X) → P x → P y → P (if b then x else y)
either P true x y one other = one
either P false x y one other = other

pub bind_shape : (p : PlainPorts) (app port need : ℕ) → shape (bind p app port need) ≡ shape p
bind_shape p app port need =
    let same : PlainPorts → Type 0 = λ q. shape q ≡ shape p in
    either same (nat_lt port BINDABLE_PORTS) _ _ (either same (is_some (owner_of p.bound port)) _ _ refl refl) refl

gone_on_shape : (c : PlainConns) (own : ℕ) (from : Option ℕ) → shape_of (gone_on c own from) ≡ shape_of c
gone_on_shape c own None = refl
gone_on_shape c own (Some port) = refl

linked_shape : (w : Wish) (p : PlainPorts) (r : Request) (own : ℕ) → shape (linked w p r own) ≡ shape p
linked_shape w p r own = let c = has.Open (between r.dest r.port own) in gone_on_shape (with_slot p.conns r.seat c) own r.from ∙ slot_shape p.conns r.seat c

pub connect_shape : (o : OwnFlows) (p : PlainPorts) (r : Request) (time : ℕ) → shape (connect o p r time).ports ≡ shape p
connect_shape o p r time = either same (is_free (slot_at p.conns r.seat)) _ _ (either same (is_refused p.conns r.dest r.from) _ _ refl (by (own_port_of p.conns r.dest r.from))) refl
  where
    same : Came → Type 0
    same c = shape c.ports ≡ shape p

    by : (own : Option ℕ) → same (unwrap_or (option_map (λ own. joined o p r own time) own) (come p))
    by None = refl
    by (Some own) = either same (is_reliable r.flags) _ _ (linked_shape wish.Connection p r own) (linked_shape wish.Nothing p r own)

held_shape : (free : Bool) (p : PlainPorts) (s : Seat) → shape (held_by free p s) ≡ shape p
held_shape true p s = slot_shape p.conns s has.Held
held_shape false p s = refl

ending_shape : (st : State) (s : Seat) (p : PlainPorts) → shape (ending_in st s p) ≡ shape p
ending_shape Closed s p = refl
ending_shape SynSent s p = refl
ending_shape SynRcvd s p = refl
ending_shape Open s p = refl
ending_shape CloseWait s p = refl

pub close_shape : (p : PlainPorts) (s : Seat) (time : ℕ) → shape (close p s time).ports ≡ shape p
close_shape p s time = by (is_closing (terms_at p s).wish)
  where
    by : (closing_now : Bool) → shape (close_by closing_now p s time).ports ≡ shape p
    by true = refl
    by false =
        let r = closing time (machine_at p s) in
        let q = held_by (is_free (slot_at p.conns s)) p s in
        ending_shape r.state s (where_machine (has_machine p s) (stepped s r) q).ports ∙ where_shape (has_machine p s) (stepped s r) q refl
        ∙ held_shape (is_free (slot_at p.conns s)) p s

-- ---- what is answered and delivered

ended_shape : (n : Note) (app : ℕ) (p : PlainPorts) → shape (freed_by n app p).ports ≡ shape p
ended_shape (note.Closed slot) app p = freed_shape ((terms_at p (seat app slot)).ordinal + 1) (seat app slot) p
ended_shape note.Bound app p = refl
ended_shape (note.Connected slot) app p = refl
ended_shape (note.Refused reason) app p = refl
ended_shape (note.Down slot) app p = refl
ended_shape (note.Bind port need) app p = refl
ended_shape (note.Connect slot dest port prio flags from) app p = refl
ended_shape (note.Close slot) app p = refl

pub answered_shape : (p : PlainPorts) → shape (answered p).ports ≡ shape p
answered_shape p = by p.owed
  where
    by : (os : List Owed) → shape (answered_by os p).ports ≡ shape p
    by [] = refl
    by (o ∷ os) = ended_shape o.note o.app (record p { owed = os })

pub delivered_shape : (time : ℕ) (s : Seat) (p : PlainPorts) → shape (delivered time s p).ports ≡ shape p
delivered_shape time s p =
    let r = machine_at p s in
    dropped_shape s (went r.state machine_why.Reset s (delivering time r) p).ports ∙ went_shape r.state machine_why.Reset s (delivering time r) p
