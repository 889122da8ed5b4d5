-- The ports of a node stay light, and so is what they let go.
use Rattle.std.proofs.Common.{length-append, suc, zero, ◌≡◌, ℕ, ◌+◌, ◌*◌, ◌≤◌, Bool, true, false, List, [], ◌∷◌, ◌++◌, length, Option, None, Some, refl, sym, ap, ◌∙◌, subst, arith, get_or}
use Rattle.std.proofs.lemmas.List.Elements.{All-append, All-cons, All-nil, All-replicate, All-set}
use Rattle.std.specs.List.{All, range_with_len}
use Rattle.std.specs.Option.{option_map}
use Rattle.std.specs.Prelude.{IfSome, if◌then◌else◌, slice_set, unwrap_or}
use Rattle.csp_base.specs.Seat.{seat}
use Rattle.csp_base.specs.declared.seat.Seat.{Seat}
use Rattle.csp_base.specs.declared.priority.Prio.{Prio}
use Rattle.csp_buffer.specs.Content.{Content}
use Rattle.csp_buffer.specs.PlainBuffer.{PlainBuffer}
use Rattle.csp_conn.specs.Opening.{is_refused, opened, own_port_of}
use Rattle.csp_conn.specs.PlainConns.{place_of, seat_of, slot_at, with_slot}
use Rattle.csp_conn.specs.Slots.{between, is_free}
use Rattle.csp_base.specs.declared.limits.TheConstants.{SLOTS, ALL_SLOTS}
use Rattle.csp_conn.specs.declared.slot.Connection.{Connection}
use Rattle.csp_conn.specs.declared.slot.Slot.TheVariants as has
use Rattle.csp_log.specs.declared.event.Discard.TheVariants as why
use Rattle.csp_log.specs.declared.note.Note.TheVariants as note
use Rattle.csp_log.specs.declared.note.Note.{Note}
use Rattle.csp_ports.proofs.Public.{all_or, by_dropped, by_settled}
use Rattle.csp_ports.specs.Asking.{answered, answered_by, asking, close, close_by, connect, ending_in, freed_by, held_by, is_reliable, joined, linked, plain}
use Rattle.csp_ports.specs.Came.{Came, come, discarding, pictures, then}
use Rattle.csp_ports.specs.Packets.{accepted, admitting_by, back_by, handing, invited, submitting, submitting_in}
use Rattle.csp_ports.specs.PlainPorts.{PlainPorts, anywhere, has_machine, machine_at, machine_in, ports_of, stalled_at, start_of, state_at, terms_at, untouched, wishing, with_machine, with_machine_or, with_stalled, with_terms, is_closing}
use Rattle.csp_ports.specs.Steps.{changed, closed_by, connected_by, dropped, dropped_in, freed, has_room, refused_by, replaced, settled, stepped, timed, timed_at, timed_in, went, where_machine}
use Rattle.csp_ports.specs.Tasks.{delivered, kept_again, made_in, making, told_down, without_packet}
use Rattle.csp_ports.specs.declared.handing.Invitation.{Invitation}
use Rattle.csp_ports.specs.declared.flows.OwnFlows.{OwnFlows}
use Rattle.csp_ports.specs.declared.owed.Owed.{Owed}
use Rattle.csp_ports.specs.declared.request.Request.{Request}
use Rattle.csp_ports.specs.declared.terms.SlotState.{SlotState}
use Rattle.csp_ports.specs.declared.terms.Terms.{Terms}
use Rattle.csp_ports.specs.declared.terms.Wish.TheVariants as wish
use Rattle.csp_ports.specs.declared.terms.Wish.{Wish}
use Rattle.csp_rdp.proofs.Public.{missing-taken}
use Rattle.csp_rdp.specs.Changes.{change_between}
use Rattle.csp_rdp.specs.Holding.{rdp_buffers, rested}
use Rattle.csp_rdp.specs.Jobs.{admitting, closing, head_for, delivering, delivery_in, taken_in, ticked, without_delivery, says}
use Rattle.csp_rdp.specs.Machine.{PlainRdp, idle}
use Rattle.csp_rdp.specs.Table.{back_of, after_packet, row_of, is_stray}
use Rattle.csp_rdp.specs.declared.answers.Change.TheVariants as change
use Rattle.csp_rdp.specs.declared.answers.Change.{Change}
use Rattle.csp_rdp.specs.declared.answers.State.TheVariants.{Closed, SynSent, SynRcvd, Open, CloseWait}
use Rattle.csp_rdp.specs.declared.answers.State.{State}
use Rattle.csp_rdp.specs.declared.answers.Cause.TheVariants as machine_why
use Rattle.csp_rdp.specs.declared.answers.Cause.{Cause}
use Rattle.csp_rdp.specs.declared.jobs.Job.{Job}
use Rattle.csp_rdp_header.specs.Head.{head_bytes}
use Rattle.csp_rdp_header.specs.declared.head.RdpHead.{RdpHead}
use Rattle.csp_rdp_window.specs.Receiving.{is_kept}
use Rattle.csp_sizes.proofs.LightHolding.{data_light, held_light, unneeded_light}
use Rattle.csp_sizes.proofs.LightMachines.{accepting_light, admitting_light, again_light, back_light, closing_light, connecting_light, delivering_light, handed_light, idle_light, rested_light, sent_light, taken_light, ticked_light}
use Rattle.csp_sizes.proofs.LightSays.{says_short}
use Rattle.csp_sizes.specs.Light.{ArePorts, IsData, IsLight, IsLightMachine, IsLightSlot}

-- what comes of a step of ports: they are light, and what they let go
pub record Comes (c : Came) : Type 0 where
  pub ports : ArePorts c.ports
  pub loose : All IsLight c.loose

abbrev IsWaiting : Option PlainBuffer → Type 0
IsWaiting o = IfSome o (λ b. IsData b.picture)

pub comes_come : (p : PlainPorts) → ArePorts p → Comes (come p)
comes_come p h = record { ports = h; loose = All-nil IsLight }

comes_then : (c : Came) (next : PlainPorts → Came) → Comes c → ((p : PlainPorts) → ArePorts p → Comes (next p)) → Comes ((then) c next)
comes_then c next h more =
    let d = more c.ports h.ports in
    record { ports = d.ports; loose = All-append IsLight c.loose (next c.ports).loose h.loose d.loose }

-- ---- slots in their places

untouched_light : IsLightSlot untouched
untouched_light = record { machine = idle_light; stalled = tt }

slot_light : (p : PlainPorts) (s : Seat) → ArePorts p → IsLightSlot (state_at p s)
slot_light p s h = all_or IsLightSlot p.slots (place_of s) untouched h untouched_light

pub machine_light : (p : PlainPorts) (s : Seat) → ArePorts p → IsLightMachine (machine_at p s)
machine_light p s h = (slot_light p s h).machine

-- another machine, other terms, or another packet that waits

with_machine_or_light : (p : PlainPorts) (s : Seat) (o : Option PlainRdp) → IsLightMachine (unwrap_or o idle) → ArePorts p → ArePorts (with_machine_or p s o)
with_machine_or_light p s o one h = All-set IsLightSlot p.slots (place_of s) (record (state_at p s) { machine = o }) (record { machine = one; stalled = (slot_light p s h).stalled }) h

pub with_machine_light : (p : PlainPorts) (s : Seat) (r : PlainRdp) → IsLightMachine r → ArePorts p → ArePorts (with_machine p s r)
with_machine_light p s r one h = with_machine_or_light p s (Some r) one h

with_terms_light : (p : PlainPorts) (s : Seat) (t : Terms) → ArePorts p → ArePorts (with_terms p s t)
with_terms_light p s t h = All-set IsLightSlot p.slots (place_of s) (record (state_at p s) { terms = t }) (record { machine = machine_light p s h; stalled = (slot_light p s h).stalled }) h

with_stalled_light : (p : PlainPorts) (s : Seat) (o : Option PlainBuffer) → IsWaiting o → ArePorts p → ArePorts (with_stalled p s o)
with_stalled_light p s o one h = All-set IsLightSlot p.slots (place_of s) (record (state_at p s) { stalled = o }) (record { machine = machine_light p s h; stalled = one }) h

wishing_light : (p : PlainPorts) (s : Seat) (w : Wish) → ArePorts p → ArePorts (wishing p s w)
wishing_light p s w h = with_terms_light p s (record (terms_at p s) { wish = w }) h

pub told_down_light : (s : Seat) (p : PlainPorts) → ArePorts p → ArePorts (told_down s p)
told_down_light s p h = with_terms_light p s (record (terms_at p s) { is_down = false }) h

-- ---- a machine makes a step

stepped_light : (s : Seat) (r : PlainRdp) (p : PlainPorts) → IsLightMachine r → ArePorts p → Comes (stepped s r p)
stepped_light s r p one h = record { ports = with_machine_light p s (rested r) (rested_light r one) h; loose = unneeded_light r one.sized }

-- another takes its place
let_go : (s : Seat) (p : PlainPorts) → ArePorts p → All IsLight (pictures (rdp_buffers (machine_at p s)))
let_go s p h = held_light (machine_at p s) (machine_light p s h).sized

freed_light : (ordinal : ℕ) (s : Seat) (p : PlainPorts) → ArePorts p → Comes (freed ordinal s p)
freed_light ordinal s p h =
    let q : PlainPorts = with_terms (record p { conns = with_slot p.conns s has.Free }) s (record (terms_at p s) { wish = wish.Nothing; is_down = false; ordinal = ordinal }) in
    let g : ArePorts q = with_terms_light (record p { conns = with_slot p.conns s has.Free }) s (record (terms_at p s) { wish = wish.Nothing; is_down = false; ordinal = ordinal }) h in
    record { ports = with_machine_or_light q s None idle_light g; loose = let_go s q g }

connected_light : (w : Wish) (s : Seat) (p : PlainPorts) → ArePorts p → ArePorts (connected_by w s p)
connected_light wish.Connection s p h = wishing_light p s wish.Nothing h
connected_light wish.Nothing s p h = h
connected_light wish.End s p h = h
connected_light wish.Ended s p h = h

refused_light : (w : Wish) (why : Cause) (s : Seat) (p : PlainPorts) → ArePorts p → Comes (refused_by w why s p)
refused_light wish.Connection why s p h = let c = freed_light (terms_at p s).ordinal s p h in record { ports = c.ports; loose = All-append IsLight (freed (terms_at p s).ordinal s p).loose [] c.loose (All-nil IsLight) }
refused_light wish.Nothing why s p h = freed_light (terms_at p s).ordinal s p h
refused_light wish.End why s p h = freed_light (terms_at p s).ordinal s p h
refused_light wish.Ended why s p h = freed_light (terms_at p s).ordinal s p h

closed_light : (w : Wish) (was_open : Bool) (s : Seat) (p : PlainPorts) → ArePorts p → Comes (closed_by w was_open s p)
closed_light wish.End was_open s p h = record { ports = wishing_light p s wish.Ended h; loose = All-nil IsLight }
closed_light wish.Nothing true s p h = record { ports = h; loose = All-nil IsLight }
closed_light wish.Nothing false s p h = freed_light (terms_at p s).ordinal s p h
closed_light wish.Connection was_open s p h = record { ports = h; loose = All-nil IsLight }
closed_light wish.Ended was_open s p h = record { ports = h; loose = All-nil IsLight }

changed_light : (ch : Change) (s : Seat) (p : PlainPorts) → ArePorts p → Comes (changed ch s p)
changed_light change.None s p h = comes_come p h
changed_light change.Opened s p h = record { ports = connected_light (terms_at p s).wish s p h; loose = All-nil IsLight }
changed_light (change.Refused why) s p h = refused_light (terms_at p s).wish why s p h
changed_light change.Down s p h = record { ports = with_terms_light p s (record (terms_at p s) { is_down = true }) h; loose = All-nil IsLight }
changed_light change.Closed s p h = closed_light (terms_at p s).wish (machine_at p s).was_open s p h

went_light : (before : State) (why : Cause) (s : Seat) (r : PlainRdp) (p : PlainPorts) → IsLightMachine r → ArePorts p → Comes (went before why s r p)
went_light before why s r p one h =
    comes_then (stepped s r p) (changed (change_between before r.state why) s) (stepped_light s r p one h)
    (λ q k. changed_light (change_between before r.state why) s q k)

-- where the slot has one
where_light : (b : Bool) (step : PlainPorts → Came) (p : PlainPorts) → ArePorts p → Comes (step p) → Comes (where_machine b step p)
where_light true step p h c = c
where_light false step p h c = comes_come p h

-- ---- the packet that waits for room

waiting_light : (p : PlainPorts) (s : Seat) (b : PlainBuffer) → stalled_at p s ≡ Some b → ArePorts p → IsData b.picture
waiting_light p s b e h = subst IsWaiting e (slot_light p s h).stalled

admitted_light : (time : ℕ) (s : Seat) (b : PlainBuffer) (p : PlainPorts) → IsData b.picture → ArePorts p → ArePorts (with_machine p s (admitting b time (machine_at p s)))
admitted_light time s b p short h = with_machine_light p s _ (admitting_light b time (machine_at p s) short (machine_light p s h)) h

settled_light : (time : ℕ) (s : Seat) (p : PlainPorts) → ArePorts p → ArePorts (settled time s p)
settled_light time s p h = by_settled ArePorts time s p h (λ b e room. admitted_light time s b (with_stalled p s None) (waiting_light p s b e h) (with_stalled_light p s None tt h))

-- it is discarded
lost_light : (s : Seat) (b : PlainBuffer) (p : PlainPorts) → IsData b.picture → ArePorts p → Comes (discarding why.NoConn b.picture (with_stalled p s None))
lost_light s b p short h = record { ports = with_stalled_light p s None tt h; loose = All-cons IsLight b.picture [] (data_light b.picture short) (All-nil IsLight) }

dropped_light : (s : Seat) (p : PlainPorts) → ArePorts p → Comes (dropped s p)
dropped_light s p h = by_dropped Comes s p (λ opens. comes_come p h) (λ b e shut. lost_light s b p (waiting_light p s b e h) h)

-- ---- the timers

timed_at_light : (time : ℕ) (s : Seat) (p : PlainPorts) → ArePorts p → Comes (timed_at time s p)
timed_at_light time s p h =
    let r = machine_at p s in
    where_light (has_machine p s) (went r.state machine_why.Timeout s (ticked time r)) p h (went_light r.state machine_why.Timeout s (ticked time r) p (ticked_light time r (machine_light p s h)) h)

timed_in_light : (time : ℕ) (ks : List ℕ) (p : PlainPorts) → ArePorts p → Comes (timed_in time ks p)
timed_in_light time [] p h = comes_come p h
timed_in_light time (k ∷ ks) p h = comes_then (timed_at time (seat_of k) p) (timed_in time ks) (timed_at_light time (seat_of k) p h) (λ q g. timed_in_light time ks q g)

dropped_in_light : (ks : List ℕ) (p : PlainPorts) → ArePorts p → Comes (dropped_in ks p)
dropped_in_light [] p h = comes_come p h
dropped_in_light (k ∷ ks) p h = comes_then (dropped (seat_of k) p) (dropped_in ks) (dropped_light (seat_of k) p h) (λ q g. dropped_in_light ks q g)

pub timed_light : (time : ℕ) (p : PlainPorts) → ArePorts p → Comes (timed time p)
timed_light time p h =
    comes_then (timed_in time (range_with_len 0 (p.conns.apps * SLOTS)) p) (λ q. dropped_in (range_with_len 0 (q.conns.apps * SLOTS)) q) (timed_in_light time (range_with_len 0 (p.conns.apps * SLOTS)) p h)
    (λ q g. dropped_in_light (range_with_len 0 (q.conns.apps * SLOTS)) q g)

-- ---- packets

back_came : (o : Option PlainBuffer) (stray : Bool) (p : PlainPorts) → IfSome o (λ b. IsLight b.picture) → ArePorts p → Comes (back_by o stray p)
back_came None stray p light h = record { ports = h; loose = All-nil IsLight }
back_came (Some b) stray p light h = record { ports = h; loose = All-cons IsLight b.picture [] light (All-nil IsLight) }

pub handing_light : (p : PlainPorts) (s : Seat) (head : RdpHead) (b : Content) (time : ℕ) → IsLight b → ArePorts p → Comes (handing p s head b time)
handing_light p s head b time light h =
    let r = machine_at p s in
    let y = row_of r head b.payload in
    let next = after_packet head b.trace.tag (anywhere b) time r in
    let third : PlainPorts → Came = λ q. come (settled time s q) in
    let second : PlainPorts → Came = λ q. (then) (dropped s q) third in
    let step : PlainPorts → Came = went r.state machine_why.Reset s next in
    let first : PlainPorts → Came = λ q. (then) (where_machine (has_machine p s) step q) second in
    let c =
    comes_then (back_by (back_of y (anywhere b)) (is_stray y) p) first (back_came (back_of y (anywhere b)) (is_stray y) p (back_light y (anywhere b) light) h) (λ q g.
    comes_then (where_machine (has_machine p s) step q) second
    (where_light (has_machine p s) step q g (went_light r.state machine_why.Reset s next q (handed_light head b.trace.tag (anywhere b) time r light (machine_light p s h)) g)) (λ q g.
    comes_then (dropped s q) third (dropped_light s q g) (λ q g.
    comes_come (settled time s q) (settled_light time s q g)))) in
    record { ports = c.ports; loose = c.loose }

admitting_by_light : (room : Bool) (p : PlainPorts) (s : Seat) (b : Content) (time : ℕ) → IsData b → ArePorts p → ArePorts (admitting_by room p s b time)
admitting_by_light true p s b time short h = admitted_light time s (anywhere b) p short h
admitting_by_light false p s b time short h = with_stalled_light p s (Some (anywhere b)) short h

lost_came : (p : PlainPorts) (b : Content) (c : Came) → IsData b → ArePorts p → c.ports ≡ p → c.loose ≡ b ∷ [] → Comes c
lost_came p b c short h ports loose = record {
  ports = subst (λ (q : PlainPorts). ArePorts q) (sym ports) h;
  loose = subst (λ (bs : List Content). All IsLight bs) (sym loose) (All-cons IsLight b [] (data_light b short) (All-nil IsLight));
}

submitting_in_light : (st : State) (p : PlainPorts) (s : Seat) (b : Content) (time : ℕ) → IsData b → ArePorts p → Comes (submitting_in st p s b time)
submitting_in_light Open p s b time short h = record { ports = admitting_by_light (has_room (machine_at p s)) p s b time short h; loose = All-nil IsLight }
submitting_in_light SynSent p s b time short h = lost_came p b _ short h refl refl
submitting_in_light SynRcvd p s b time short h = lost_came p b _ short h refl refl
submitting_in_light CloseWait p s b time short h = lost_came p b _ short h refl refl
submitting_in_light Closed p s b time short h = lost_came p b _ short h refl refl

pub submitting_light : (p : PlainPorts) (s : Seat) (b : Content) (time : ℕ) → IsData b → ArePorts p → Comes (submitting p s b time)
submitting_light p s b time short h = submitting_in_light (machine_at p s).state p s b time short h

pub accepted_light : (p : PlainPorts) (s : Seat) (c : Connection) (prio : Prio) (flags : ℕ) → ArePorts p → ArePorts (accepted p s c prio flags)
accepted_light p s c prio flags h =
    with_terms_light (record p { conns = with_slot p.conns s (has.Open c) }) s (record (terms_at p s) { prio = prio; flags = flags; wish = wish.Nothing; is_down = false }) h

-- a slot's machine that begins
begun_light : (s : Seat) (r : PlainRdp) (p : PlainPorts) → IsLightMachine r → ArePorts p → Comes (replaced s (Some r) (record p { made = p.made + 1 }))
begun_light s r p light h = record { ports = with_machine_light p s r light h; loose = let_go s p h }

pub invited_light : (o : OwnFlows) (i : Invitation) (s : Seat) (time : ℕ) (p : PlainPorts) → i.options.window ≤ 20 → ArePorts p → Comes (invited o i s time p)
invited_light o i s time p narrow h = begun_light s _ p (accepting_light (start_of o.seed p.made) i.options i.head.seq.0 i.tag o.node p.made time narrow) h

-- ---- what applications ask

linked_light : (w : Wish) (p : PlainPorts) (r : Request) (own : ℕ) → ArePorts p → ArePorts (linked w p r own)
linked_light w p r own h =
    with_terms_light (record p { conns = opened p.conns r.seat (between r.dest r.port own) r.from }) r.seat (record (terms_at p r.seat) { prio = r.prio; flags = r.flags; wish = w; is_down = false }) h

-- what holds of both holds of the one that a test chooses
pub either : {X : Type 0} (P : X → Type 0) (b : Bool) (x y : X) → P x → P y → P (if b then x else y)
either P true x y one other = one
either P false x y one other = other

joined_light : (o : OwnFlows) (p : PlainPorts) (r : Request) (own time : ℕ) → o.options.window ≤ 20 → ArePorts p → Comes (joined o p r own time)
joined_light o p r own time narrow h =
    let q : PlainPorts = linked wish.Connection p r own in
    either Comes (is_reliable r.flags) (asking o r.seat time q) (plain p r own)
    (begun_light r.seat _ q (connecting_light (start_of o.seed p.made) o.options o.node p.made time narrow) (linked_light wish.Connection p r own h))
    (record { ports = linked_light wish.Nothing p r own h; loose = All-nil IsLight })

pub connect_light : (o : OwnFlows) (p : PlainPorts) (r : Request) (time : ℕ) → o.options.window ≤ 20 → ArePorts p → Comes (connect o p r time)
connect_light o p r time narrow h = either Comes (is_free (slot_at p.conns r.seat)) _ _ (either Comes (is_refused p.conns r.dest r.from) _ _ (comes_come _ h) (by (own_port_of p.conns r.dest r.from))) (comes_come _ h)
  where
    by : (own : Option ℕ) → Comes (unwrap_or (option_map (λ own. joined o p r own time) own) (come p))
    by None = comes_come p h
    by (Some own) = joined_light o p r own time narrow h

ending_light : (st : State) (s : Seat) (p : PlainPorts) → ArePorts p → ArePorts (ending_in st s p)
ending_light Closed s p h = wishing_light p s wish.Ended h
ending_light SynSent s p h = wishing_light p s wish.End h
ending_light SynRcvd s p h = wishing_light p s wish.End h
ending_light Open s p h = wishing_light p s wish.End h
ending_light CloseWait s p h = wishing_light p s wish.End h

held_by_light : (free : Bool) (p : PlainPorts) (s : Seat) → ArePorts p → ArePorts (held_by free p s)
held_by_light true p s h = h
held_by_light false p s h = h

close_by_light : (closes : Bool) (p : PlainPorts) (s : Seat) (time : ℕ) → ArePorts p → Comes (close_by closes p s time)
close_by_light true p s time h = comes_come p h
close_by_light false p s time h =
    let r = closing time (machine_at p s) in
    let q = held_by (is_free (slot_at p.conns s)) p s in
    let g : ArePorts q = held_by_light (is_free (slot_at p.conns s)) p s h in
    comes_then (where_machine (has_machine p s) (stepped s r) q) (λ x. come (ending_in r.state s x))
    (where_light (has_machine p s) (stepped s r) q g (stepped_light s r q (closing_light time (machine_at p s) (machine_light p s h)) g))
    (λ x g. comes_come (ending_in r.state s x) (ending_light r.state s x g))

pub close_light : (p : PlainPorts) (s : Seat) (time : ℕ) → ArePorts p → Comes (close p s time)
close_light p s time h = close_by_light (is_closing (terms_at p s).wish) p s time h

freed_by_light : (n : Note) (app : ℕ) (p : PlainPorts) → ArePorts p → Comes (freed_by n app p)
freed_by_light (note.Closed slot) app p h = freed_light ((terms_at p (seat app slot)).ordinal + 1) (seat app slot) p h
freed_by_light note.Bound app p h = comes_come p h
freed_by_light (note.Connected slot) app p h = comes_come p h
freed_by_light (note.Refused reason) app p h = comes_come p h
freed_by_light (note.Down slot) app p h = comes_come p h
freed_by_light (note.Bind port need) app p h = comes_come p h
freed_by_light (note.Connect slot dest port prio flags from) app p h = comes_come p h
freed_by_light (note.Close slot) app p h = comes_come p h

answered_by_light : (os : List Owed) (p : PlainPorts) → ArePorts p → Comes (answered_by os p)
answered_by_light [] p h = comes_come p h
answered_by_light (o ∷ os) p h = freed_by_light o.note o.app (record p { owed = os }) h

pub answered_light : (p : PlainPorts) → ArePorts p → Comes (answered p)
answered_light p h = answered_by_light p.owed p h

-- ---- tasks

pub made_light : (j : Job) (time : ℕ) (seat : Seat) (b : Content) (p : PlainPorts) → ArePorts p → length (made_in j time seat b p).payload ≤ 527
made_light j time seat b p h =
    let r = machine_at p seat in
    let s = says j time r in
    let short = says_short j time r (machine_light p seat h) in
    let whole : length (s.bytes ++ head_bytes (head_for s r)) ≡ length s.bytes + 5 = length-append s.bytes (head_bytes (head_for s r)) in
    omega (arith, short, whole)

pub making_light : (j : Job) (time : ℕ) (s : Seat) (p : PlainPorts) → ArePorts p → ArePorts (making j time s p)
making_light j time s p h = with_machine_light p s _ (sent_light j time (machine_at p s) (machine_light p s h)) h

pub without_packet_light : (s : Seat) (p : PlainPorts) → ArePorts p → ArePorts (without_packet s p)
without_packet_light s p h = with_machine_light p s _ (taken_light (machine_at p s) (machine_light p s h)) h

-- the machine that a packet is taken out of stands there: of a slot past the end nothing is delivered
there_or : (ss : List SlotState) (k : ℕ) (s : SlotState) → (machine_in (get_or ss k untouched)).state ≡ Open → get_or (slice_set ss k s) k untouched ≡ s
there_or [] k s opened = cc
there_or (x ∷ ss) zero s opened = refl
there_or (x ∷ ss) (suc k) s opened = there_or ss k s opened

taken_same : (s : State) (r : PlainRdp) → ((taken_in s r).state ≡ r.state) × ((taken_in s r).recv.cur ≡ r.recv.cur)
taken_same Open r = (refl, refl)
taken_same SynSent r = (refl, refl)
taken_same SynRcvd r = (refl, refl)
taken_same CloseWait r = (refl, refl)
taken_same Closed r = (refl, refl)

pub delivery_open : (s : State) (r : PlainRdp) (b : PlainBuffer) → delivery_in s r ≡ Some b → s ≡ Open
delivery_open Open r b e = refl
delivery_open SynSent r b e = cc
delivery_open SynRcvd r b e = cc
delivery_open CloseWait r b e = cc
delivery_open Closed r b e = cc

-- what a connection is from which a packet is being delivered
record IsTaken (r : PlainRdp) : Type 0 where
  is_open : r.state ≡ Open
  missing : is_kept r.recv (r.recv.cur + 1) ≡ false

taken_is : (r : PlainRdp) → r.state ≡ Open → IsTaken (without_delivery r)
taken_is r opened =
    let same = taken_same r.state r in
    record { is_open = same.0 ∙ opened; missing = ap (λ (n : ℕ). is_kept (without_delivery r).recv (n + 1)) same.1 ∙ missing-taken r.state r opened }

now_taken : (p : PlainPorts) (s : Seat) → (machine_at p s).state ≡ Open → IsTaken (machine_at (without_packet s p) s)
now_taken p s opened =
    let r : PlainRdp = without_delivery (machine_at p s) in
    subst IsTaken (sym (ap machine_in (there_or p.slots (place_of s) (record (state_at p s) { machine = Some r }) opened))) (taken_is (machine_at p s) opened)

-- a packet is delivered, or kept again
pub delivered_after : (time : ℕ) (s : Seat) (p : PlainPorts) → (machine_at p s).state ≡ Open → ArePorts p → Comes (delivered time s (without_packet s p))
delivered_after time s p opened h =
    let q = without_packet s p in
    let g = without_packet_light s p h in
    let r = machine_at q s in
    let is = now_taken p s opened in
    comes_then (went r.state machine_why.Reset s (delivering time r) q) (dropped s)
    (went_light r.state machine_why.Reset s (delivering time r) q (delivering_light time r is.is_open is.missing (machine_light q s g)) g)
    (λ x k. dropped_light s x k)

pub kept_after : (s : Seat) (b : Content) (p : PlainPorts) → (machine_at p s).state ≡ Open → IsLight b → ArePorts p → ArePorts (kept_again s b (without_packet s p))
kept_after s b p opened light h =
    let q = without_packet s p in
    let g = without_packet_light s p h in
    let is = now_taken p s opened in
    with_machine_light q s _ (again_light (anywhere b) (machine_at q s) is.is_open is.missing light (machine_light q s g)) g

-- at the opening
pub ports_opened : (apps : ℕ) → ArePorts (ports_of apps)
ports_opened apps = All-replicate IsLightSlot ALL_SLOTS untouched untouched_light
