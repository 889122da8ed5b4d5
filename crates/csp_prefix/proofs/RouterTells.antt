-- What the events of a router's turn tell: those of its timers, of lost packets alone; those of an application's packet, besides, that it was sent on its slot.
-- That a packet was handed to a reliable connection a turn tells only of the one that it popped, and that such a connection is open only of one that was
-- to become so.
use Rattle.std.proofs.Common.{◌≡◌, ◌⊎◌, inl, inr, ℕ, ◌*◌, ◌==◌, Bool, true, false, cond, Option, None, Some, List, [], ◌∷◌, ◌++◌, refl, sym, ap, ◌∙◌, subst}
use Rattle.std.specs.Prelude.{if◌then◌else◌, Result, Ok, Err, unwrap_or, ⊤}
use Rattle.std.specs.Option.{option_map}
use Rattle.std.specs.List.{AllByRecursion, range_with_len}
use Rattle.csp_base.specs.Seat.{seat}
use Rattle.csp_base.specs.declared.seat.Seat.{Seat}
use Rattle.csp_buffer.specs.Content.{Content}
use Rattle.csp_buffer.specs.PlainBuffer.{PlainBuffer}
use Rattle.csp_conn.specs.Opening.{found, free_seat, is_refused, own_port_of}
use Rattle.csp_conn.specs.PlainConns.{seat_of, slot_at}
use Rattle.csp_conn.specs.Slots.{is_free}
use Rattle.csp_base.specs.declared.limits.TheConstants.{SLOTS}
use Rattle.csp_conn.specs.declared.slot.Connection.{Connection}
use Rattle.csp_conn.specs.declared.slot.Slot.{Slot}
use Rattle.csp_conn.specs.declared.slot.Slot.TheVariants as has
use Rattle.csp_crc.specs.Check.{payload_of}
use Rattle.csp_deck.specs.Runs.{IsStep}
use Rattle.csp_header.specs.Word.{header_at}
use Rattle.csp_log.specs.Pictures.{Fits}
use Rattle.csp_log.specs.declared.entry.Entry.{Entry}
use Rattle.csp_log.specs.declared.event.Discard.{Discard}
use Rattle.csp_log.specs.declared.event.Discard.TheVariants as why
use Rattle.csp_log.specs.declared.event.Event.{Event}
use Rattle.csp_log.specs.declared.event.Event.TheVariants as event
use Rattle.csp_log.specs.declared.note.Note.{Note}
use Rattle.csp_log.specs.declared.note.Note.TheVariants as note
use Rattle.csp_log.specs.declared.note.Why.TheVariants as reason
use Rattle.csp_log.specs.declared.places.QueueId.TheVariants as queue
use Rattle.csp_log.specs.declared.places.TheConstants.{UNMARKED}
use Rattle.csp_log.specs.declared.shown.AnswerShown.{AnswerShown}
use Rattle.csp_log.specs.declared.shown.AnswerShown.TheVariants as answer
use Rattle.csp_log.specs.declared.shown.ItemShown.{ItemShown}
use Rattle.csp_log.specs.declared.shown.ItemShown.TheVariants as item
use Rattle.csp_log.specs.declared.shown.OpShown.{OpShown}
use Rattle.csp_log.specs.declared.shown.OpShown.TheVariants as op
use Rattle.csp_ports.specs.Asking.{answered_by, asking, close_by, ending_in, freed_by, held_by, is_reliable, joined, linked, plain, unjoined}
use Rattle.csp_ports.proofs.Public.{by_dropped}
use Rattle.csp_ports.specs.Came.{Came, come, then as and_then}
use Rattle.csp_ports.specs.Packets.{back_by, handing, handing_event, submitting, submitting_in}
use Rattle.csp_ports.specs.PlainPorts.{PlainPorts, anywhere, has_machine, is_closing, machine_at, terms_at}
use Rattle.csp_ports.specs.Steps.{changed, closed_by, dropped, dropped_in, refused_by, settled, stepped, timed as ports_timed, timed_at, timed_in, went, where_machine}
use Rattle.csp_ports.specs.Tasks.{delivered, kept_again}
use Rattle.csp_ports.specs.declared.handing.Invitation.{Invitation}
use Rattle.csp_ports.specs.declared.flows.OwnFlows.{OwnFlows}
use Rattle.csp_ports.specs.declared.owed.Owed.{Owed}
use Rattle.csp_ports.specs.declared.request.Request.{Request}
use Rattle.csp_ports.specs.declared.terms.Wish.{Wish}
use Rattle.csp_ports.specs.declared.terms.Wish.TheVariants as wish
use Rattle.csp_rdp.specs.Changes.{change_between}
use Rattle.csp_rdp.specs.Jobs.{closing, delivering, ticked}
use Rattle.csp_rdp.specs.Machine.{PlainRdp}
use Rattle.csp_rdp.specs.Table.{back_of, after_packet, is_stray, row_of}
use Rattle.csp_rdp.specs.declared.answers.Change.{Change}
use Rattle.csp_rdp.specs.declared.answers.Change.TheVariants as change
use Rattle.csp_rdp.specs.declared.answers.State.{State as MachineState}
use Rattle.csp_rdp.specs.declared.answers.State.TheVariants as state
use Rattle.csp_rdp.specs.declared.answers.Cause.{Cause}
use Rattle.csp_rdp.specs.declared.answers.Cause.TheVariants as machine_why
use Rattle.csp_rdp.specs.declared.jobs.Job.{Job}
use Rattle.csp_rdp_header.specs.Head.{parted}
use Rattle.csp_rdp_header.specs.declared.head.RdpHead.{RdpHead}
use Rattle.csp_record.specs.Payloads.{is_on}
use Rattle.csp_record.specs.declared.payloads.Transfer.TheVariants as way
use Rattle.csp_route.specs.Routes.{route_of}
use Rattle.csp_route.specs.declared.row.Row.{Row}
use Rattle.csp_scene.proofs.Public.{AllByRecursion-append, AllByRecursion-map}
use Rattle.csp_service.specs.Answers.{answered}
use Rattle.csp_service.specs.declared.answers.Served.{Served}
use Rattle.csp_service.specs.declared.answers.Served.TheVariants.{NoService, Refused, Reply, Silent}
use Rattle.csp_service.specs.declared.stats.Count.TheVariants as count
use Rattle.csp_stack.proofs.Public.{by_rest, heard_here}
use Rattle.csp_stack.specs.Comes.{heard_at_port, heard_at_socket, heard_elsewhere}
use Rattle.csp_stack.specs.Counting.{came_in, counting, was_full}
use Rattle.csp_stack.specs.Readings.{buffer_in, is_checked, is_here, is_pushed, is_secured, item_in}
use Rattle.csp_stack.specs.Router.{Facts, Router, State, at_rest, flows_of, router}
use Rattle.csp_stack.specs.Rules.{Arrival, Decided, Left, accepting, addressed, arrival, by_answer, by_connection, by_row, by_service, by_slot, by_socket, connection_of, differs, forwarded, heard, invitation_of, inviting, is_lacking, is_mixed, made_on, opening, owner_for, packet_in, requested, seat_for, sent, sent_where, sent_on, served, to_connection, to_machine, to_slot, with_payload, ◌>>=◌}
use Rattle.csp_stack.specs.Serving.{facts_of, reply_in, with_facts}
use Rattle.csp_stack.specs.Told.{Told, discarded, kept, leaving, ported, unchanged, with_ports}
use Rattle.csp_stack.specs.Turn.{asked_at, until_answer, asks_at, brought, no_room, plan_of, timed, told_at, turn_of}
use Rattle.csp_stack.specs.declared.plan.Plan.{Plan}
use Rattle.csp_stack.specs.declared.plan.Plan.TheVariants as plan
use Rattle.csp_prefix.specs.Routers.{router_steps}
use Rattle.csp_prefix.specs.Slots.{Opens}
use Rattle.csp_prefix.proofs.MachineOpens.{IsEarly, opens-early, ways-not}
use Rattle.csp_prefix.proofs.MachineSteps.{ways-reset, ways-ticked}
use Rattle.csp_prefix.proofs.RouterEntry.{AreUnsent}
use Rattle.csp_prefix.proofs.RouterMute.{IsMute, IsOrder, answered_mute}
use Rattle.csp_prefix.proofs.RouterStanding.{IsRead, not_false, unwrapped}

-- ---- what a turn may tell

-- a packet that a router heard was handed to the reliable connection that its header names, which is on one of its slots, and the event tells so
pub record IsHanding (f : Facts) (p : PlainPorts) (b : Content) (e : Event) : Type 0 where
  pub seat : Seat
  pub bytes : List ℕ
  pub parts : List ℕ × RdpHead
  pub read : IsRead f b bytes parts
  pub at : found p.conns (connection_of (header_at b.header)) ≡ Some seat
  pub kind : is_reliable (terms_at p seat).flags ≡ true
  pub told : e ≡ handing_event (machine_at p seat) b.trace.tag

-- a turn popped a packet from the inbox, which was handed to its connection, and the event tells so
pub record IsOfPopped (f : Facts) (p : PlainPorts) (o : OpShown) (a : AnswerShown) (e : Event) : Type 0 where
  pub mark : ℕ
  pub packet : Content
  pub asked : o ≡ op.Pop queue.Inbox
  pub answered : a ≡ answer.Popped (item.Packet mark packet)
  pub handing : IsHanding f p packet e

-- what a turn with this operation and this answer may tell
abbrev pub TellsAt : Facts → PlainPorts → OpShown → AnswerShown → Event → Type 0
TellsAt f p o a (event.Handed nth peer tag cur una) = IsOfPopped f p o a (event.Handed nth peer tag cur una)
TellsAt f p o a (event.Opened app slot nth peer) = (nth ≡ None) ⊎ IsEarly (machine_at p (seat app slot)).state
TellsAt f p o a _ = ⊤

-- no packet is told to be handed to a reliable connection, and none to be open
abbrev IsCalm : Event → Type 0
IsCalm (event.Handed nth peer tag cur una) = ⊥
IsCalm (event.Opened app slot nth peer) = nth ≡ None
IsCalm _ = ⊤

abbrev AreCalm : List Event → Type 0
AreCalm es = AllByRecursion IsCalm es

-- so it may be told in any turn
calm_tells : (f : Facts) (p : PlainPorts) (o : OpShown) (a : AnswerShown) (e : Event) → IsCalm e → TellsAt f p o a e
calm_tells f p o a (event.Handed nth peer tag cur una) is = absurd is
calm_tells f p o a (event.Opened app slot nth peer) is = inl is
calm_tells f p o a _ is = tt

lost_calm : (reason : Discard) → IsCalm (event.Discarded reason)
lost_calm reason = tt

-- ---- steps of ports, and packets that are sent: what holds of lost packets holds of what they tell

-- a change that is an opening
change_opens : (before after : MachineState) (reason : Cause) → change_between before after reason ≡ change.Opened → Opens before after
change_opens state.SynSent state.Open reason e = tt
change_opens state.SynRcvd state.Open reason e = tt
change_opens state.SynSent state.Closed reason e = absurd cc
change_opens state.SynRcvd state.Closed reason e = absurd cc
change_opens state.Open state.CloseWait reason e = absurd cc
change_opens state.Open state.Closed reason e = absurd cc
change_opens state.CloseWait state.Closed reason e = absurd cc
change_opens state.Closed state.Closed reason e = absurd cc
change_opens _ _ reason e = absurd cc

module _ (P : Event → Type 0) (lost : (reason : Discard) → P (event.Discarded reason)) where
  abbrev Each : List Event → Type 0
  Each es = AllByRecursion P es

  -- first the one, then the other
  then_so : (c : Came) (next : PlainPorts → Came) → Each c.events → Each (next c.ports).events → Each (and_then c next).events
  then_so c next first second = AllByRecursion-append P c.events (next c.ports).events first second

  refused_so : (w : Wish) (reason : Cause) (seat : Seat) (p : PlainPorts) → Each (refused_by w reason seat p).events
  refused_so wish.Connection reason seat p = tt
  refused_so wish.Nothing reason seat p = tt
  refused_so wish.End reason seat p = tt
  refused_so wish.Ended reason seat p = tt

  closed_so : (w : Wish) (was_open : Bool) (seat : Seat) (p : PlainPorts) → Each (closed_by w was_open seat p).events
  closed_so wish.End was_open seat p = tt
  closed_so wish.Nothing true seat p = tt
  closed_so wish.Nothing false seat p = tt
  closed_so wish.Connection was_open seat p = tt
  closed_so wish.Ended was_open seat p = tt

  changed_so : (c : Change) (seat : Seat) (p : PlainPorts) → (c ≡ change.Opened → (nth : ℕ) (peer : Option (ℕ × ℕ)) → P (event.Opened seat.app seat.slot (Some nth) peer)) → Each (changed c seat p).events
  changed_so change.None seat p opens = tt
  changed_so change.Opened seat p opens = (opens refl (machine_at p seat).nth (machine_at p seat).peer, tt)
  changed_so (change.Refused reason) seat p opens = refused_so (terms_at p seat).wish reason seat p
  changed_so change.Down seat p opens = tt
  changed_so change.Closed seat p opens = closed_so (terms_at p seat).wish (machine_at p seat).was_open seat p

  -- the step of a machine, which may open its connection
  went_so : (before : MachineState) (reason : Cause) (seat : Seat) (r : PlainRdp) (p : PlainPorts) → (Opens before r.state → (nth : ℕ) (peer : Option (ℕ × ℕ)) → P (event.Opened seat.app seat.slot (Some nth) peer)) → Each (went before reason seat r p).events
  went_so before reason seat r p opens = changed_so (change_between before r.state reason) seat (stepped seat r p).ports (λ e. opens (change_opens before r.state reason e))

  -- or never does
  went_lost : (before : MachineState) (reason : Cause) (seat : Seat) (r : PlainRdp) (p : PlainPorts) → (Opens before r.state → ⊥) → Each (went before reason seat r p).events
  went_lost before reason seat r p never = went_so before reason seat r p (λ o nth peer. absurd (never o))

  -- a slot with a machine makes its step, and one without makes none
  where_so : (b : Bool) (step : PlainPorts → Came) (p : PlainPorts) → Each (step p).events → Each (where_machine b step p).events
  where_so true step p h = h
  where_so false step p h = tt

  dropped_so : (seat : Seat) (p : PlainPorts) → Each (dropped seat p).events
  dropped_so seat p = by_dropped (λ c. Each c.events) seat p (λ opens. tt) (λ b e shut. (lost why.NoConn, tt))

  -- the timers
  timed_at_so : (time : ℕ) (seat : Seat) (p : PlainPorts) → Each (timed_at time seat p).events
  timed_at_so time seat p =
      let r = machine_at p seat in
      where_so (has_machine p seat) (went r.state machine_why.Timeout seat (ticked time r)) p (went_lost r.state machine_why.Timeout seat (ticked time r) p (ways-not r (ticked time r) (ways-ticked time r)))

  timed_in_so : (time : ℕ) (ks : List ℕ) (p : PlainPorts) → Each (timed_in time ks p).events
  timed_in_so time [] p = tt
  timed_in_so time (k ∷ ks) p =
      let c = timed_at time (seat_of k) p in
      then_so c (timed_in time ks) (timed_at_so time (seat_of k) p) (timed_in_so time ks c.ports)

  dropped_in_so : (ks : List ℕ) (p : PlainPorts) → Each (dropped_in ks p).events
  dropped_in_so [] p = tt
  dropped_in_so (k ∷ ks) p =
      let c = dropped (seat_of k) p in
      then_so c (dropped_in ks) (dropped_so (seat_of k) p) (dropped_in_so ks c.ports)

  pub timed_tells : (time : ℕ) (p : PlainPorts) → Each (ports_timed time p).events
  timed_tells time p =
      let c = timed_in time (range_with_len 0 (p.conns.apps * SLOTS)) p in
      then_so c (λ q. dropped_in (range_with_len 0 (q.conns.apps * SLOTS)) q) (timed_in_so time (range_with_len 0 (p.conns.apps * SLOTS)) p) (dropped_in_so (range_with_len 0 (c.ports.conns.apps * SLOTS)) c.ports)

  -- a packet was delivered
  delivered_so : (time : ℕ) (seat : Seat) (p : PlainPorts) → Each (delivered time seat p).events
  delivered_so time seat p =
      let r = machine_at p seat in
      let c = went r.state machine_why.Reset seat (delivering time r) p in
      then_so c (dropped seat) (went_lost r.state machine_why.Reset seat (delivering time r) p (ways-not _ (delivering time r) (ways-reset r.reset_at time _))) (dropped_so seat c.ports)

  -- a packet is handed to a reliable connection
  back_so : (back : Option PlainBuffer) (stray : Bool) (p : PlainPorts) → Each (back_by back stray p).events
  back_so None stray p = tt
  back_so (Some b) true p = (lost why.Stray, tt)
  back_so (Some b) false p = tt

  -- the packet that waits is looked at
  abbrev looked_at : Seat → ℕ → PlainPorts → Came
  looked_at seat time p = and_then (dropped seat p) (λ q. come (settled time seat q))

  handing_so : (p : PlainPorts) (seat : Seat) (h : RdpHead) (b : Content) (time : ℕ) → (IsEarly (machine_at p seat).state → (nth : ℕ) (peer : Option (ℕ × ℕ)) → P (event.Opened seat.app seat.slot (Some nth) peer))
      → P (handing_event (machine_at p seat) b.trace.tag) → Each (handing p seat h b time).events
  handing_so p seat h b time opens hands =
      let r = machine_at p seat in
      let row = row_of r h b.payload in
      let new = after_packet h b.trace.tag (anywhere b) time r in
      let back = back_by (back_of row (anywhere b)) (is_stray row) p in
      let step = went r.state machine_why.Reset seat new in
      let c = where_machine (has_machine p seat) step p in (
        hands,
        then_so back (λ q. and_then (where_machine (has_machine q seat) step q) (looked_at seat time)) (back_so (back_of row (anywhere b)) (is_stray row) p)
            (then_so c (looked_at seat time) (where_so (has_machine p seat) step p (went_so r.state machine_why.Reset seat new p (λ o. opens (opens-early r.state new.state o))))
            (then_so (dropped seat c.ports) (λ q. come (settled time seat q)) (dropped_so seat c.ports) tt)),
      )

  -- a packet of the node is sent
  sent_by_so : (own : Bool) (row : Option Row) (s : State) (b : Content) → Each (sent_where own row s b).events
  sent_by_so true row s b = tt
  sent_by_so false None s b = (lost why.NoRoute, tt)
  sent_by_so false (Some row) s b = tt

  sent_so : (f : Facts) (s : State) (b : Content) → Each (sent f s b).events
  sent_so f s b = let to = (header_at b.header).dst in sent_by_so (to == f.addr) (route_of s.routes to) s b

  -- one of an application, on its slot
  submitting_so : (x : MachineState) (p : PlainPorts) (seat : Seat) (b : Content) (time : ℕ) → ((ordinal : ℕ) → P (event.Sent seat.slot ordinal)) → Each (submitting_in x p seat b time).events
  submitting_so state.Open p seat b time sends = (sends (terms_at p seat).ordinal, tt)
  submitting_so state.SynSent p seat b time sends = (lost why.NoConn, tt)
  submitting_so state.SynRcvd p seat b time sends = (lost why.NoConn, tt)
  submitting_so state.CloseWait p seat b time sends = (lost why.NoConn, tt)
  submitting_so state.Closed p seat b time sends = (lost why.NoConn, tt)

  on_connection_so : (reliable : Bool) (c : Connection) (f : Facts) (s : State) (seat : Seat) (time : ℕ) (b : Content) → ((ordinal : ℕ) → P (event.Sent seat.slot ordinal))
      → Each (if reliable then ported s (submitting s.ports seat b time) else sent_on c (router f s) seat b).events
  on_connection_so false c f s seat time b sends = (sends (terms_at s.ports seat).ordinal, sent_so f s (addressed f c (terms_at s.ports seat) b))
  on_connection_so true c f s seat time b sends = submitting_so (machine_at s.ports seat).state s.ports seat b time sends

  by_slot_so : (x : Slot) (f : Facts) (s : State) (seat : Seat) (time : ℕ) (b : Content) → ((ordinal : ℕ) → P (event.Sent seat.slot ordinal)) → Each (by_slot x (router f s) seat time b).events
  by_slot_so has.Free f s seat time b sends = (lost why.NoConn, tt)
  by_slot_so has.Held f s seat time b sends = (lost why.NoConn, tt)
  by_slot_so (has.Open c) f s seat time b sends = on_connection_so (is_reliable (terms_at s.ports seat).flags) c f s seat time b sends

  by_mark_so : (unmarked : Bool) (f : Facts) (s : State) (seat : Seat) (time : ℕ) (b : Content) → ((ordinal : ℕ) → P (event.Sent seat.slot ordinal)) → Each (if unmarked then sent f s b else by_slot (slot_at s.ports.conns seat) (router f s) seat time b).events
  by_mark_so true f s seat time b sends = sent_so f s b
  by_mark_so false f s seat time b sends = by_slot_so (slot_at s.ports.conns seat) f s seat time b sends

  pub packet_tells : (f : Facts) (s : State) (time app mark : ℕ) (b : Content) → ((ordinal : ℕ) → P (event.Sent mark ordinal)) → Each (served f s time app (item.Packet mark b)).events
  packet_tells f s time app mark b sends = by_mark_so (mark == UNMARKED) f s (seat app mark) time b sends

-- so timers tell of nothing that was sent
abbrev IsUnsent : Event → Type 0
IsUnsent e = (slot : ℕ) → is_on way.Sent slot e ≡ false

each_unsent : (es : List Event) → AllByRecursion IsUnsent es → AreUnsent es
each_unsent es all slot None = refl
each_unsent [] all slot (Some payload) = refl
each_unsent (e ∷ es) all slot (Some payload) = rw (all.0 slot) (each_unsent es all.1 slot (Some payload))

pub timed_unsent : (time : ℕ) (p : PlainPorts) → AreUnsent (ports_timed time p).events
timed_unsent time p = each_unsent (ports_timed time p).events (timed_tells IsUnsent (λ reason slot. refl) time p)

-- ---- what an application asks, and what a machine makes

joined_calm : (reliable : Bool) (o : OwnFlows) (p : PlainPorts) (r : Request) (own time : ℕ) → AreCalm (if reliable then asking o r.seat time (linked wish.Connection p r own) else plain p r own).events
joined_calm false o p r own time = (refl, tt)
joined_calm true o p r own time = tt

connect_calm : (free refuses : Bool) (own : Option ℕ) (o : OwnFlows) (p : PlainPorts) (r : Request) (time : ℕ)
    → AreCalm (if free then (if refuses then unjoined p r reason.PortBusy else unwrap_or (option_map (λ own. joined o p r own time) own) (come p)) else unjoined p r reason.Busy).events
connect_calm true true own o p r time = tt
connect_calm true false (Some own) o p r time = joined_calm (is_reliable r.flags) o p r own time
connect_calm true false None o p r time = tt
connect_calm false refuses own o p r time = tt

close_calm : (closing : Bool) (p : PlainPorts) (seat : Seat) (time : ℕ) → AreCalm (close_by closing p seat time).events
close_calm true p seat time = tt
close_calm false p seat time =
    let r = closing time (machine_at p seat) in
    let q = held_by (is_free (slot_at p.conns seat)) p seat in
    then_so IsCalm lost_calm (where_machine (has_machine p seat) (stepped seat r) q) (λ q. come (ending_in r.state seat q)) (where_so IsCalm lost_calm (has_machine p seat) (stepped seat r) q tt) tt

requested_calm : (f : Facts) (s : State) (app time : ℕ) (n : Note) → AreCalm (requested f s app time n).events
requested_calm f s app time (note.Bind port need) = tt
requested_calm f s app time (note.Connect slot dest port prio flags from) =
    connect_calm (is_free (slot_at s.ports.conns (seat app slot))) (is_refused s.ports.conns dest from) (own_port_of s.ports.conns dest from) (flows_of f) s.ports
    (record { seat = seat app slot; dest = dest; port = port; prio = prio; flags = flags; from = from }) time
requested_calm f s app time (note.Close slot) = close_calm (is_closing (terms_at s.ports (seat app slot)).wish) s.ports (seat app slot) time
requested_calm f s app time _ = tt

served_calm : (f : Facts) (s : State) (time app : ℕ) (i : ItemShown) → AreCalm (served f s time app i).events
served_calm f s time app (item.Packet mark b) = packet_tells IsCalm lost_calm f s time app mark b (λ ordinal. tt)
served_calm f s time app (item.Note n) = requested_calm f s app time n
served_calm f s time app (item.Frame frame) = tt

-- an answer was pushed
ended_calm : (n : Note) (app : ℕ) (p : PlainPorts) → AreCalm (freed_by n app p).events
ended_calm (note.Closed slot) app p = tt
ended_calm _ app p = tt

answered_calm : (owed : List Owed) (p : PlainPorts) → AreCalm (answered_by owed p).events
answered_calm [] p = tt
answered_calm (o ∷ os) p = ended_calm o.note o.app (record p { owed = os })

made_calm : (x : Slot) (owed : Seat × Job) (r : Router) (time : ℕ) (b : Content) → AreCalm (made_on x owed r time b).events
made_calm has.Free owed r time b = tt
made_calm has.Held owed r time b = tt
made_calm (has.Open c) owed r time b = sent_by_so IsCalm lost_calm _ _ _ _

-- ---- a packet of no connection

accepting_calm : (free : Option Seat) (s : State) (p : Arrival) → AreCalm (accepting free s p).events
accepting_calm None s p = (tt, tt)
accepting_calm (Some seat) s p = (refl, tt)

inviting_calm : (i : Result Invitation Discard) (free : Option Seat) (r : Router) (time : ℕ) (p : Arrival) → AreCalm (inviting i free r time p).events
inviting_calm (Err reason) free r time p = (tt, tt)
inviting_calm (Ok i) None r time p = (tt, tt)
inviting_calm (Ok i) (Some seat) r time p = tt

-- of two, the one that a test chooses
chosen_calm : (b : Bool) (t u : Told) → AreCalm t.events → AreCalm u.events → AreCalm (if b then t else u).events
chosen_calm true t u one other = one
chosen_calm false t u one other = other

opening_calm : (app : ℕ) (f : Facts) (s : State) (time : ℕ) (p : Arrival) → AreCalm (opening app f s time p).events
opening_calm app f s time p =
    let free = free_seat s.ports.conns app in
    let i = invitation_of p.buffer in
    chosen_calm (is_reliable p.head.flags.0) (inviting i free (router f s) time p) (accepting free s p) (inviting_calm i free (router f s) time p) (accepting_calm free s p)

by_socket_calm : (owner : Option (ℕ × ℕ)) (f : Facts) (s : State) (time : ℕ) (p : Arrival) (next : Arrival → Told) → AreCalm (next p).events → AreCalm (by_socket owner f s time p >>= next).events
by_socket_calm None f s time p next rest = rest
by_socket_calm (Some owner) f s time p next rest = chosen_calm (is_lacking s p) (discarded s why.Required p.buffer) (opening owner.0 f s time p) (tt, tt) (opening_calm owner.0 f s time p)

order_calm : (e : Event) → IsOrder e → IsCalm e
order_calm event.Reboot is = tt
order_calm event.Shutdown is = tt
order_calm _ is = absurd is

by_answer_calm : (o : Served) (reply : List ℕ) (f : Facts) (s : State) (p : Arrival) → IsMute o → AreCalm (by_answer o reply f s p).events
by_answer_calm Reply reply f s p mute = sent_so IsCalm lost_calm f s (reply_in f p.head p.buffer reply)
by_answer_calm (Silent e) reply f s p mute = (order_calm e mute, tt)
by_answer_calm (Refused error) reply f s p mute = (tt, tt)
by_answer_calm NoService reply f s p mute = (tt, tt)

by_service_calm : (f : Facts) (s : State) (time : ℕ) (p : Arrival) → AreCalm (by_service f s time p).events
by_service_calm f s time p =
    let o = answered p.head.dport p.buffer.payload (facts_of f s) time in
    by_answer_calm o.served o.reply f (with_facts s o.facts) p (answered_mute p.head.dport p.buffer.payload time (facts_of f s))

not_reliable_calm : (reliable : Bool) (s : State) (p : Arrival) (next : Arrival → Told) → AreCalm (next p).events → AreCalm ((if reliable then Decided (discarded s why.NoSocket p.buffer) else Left p) >>= next).events
not_reliable_calm true s p next rest = (tt, tt)
not_reliable_calm false s p next rest = rest

at_socket_calm : (f : Facts) (s : State) (time : ℕ) (p : Arrival) → AreCalm (heard_at_socket f s time p).events
at_socket_calm f s time p =
    by_socket_calm (owner_for s p) f s time p (λ q. heard_elsewhere f s time q) (not_reliable_calm (is_reliable p.head.flags.0) s p (λ q. by_service f s time q) (by_service_calm f s time p))

-- ---- a packet that was popped from the inbox
module _ (f : Facts) (s : State) (time mark : ℕ) (b : Content) where
  abbrev OfPopped : Event → Type 0
  OfPopped e = TellsAt f s.ports (op.Pop queue.Inbox) (answer.Popped (item.Packet mark b)) e

  abbrev Shows : Told → Type 0
  Shows t = AllByRecursion OfPopped t.events

  -- the packet as it comes to its port
  abbrev at_port : List ℕ → Arrival
  at_port bytes = record { mark = mark; head = header_at b.header; buffer = record b { payload = bytes } }

  to_machine_shows : (o : Option (List ℕ × RdpHead)) (seat : Seat) (bytes : List ℕ) → parted bytes ≡ o → is_here f.addr (header_at b.header) ≡ true → unwrapped (is_checked (header_at b.header)) b.payload ≡ Some bytes
      → found s.ports.conns (connection_of (header_at b.header)) ≡ Some seat → is_reliable (header_at b.header).flags.0 ≡ true → is_reliable (terms_at s.ports seat).flags ≡ true → Shows (to_machine o s seat time (at_port bytes))
  to_machine_shows None seat bytes q here un at reliable kind = (tt, tt)
  to_machine_shows (Some read) seat bytes q here un at reliable kind =
      handing_so OfPopped (λ reason. tt) s.ports seat read.1 (record b { payload = read.0 }) time (λ early nth peer. inr early) (record {
        mark = mark;
        packet = b;
        asked = refl;
        answered = refl;
        handing = record {
          seat = seat;
          bytes = bytes;
          parts = read;
          read = record { here = here; reliable = reliable; is_unwrapped = un; is_parted = q };
          at = at;
          kind = kind;
          told = refl;
        };
      })

  to_connection_shows : (reliable : Bool) (seat : Seat) (bytes : List ℕ) → is_reliable (header_at b.header).flags.0 ≡ reliable → is_here f.addr (header_at b.header) ≡ true → unwrapped (is_checked (header_at b.header)) b.payload ≡ Some bytes
      → found s.ports.conns (connection_of (header_at b.header)) ≡ Some seat → differs reliable (is_reliable (terms_at s.ports seat).flags) ≡ false
      → Shows (if reliable then to_machine (parted bytes) s seat time (at_port bytes) else leaving s (to_slot seat (record b { payload = bytes })))
  to_connection_shows false seat bytes e here un at same = tt
  to_connection_shows true seat bytes e here un at same = to_machine_shows (parted bytes) seat bytes refl here un at e (not_false (is_reliable (terms_at s.ports seat).flags) same)

  at_connection_shows : (mixed lacking : Bool) (at : Seat) (bytes : List ℕ) → is_mixed s at (at_port bytes) ≡ mixed → (is_mixed s at (at_port bytes) ≡ false → Shows (to_connection s at time (at_port bytes)))
      → Shows (if mixed then discarded s why.Mixed (record b { payload = bytes }) else if lacking then discarded s why.Required (record b { payload = bytes }) else to_connection s at time (at_port bytes))
  at_connection_shows true lacking at bytes e rest = (tt, tt)
  at_connection_shows false true at bytes e rest = (tt, tt)
  at_connection_shows false false at bytes e rest = rest e

  by_connection_shows : (at : Option Seat) (bytes : List ℕ) (next : Arrival → Told) → found s.ports.conns (connection_of (header_at b.header)) ≡ at
      → is_here f.addr (header_at b.header) ≡ true → unwrapped (is_checked (header_at b.header)) b.payload ≡ Some bytes → Shows (next (at_port bytes)) → Shows (by_connection at s time (at_port bytes) >>= next)
  by_connection_shows None bytes next e here un rest = rest
  by_connection_shows (Some at) bytes next e here un rest =
      at_connection_shows (is_mixed s at (at_port bytes)) (is_lacking s (at_port bytes)) at bytes refl λ same. (to_connection_shows (is_reliable (header_at b.header).flags.0) at bytes refl here un e same)

  at_port_shows : (bytes : List ℕ) → is_here f.addr (header_at b.header) ≡ true → unwrapped (is_checked (header_at b.header)) b.payload ≡ Some bytes → Shows (heard_at_port f s time (at_port bytes))
  at_port_shows bytes here un =
      by_connection_shows (seat_for s (at_port bytes)) bytes (λ q. heard_at_socket f s time q) refl here un
      (AllByRecursion-map IsCalm OfPopped (heard_at_socket f s time (at_port bytes)).events (calm_tells f s.ports (op.Pop queue.Inbox) (answer.Popped (item.Packet mark b))) (at_socket_calm f s time (at_port bytes)))

  by_checksum_shows : (checked : Bool) (o : Option (List ℕ)) (next : Arrival → Told) → payload_of b.payload ≡ o → ((bytes : List ℕ) → unwrapped checked b.payload ≡ Some bytes → Shows (next (at_port bytes)))
      → Shows ((if checked then with_payload o s (arrival mark b) else Left (arrival mark b)) >>= next)
  by_checksum_shows true None next e rest = (tt, tt)
  by_checksum_shows true (Some bytes) next e rest = rest bytes e
  by_checksum_shows false o next e rest = rest b.payload refl

  not_secured_shows : (secured : Bool) (x : State) (next : Arrival → Told) → Shows (next (arrival mark b)) → Shows ((if secured then Decided (discarded x why.Refused b) else Left (arrival mark b)) >>= next)
  not_secured_shows true x next rest = (tt, tt)
  not_secured_shows false x next rest = rest

  here_shows : is_here f.addr (header_at b.header) ≡ true → Shows (heard_here f s time (arrival mark b))
  here_shows here =
      not_secured_shows (is_secured (header_at b.header)) (counting s mark count.AuthErrors 1) (λ p. by_rest f s time p)
      (by_checksum_shows (is_checked (header_at b.header)) (payload_of b.payload) (λ q. heard_at_port f s time q) refl (λ bytes un. at_port_shows bytes here un))

  forwarded_shows : (row : Option Row) → Shows (forwarded row s (arrival mark b))
  forwarded_shows None = (tt, tt)
  forwarded_shows (Some row) = by_back (row.iface == mark)
    where
      by_back : (back : Bool) → Shows (if back then discarded s why.BackOut b else leaving s (by_row row b))
      by_back true = (tt, tt)
      by_back false = tt

  for_this_node_shows : (here : Bool) (t : Told) (next : Arrival → Told) → Shows t → (here ≡ true → Shows (next (arrival mark b))) → Shows ((if here then Left (arrival mark b) else Decided t) >>= next)
  for_this_node_shows false t next told rest = told
  for_this_node_shows true t next told rest = rest refl

  heard_shows : Shows (heard f s time (arrival mark b))
  heard_shows =
      let way = route_of s.routes (header_at b.header).dst in
      for_this_node_shows (is_here f.addr (header_at b.header)) (forwarded way s (arrival mark b)) (λ p. heard_here f s time p) (forwarded_shows way) here_shows

-- ---- what an answer comes to, by the turn's plan

brought_calm : {X : Type 0} (s : State) (comes : X → Told) (o : Option X) → ((x : X) → AreCalm (comes x).events) → AreCalm (brought s comes o).events
brought_calm s comes None each = tt
brought_calm s comes (Some x) each = each x

pushed_calm : (pushed : Bool) (one other : Told) → AreCalm one.events → AreCalm other.events → AreCalm (cond pushed one other).events
pushed_calm true one other h g = h
pushed_calm false one other h g = g

back_calm : (s : State) (o : Option Arrival) → AreCalm (no_room s o).events
back_calm s o = brought_calm s (λ p. discarded s why.Full p.buffer) o (λ p. (tt, tt))

hearing_tells : (f : Facts) (s : State) (time : ℕ) (a : AnswerShown) → Fits (op.Pop queue.Inbox) a → AllByRecursion (TellsAt f s.ports (op.Pop queue.Inbox) a) (brought s (λ p. heard f (came_in s p.mark p.buffer) time p) (packet_in (item_in a))).events
hearing_tells f s time (answer.Popped (item.Packet mark b)) fits = heard_shows f (came_in s mark b) time mark b
hearing_tells f s time (answer.Popped (item.Note n)) fits = tt
hearing_tells f s time (answer.Popped (item.Frame frame)) fits = tt
hearing_tells f s time answer.Empty fits = tt
hearing_tells f s time a fits = absurd fits

-- the events of a plan that hears nothing
quietly : (q : Plan) (f : Facts) (s : State) (time : ℕ) (a : AnswerShown) → AreCalm ((turn_of f (at_rest (until_answer f s time q)) time q).told a).events → AllByRecursion (TellsAt f s.ports (turn_of f s time q).asks a) ((turn_of f (at_rest (until_answer f s time q)) time q).told a).events
quietly q f s time a all = AllByRecursion-map IsCalm (TellsAt f s.ports (turn_of f s time q).asks a) ((turn_of f (at_rest (until_answer f s time q)) time q).told a).events (calm_tells f s.ports (turn_of f s time q).asks a) all

plan_tells : (q : Plan) (f : Facts) (s : State) (time : ℕ) (a : AnswerShown) → Fits (turn_of f s time q).asks a → AllByRecursion (TellsAt f s.ports (turn_of f s time q).asks a) ((turn_of f (at_rest (until_answer f s time q)) time q).told a).events
plan_tells plan.Hear f s time a fits = hearing_tells f (at_rest (until_answer f s time plan.Hear)) time a fits
plan_tells plan.Rest f s time a fits = tt
plan_tells plan.Give f s time a fits = let t : State = at_rest (until_answer f s time plan.Give) in quietly plan.Give f s time a (brought_calm t (kept t) (buffer_in a) (λ b. tt))
plan_tells (plan.Push q n) f s time a fits =
    let t : State = at_rest (until_answer f s time (plan.Push q n)) in
    quietly (plan.Push q n) f s time a (pushed_calm (is_pushed a) _ _ tt (back_calm (was_full t q) (packet_in (item_in a))))
plan_tells (plan.Serve k) f s time a fits =
    let t : State = at_rest (until_answer f s time (plan.Serve k)) in
    quietly (plan.Serve k) f s time a (brought_calm t (served f t time k) (item_in a) (λ i. served_calm f t time k i))
plan_tells (plan.Reply k) f s time a fits =
    let t : State = at_rest (until_answer f s time (plan.Reply k)) in
    quietly (plan.Reply k) f s time a (pushed_calm (is_pushed a) _ _ (answered_calm t.ports.owed t.ports) (back_calm t (packet_in (item_in a))))
plan_tells (plan.Tell seat) f s time a fits =
    let t : State = at_rest (until_answer f s time (plan.Tell seat)) in
    quietly (plan.Tell seat) f s time a (pushed_calm (is_pushed a) _ _ tt (back_calm t (packet_in (item_in a))))
plan_tells (plan.Deliver seat) f s time a fits =
    let t : State = at_rest (until_answer f s time (plan.Deliver seat)) in
    quietly (plan.Deliver seat) f s time a (pushed_calm (is_pushed a) _ _ (delivered_so IsCalm lost_calm time seat t.ports)
    (brought_calm t (λ p. unchanged (with_ports t (kept_again seat p.buffer t.ports))) (packet_in (item_in a)) (λ p. tt)))
plan_tells (plan.Make seat j) f s time a fits =
    let t : State = at_rest (until_answer f s time (plan.Make seat j)) in
    quietly (plan.Make seat j) f s time a (brought_calm t (made_on (slot_at t.ports.conns seat) (seat, j) (router f t) time) (buffer_in a) (λ b. made_calm (slot_at t.ports.conns seat) (seat, j) (router f t) time b))

-- ---- a whole turn

until_early : (f : Facts) (s : State) (time : ℕ) (q : Plan) → (turn_of f s time q).until.early ≡ s.early
until_early f s time plan.Rest = refl
until_early f s time plan.Give = refl
until_early f s time (plan.Push q n) = refl
until_early f s time plan.Hear = refl
until_early f s time (plan.Serve k) = refl
until_early f s time (plan.Reply k) = refl
until_early f s time (plan.Tell seat) = refl
until_early f s time (plan.Deliver seat) = refl
until_early f s time (plan.Make seat j) = refl

-- what the turn's events are: those of its timers, then those of its plan
pub events_are : (f : Facts) (s : State) (time : ℕ) (a : AnswerShown) (q : Plan) → plan_of f (timed s time) time ≡ q
    → (told_at f (asked_at f s time) time a).events ≡ (ports_timed time s.ports).events ++ ((turn_of f (at_rest (until_answer f (timed s time) time q)) time q).told a).events
events_are f s time a q e =
    let t : State = timed s time in
    ap (λ p. (turn_of f t time p).until.early ++ ((turn_of f (at_rest (until_answer f t time p)) time p).told a).events) e ∙ ap (λ es. es ++ ((turn_of f (at_rest (until_answer f t time q)) time q).told a).events) (until_early f t time q)

-- what each may tell, by the operation, the answer, and the ports once the timers were tried
pub entry_tells : (r : Router) (e : Entry) → IsStep router_steps r e → AllByRecursion (TellsAt r.facts (timed r.state e.time).ports e.op e.answer) e.events.items
entry_tells r e step =
    let f : Facts = r.facts in
    let t : State = timed r.state e.time in
    let q : Plan = plan_of f t e.time in
    let Here : OpShown → Event → Type 0 = λ o. TellsAt f t.ports o e.answer in
    let first = timed_tells (Here (turn_of f t e.time q).asks) (λ reason. tt) e.time r.state.ports in
    let all = AllByRecursion-append (Here (turn_of f t e.time q).asks) (ports_timed e.time r.state.ports).events ((turn_of f (at_rest (until_answer f t e.time q)) e.time q).told e.answer).events first (plan_tells q f t e.time e.answer step.fits) in
    subst (λ o. AllByRecursion (Here o) e.events.items) (sym step.op) (subst (AllByRecursion (Here (asks_at f r.state e.time))) (sym (step.events ∙ events_are f r.state e.time e.answer q refl)) all)
