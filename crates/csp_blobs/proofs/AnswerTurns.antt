-- A turn of a router answers an application, or leaves something due to it, only of what was due to it and of what it asked in that turn.
use Rattle.std.proofs.Common.{◌≡◌, ℕ, ◌+◌, ◌<◌, ◌≤◌, ◌==◌, Bool, true, false, cond, Option, Some, None, List, [], ◌∷◌, ◌++◌, refl, sym, subst, arith}
use Rattle.std.specs.Prelude.{if◌then◌else◌, Result, Ok, Err, ⊤}
use Rattle.std.specs.List.{AllByRecursion, position}
use Rattle.std.specs.Option.{option_map}
use Rattle.csp_base.specs.Seat.{seat}
use Rattle.csp_base.specs.declared.seat.Seat.{Seat}
use Rattle.csp_buffer.specs.Content.{Content}
use Rattle.csp_buffer.specs.PlainBuffer.{PlainBuffer}
use Rattle.csp_conn.specs.Opening.{free_seat}
use Rattle.csp_conn.specs.PlainConns.{seat_of, slot_at}
use Rattle.csp_conn.specs.Slots.{is_between}
use Rattle.csp_base.specs.declared.limits.TheConstants.{SLOTS, ALL_SLOTS}
use Rattle.csp_conn.specs.declared.slot.Connection.{Connection}
use Rattle.csp_conn.specs.declared.slot.Slot.{Slot}
use Rattle.csp_conn.specs.declared.slot.Slot.TheVariants as has
use Rattle.csp_crc.specs.Check.{payload_of}
use Rattle.csp_deck.specs.Carried.{IsRequest, IsUpItem}
use Rattle.csp_deck.specs.Runs.{IsRun}
use Rattle.csp_header.specs.Word.{header_at}
use Rattle.csp_log.specs.Pictures.{Fits}
use Rattle.csp_log.specs.declared.entry.Entry.{Entry}
use Rattle.csp_log.specs.declared.event.Discard.{Discard}
use Rattle.csp_log.specs.declared.event.Discard.TheVariants as why
use Rattle.csp_log.specs.declared.note.Note.{Note}
use Rattle.csp_log.specs.declared.note.Note.TheVariants as note
use Rattle.csp_log.specs.declared.places.QueueId.{QueueId}
use Rattle.csp_log.specs.declared.places.QueueId.TheVariants as queue
use Rattle.csp_log.specs.declared.places.TheConstants.{UNMARKED}
use Rattle.csp_log.specs.declared.shown.AnswerShown.{AnswerShown}
use Rattle.csp_log.specs.declared.shown.AnswerShown.TheVariants as answer
use Rattle.csp_log.specs.declared.shown.ItemShown.{ItemShown}
use Rattle.csp_log.specs.declared.shown.ItemShown.TheVariants as item
use Rattle.csp_log.specs.declared.shown.OpShown.{OpShown}
use Rattle.csp_log.specs.declared.shown.OpShown.TheVariants as op
use Rattle.csp_ports.specs.Asking.{answered, is_reliable}
use Rattle.csp_ports.specs.Packets.{submitting}
use Rattle.csp_ports.specs.PlainPorts.{PlainPorts, anywhere, is_closing, machine_at, ports_of, terms_at, terms_of}
use Rattle.csp_ports.specs.Tasks.{delivered, kept_again, made_in, making, next_task, turned}
use Rattle.csp_ports.specs.declared.handing.Invitation.{Invitation}
use Rattle.csp_ports.specs.declared.owed.Owed.{Owed}
use Rattle.csp_ports.specs.declared.task.Task.{Task}
use Rattle.csp_ports.specs.declared.task.Task.TheVariants as task
use Rattle.csp_ports.specs.Kept.{wishes}
use Rattle.csp_ports.proofs.Public.{wishes-none}
use Rattle.csp_rdp.specs.Jobs.{delivery, keeping_again, sent as sends_job, without_delivery}
use Rattle.csp_rdp.specs.declared.jobs.Job.{Job}
use Rattle.csp_rdp_header.specs.Head.{parted}
use Rattle.csp_rdp_header.specs.declared.head.RdpHead.{RdpHead}
use Rattle.csp_route.specs.Routes.{route_of}
use Rattle.csp_route.specs.declared.row.Row.{Row}
use Rattle.csp_service.specs.Answers as services
use Rattle.csp_service.specs.declared.answers.Served.{Served}
use Rattle.csp_service.specs.declared.answers.Served.TheVariants.{NoService, Refused, Reply, Silent}
use Rattle.csp_service.specs.declared.stats.Count.TheVariants as count
use Rattle.csp_stack.specs.Comes.{heard_at_port, heard_at_socket, heard_elsewhere}
use Rattle.csp_stack.specs.Config.{opening_state}
use Rattle.csp_stack.specs.Counting.{came_in, counting, was_full}
use Rattle.csp_stack.specs.Readings.{is_checked, is_here, is_pushed, is_secured, item_in, buffer_in}
use Rattle.csp_stack.specs.Router.{Facts, Leaving, State, at_rest, flows_of, router}
use Rattle.csp_stack.specs.Rules.{◌>>=◌, Arrival, Decided, Left, Ruling, accepting, addressed, answer_flags, at_connection, by_answer, by_connection, by_row, by_service, by_slot, by_socket, connection_of, for_this_node, forwarded, heard, invitation_of, inviting, is_lacking, is_mixed, made_on, not_reliable, not_secured, of_no_connection, on_connection, opening, owner_for, packet_in, requested, sent, sent_where, served, to_connection, to_machine, to_no_socket, to_slot, with_payload, without_checksum, sent_on}
use Rattle.csp_stack.specs.Serving.{facts_of, reply_in, with_facts}
use Rattle.csp_stack.specs.Sources.{place_with_work, source_at}
use Rattle.csp_stack.specs.Told.{Told, discarded, kept, leaving, ported, unchanged, with_ports}
use Rattle.csp_stack.proofs.Public.{by_rest, heard_here}
use Rattle.csp_stack.specs.Turn.{asked_at, until_answer, asks_at, brought, delivering, giving, job_due, no_room, first_rule, plan_for, plan_of, pushing, replying, timed, told_at, turn_of, work_at, work_found}
use Rattle.csp_stack.specs.declared.plan.Plan.{Plan}
use Rattle.csp_stack.specs.declared.plan.Plan.TheVariants as plan
use Rattle.csp_stack.specs.declared.sources.Source.{Source}
use Rattle.csp_stack.specs.declared.sources.Source.TheVariants as source
use Rattle.csp_consistent.specs.Reading.{got_by, gets, is_queue, put_by, puts}
use Rattle.csp_prefix.specs.Routers.{ComesSo, opening_router, router_steps}
use Rattle.csp_prefix.proofs.Public.{task_there}
use Rattle.csp_blobs.specs.Asking as asking
use Rattle.csp_blobs.specs.Asking.{AnswerNoMore, answered_in, asked_in, is_note}
use Rattle.csp_blobs.proofs.AnswerItems.{counted, counted_few, counts_append, none_counts, one_counts}
use Rattle.csp_blobs.proofs.AnswerPorts.{NoMore, accepts, answers_one, binds, both, connects_to, delivers, due, ends_by, hands, invites, machines, one_of, stays, submits_in, tells, times}

-- ---- what a router hears leaves no more due

abbrev Quiet : State → Told → Type 0
Quiet s t = NoMore s.ports t.state.ports

abbrev RulesSo : State → Ruling → Type 0
RulesSo s (Decided t) = Quiet s t
RulesSo s (Left p) = ⊤

rules : (s : State) (r : Ruling) (next : Arrival → Told) → RulesSo s r → ((p : Arrival) → Quiet s (next p)) → Quiet s (r >>= next)
rules s (Decided t) next h k = h
rules s (Left p) next h k = k p

sent_so : (own : Bool) (row : Option Row) (s : State) (b : Content) → Quiet s (sent_where own row s b)
sent_so true row s b = stays s.ports
sent_so false None s b = stays s.ports
sent_so false (Some row) s b = stays s.ports

sends : (f : Facts) (s : State) (b : Content) → Quiet s (sent f s b)
sends f s b = sent_so ((header_at b.header).dst == f.addr) (route_of s.routes (header_at b.header).dst) s b

forwards : (row : Option Row) (s : State) (p : Arrival) → Quiet s (forwarded row s p)
forwards None s p = stays s.ports
forwards (Some row) s p = one_of (Quiet s) (row.iface == p.mark) (discarded s why.BackOut p.buffer) (leaving s (by_row row p.buffer)) (stays s.ports) (stays s.ports)

payload_so : (o : Option (List ℕ)) (s : State) (p : Arrival) → RulesSo s (with_payload o s p)
payload_so None s p = stays s.ports
payload_so (Some bytes) s p = tt

machine_so : (o : Option (List ℕ × RdpHead)) (s : State) (seat : Seat) (time : ℕ) (p : Arrival) → seat.slot < SLOTS → Quiet s (to_machine o s seat time p)
machine_so None s seat time p low = stays s.ports
machine_so (Some read) s seat time p low = hands s.ports seat read.1 (record p.buffer { payload = read.0 }) time low

connection_so : (s : State) (seat : Seat) (time : ℕ) (p : Arrival) → seat.slot < SLOTS → Quiet s (at_connection seat s time p)
connection_so s seat time p low =
    one_of (Quiet s) (is_mixed s seat p) (discarded s why.Mixed p.buffer)
    (if is_lacking s p then discarded s why.Required p.buffer else to_connection s seat time p)
    (stays s.ports)
    (one_of (Quiet s) (is_lacking s p) (discarded s why.Required p.buffer) (to_connection s seat time p) (stays s.ports)
    (one_of (Quiet s) (is_reliable p.head.flags.0) (to_machine (parted p.buffer.payload) s seat time p) (leaving s (to_slot seat p.buffer))
    (machine_so (parted p.buffer.payload) s seat time p low) (stays s.ports)))

found_so : (o : Option ℕ) (s : State) (time : ℕ) (p : Arrival) → RulesSo s (by_connection (option_map seat_of o) s time p)
found_so None s time p = tt
found_so (Some place) s time p = connection_so s (seat_of place) time p (omega arith)

accepting_so : (free : Option Seat) (s : State) (p : Arrival) → Quiet s (accepting free s p)
accepting_so None s p = stays s.ports
accepting_so (Some seat) s p = accepts s.ports seat (connection_of p.head) p.head.prio (answer_flags p.head)

inviting_so : (i : Result Invitation Discard) (free : Option Seat) (f : Facts) (s : State) (time : ℕ) (p : Arrival) → Quiet s (inviting i free (router f s) time p)
inviting_so (Err reason) free f s time p = stays s.ports
inviting_so (Ok i) None f s time p = stays s.ports
inviting_so (Ok i) (Some seat) f s time p = invites (flows_of f) s.ports seat (connection_of p.head) p.head.prio (answer_flags p.head) i time

opening_so : (app : ℕ) (f : Facts) (s : State) (time : ℕ) (p : Arrival) → Quiet s (opening app f s time p)
opening_so app f s time p =
    let free : Option Seat = free_seat s.ports.conns app in
    one_of (Quiet s) (is_reliable p.head.flags.0) (inviting (invitation_of p.buffer) free (router f s) time p) (accepting free s p)
    (inviting_so (invitation_of p.buffer) free f s time p) (accepting_so free s p)

socket_so : (owner : Option (ℕ × ℕ)) (f : Facts) (s : State) (time : ℕ) (p : Arrival) → RulesSo s (by_socket owner f s time p)
socket_so None f s time p = tt
socket_so (Some owner) f s time p =
    one_of (Quiet s) (is_lacking s p) (discarded s why.Required p.buffer) (opening owner.0 f s time p) (stays s.ports) (opening_so owner.0 f s time p)

answer_so : (a : Served) (reply : List ℕ) (f : Facts) (s : State) (p : Arrival) → Quiet s (by_answer a reply f s p)
answer_so Reply reply f s p = sends f s (reply_in f p.head p.buffer reply)
answer_so (Silent e) reply f s p = stays s.ports
answer_so (Refused error) reply f s p = stays s.ports
answer_so NoService reply f s p = stays s.ports

service_so : (f : Facts) (s : State) (time : ℕ) (p : Arrival) → Quiet s (by_service f s time p)
service_so f s time p =
    let o : services.Outcome = services.answered p.head.dport p.buffer.payload (facts_of f s) time in
    answer_so o.served o.reply f (with_facts s o.facts) p

hears_elsewhere : (f : Facts) (s : State) (time : ℕ) (p : Arrival) → Quiet s (heard_elsewhere f s time p)
hears_elsewhere f s time p =
    rules s (not_reliable s p) (λ q. by_service f s time q)
    (one_of (RulesSo s) (is_reliable p.head.flags.0) (Decided (discarded s why.NoSocket p.buffer)) (Left p) (stays s.ports) tt) (λ q. service_so f s time q)

hears_at_socket : (f : Facts) (s : State) (time : ℕ) (p : Arrival) → Quiet s (heard_at_socket f s time p)
hears_at_socket f s time p =
    rules s (to_no_socket f s time p) (λ q. heard_elsewhere f s time q) (socket_so (owner_for s p) f s time p) (λ q. hears_elsewhere f s time q)

hears_at_port : (f : Facts) (s : State) (time : ℕ) (p : Arrival) → Quiet s (heard_at_port f s time p)
hears_at_port f s time p =
    rules s (of_no_connection s time p) (λ q. heard_at_socket f s time q) (found_so (position (is_between (connection_of p.head)) s.ports.conns.slots) s time p)
    (λ q. hears_at_socket f s time q)

hears_rest : (f : Facts) (s : State) (time : ℕ) (p : Arrival) → Quiet s (by_rest f s time p)
hears_rest f s time p =
    rules s (without_checksum s p) (λ q. heard_at_port f s time q)
    (one_of (RulesSo s) (is_checked p.head) (with_payload (payload_of p.buffer.payload) s p) (Left p) (payload_so (payload_of p.buffer.payload) s p) tt)
    (λ q. hears_at_port f s time q)

hears_here : (f : Facts) (s : State) (time : ℕ) (p : Arrival) → Quiet s (heard_here f s time p)
hears_here f s time p =
    rules s (not_secured s p) (λ q. by_rest f s time q)
    (one_of (RulesSo s) (is_secured p.head) (Decided (discarded (counting s p.mark count.AuthErrors 1) why.Refused p.buffer)) (Left p) (stays s.ports) tt)
    (λ q. hears_rest f s time q)

hears : (f : Facts) (s : State) (time : ℕ) (p : Arrival) → Quiet s (heard f s time p)
hears f s time p =
    rules s (for_this_node f s p) (λ q. heard_here f s time q)
    (one_of (RulesSo s) (is_here f.addr p.head) (Left p) (Decided (forwarded (route_of s.routes p.head.dst) s p)) tt (forwards (route_of s.routes p.head.dst) s p))
    (λ q. hears_here f s time q)

-- ---- what an application hands over leaves one more due where it asks, and else no more

on_connection_so : (c : Connection) (f : Facts) (s : State) (seat : Seat) (time : ℕ) (b : Content) → Quiet s (on_connection c (router f s) seat time b)
on_connection_so c f s seat time b =
    one_of (Quiet s) (is_reliable (terms_at s.ports seat).flags) (ported s (submitting s.ports seat b time)) (sent_on c (router f s) seat b)
    (submits_in (machine_at s.ports seat).state s.ports seat b time) (sends f s (addressed f c (terms_at s.ports seat) b))

by_slot_so : (x : Slot) (f : Facts) (s : State) (seat : Seat) (time : ℕ) (b : Content) → Quiet s (by_slot x (router f s) seat time b)
by_slot_so has.Free f s seat time b = stays s.ports
by_slot_so has.Held f s seat time b = stays s.ports
by_slot_so (has.Open c) f s seat time b = on_connection_so c f s seat time b

by_mark_so : (unmarked : Bool) (f : Facts) (s : State) (seat : Seat) (time : ℕ) (b : Content) → Quiet s (if unmarked then sent f s b else by_slot (slot_at s.ports.conns seat) (router f s) seat time b)
by_mark_so true f s seat time b = sends f s b
by_mark_so false f s seat time b = by_slot_so (slot_at s.ports.conns seat) f s seat time b

-- what an item asks counts for its application alone
abbrev asked_of : (is_its : Bool) → ItemShown → ℕ
asked_of c i = counted c (is_note asking.asks i)

quiet_served : (f : Facts) (s : State) (t : Told) (a app : ℕ) (i : ItemShown) → Quiet s t → due a t.state.ports ≤ due a s.ports + asked_of (app == a) i
quiet_served f s t a app i h = omega (arith, h a)

requests : (n : Note) (f : Facts) (s : State) (a app time : ℕ) → IsRequest n
    → due a (requested f s app time n).state.ports ≤ due a s.ports + asked_of (app == a) (item.Note n)
requests (note.Bind port need) f s a app time h = binds s.ports app port need a
requests (note.Connect slot dest port prio flags from) f s a app time h =
    connects_to (flows_of f) s.ports (record { seat = seat app slot; dest = dest; port = port; prio = prio; flags = flags; from = from }) time h a
requests (note.Close slot) f s a app time h = ends_by (is_closing (terms_at s.ports (seat app slot)).wish) s.ports (seat app slot) time h a
requests note.Bound f s a app time h = absurd h
requests (note.Connected slot) f s a app time h = absurd h
requests (note.Refused why) f s a app time h = absurd h
requests (note.Closed slot) f s a app time h = absurd h
requests (note.Down slot) f s a app time h = absurd h

serves : (i : ItemShown) (f : Facts) (s : State) (a app time : ℕ) → IsUpItem i
    → due a (served f s time app i).state.ports ≤ due a s.ports + asked_of (app == a) i
serves (item.Packet mark b) f s a app time up =
    quiet_served f s (if mark == UNMARKED then sent f s b else by_slot (slot_at s.ports.conns (seat app mark)) (router f s) (seat app mark) time b) a app (item.Packet mark b) (by_mark_so (mark == UNMARKED) f s (seat app mark) time b)
serves (item.Note n) f s a app time up = requests n f s a app time up
serves (item.Frame frame) f s a app time up = absurd up

-- ---- a router of these facts, and one of its applications

module _ (f : Facts) (a : ℕ) where
  -- what a turn answers, and what is due after it, is no more than was due and what it was asked
  abbrev Evens : OpShown → AnswerShown → PlainPorts → PlainPorts → Type 0
  Evens o x p q = answered_in (put_by (queue.Down a) o x) + due a q ≤ asked_in (got_by (queue.Up a) o x) + due a p

  -- it answers nothing, and leaves no more due
  evens_quiet : (o : OpShown) (x : AnswerShown) (p q : PlainPorts) → answered_in (put_by (queue.Down a) o x) ≡ 0 → NoMore p q → Evens o x p q
  evens_quiet o x p q e h = omega (arith, e, h a)

  -- a push of what is no answer answers nothing
  pushed_none : (q : QueueId) (i : ItemShown) (x : AnswerShown) → is_note asking.answers i ≡ false → answered_in (put_by (queue.Down a) (op.Push q i) x) ≡ 0
  pushed_none q i answer.Pushed e = none_counts asking.answers (is_queue (queue.Down a) q) i e
  pushed_none q i _ e = refl

  -- the state when the answer comes
  abbrev until : State → ℕ → Plan → State
  until s time p = at_rest (until_answer f s time p)

  -- the ports after it
  abbrev ports_after : State → ℕ → Plan → AnswerShown → PlainPorts
  ports_after s time p x = ((turn_of f (until s time p) time p).told x).state.ports

  abbrev Turns : State → ℕ → Plan → AnswerShown → Type 0
  Turns s time p x = Evens (turn_of f s time p).asks x s.ports (ports_after s time p x)

  -- ---- each plan

  -- what comes of an answer adds nothing where what it brings adds nothing
  brought_so : {X : Type 0} (p : PlainPorts) (s : State) (comes : X → Told) (o : Option X) → NoMore p s.ports → ((x : X) → NoMore p (comes x).state.ports) → NoMore p (brought s comes o).state.ports
  brought_so p s comes None h each = h
  brought_so p s comes (Some x) h each = each x

  pushed_so : (p : PlainPorts) (pushed : Bool) (one other : Told) → NoMore p one.state.ports → NoMore p other.state.ports → NoMore p (cond pushed one other).state.ports
  pushed_so p true one other h g = h
  pushed_so p false one other h g = g

  back_so : (s : State) (o : Option Arrival) → NoMore s.ports (no_room s o).state.ports
  back_so s o = brought_so s.ports s _ o (stays s.ports) (λ p. stays s.ports)

  turn_give : (s : State) (time : ℕ) (x : AnswerShown) → Turns s time plan.Give x
  turn_give s time x =
      let t : State = until s time plan.Give in
      evens_quiet (giving s.trash) x s.ports (ports_after s time plan.Give x) (none_put s.trash x) (brought_so s.ports t (kept t) (buffer_in x) (stays s.ports) (λ b. stays s.ports))
    where
      none_put : (bs : List Content) (x : AnswerShown) → answered_in (put_by (queue.Down a) (giving bs) x) ≡ 0
      none_put [] x = refl
      none_put (b ∷ bs) x = refl

  turn_push : (q : QueueId) (bytes : ℕ) (s : State) (time : ℕ) (x : AnswerShown) → Turns s time (plan.Push q bytes) x
  turn_push q bytes s time x =
      evens_quiet (pushing s.out) x s.ports (ports_after s time (plan.Push q bytes) x) (none_put s.out x)
      (pushed_so s.ports (is_pushed x) _ _ (stays s.ports) (back_so (was_full (until s time (plan.Push q bytes)) q) (packet_in (item_in x))))
    where
      none_put : (o : Option Leaving) (x : AnswerShown) → answered_in (put_by (queue.Down a) (pushing o) x) ≡ 0
      none_put None x = refl
      none_put (Some o) x = pushed_none o.queue (item.Packet o.mark o.buffer) x refl

  turn_hear : (s : State) (time : ℕ) (x : AnswerShown) → Turns s time plan.Hear x
  turn_hear s time x =
      let t : State = until s time plan.Hear in
      evens_quiet (op.Pop queue.Inbox) x s.ports (ports_after s time plan.Hear x) refl
      (brought_so s.ports t (λ p. heard f (came_in t p.mark p.buffer) time p) (packet_in (item_in x)) (stays s.ports) (λ p. hears f (came_in t p.mark p.buffer) time p))

  turn_serve : (k : ℕ) (s : State) (time : ℕ) (x : AnswerShown) → Fits (op.Pop (queue.Up k)) x → ComesSo (op.Pop (queue.Up k)) x → Turns s time (plan.Serve k) x
  turn_serve k s time (answer.Popped i) fits comes =
      let after : due a (served f (until s time (plan.Serve k)) time k i).state.ports ≤ due a s.ports + asked_of (k == a) i =
      serves i f (until s time (plan.Serve k)) a k time comes.0 in
      let got : asked_in (got_by (queue.Up a) (op.Pop (queue.Up k)) (answer.Popped i)) ≡ asked_of (k == a) i = one_counts asking.asks (k == a) i in
      evens_served (due a (served f (until s time (plan.Serve k)) time k i).state.ports) (due a s.ports) (asked_of (k == a) i)
      (asked_in (got_by (queue.Up a) (op.Pop (queue.Up k)) (answer.Popped i))) after got
    where
      evens_served : (m n c d : ℕ) → m ≤ n + c → d ≡ c → 0 + m ≤ d + n
      evens_served m n c d h e = omega (arith, h, e)
  turn_serve k s time answer.Empty fits comes = evens_quiet (op.Pop (queue.Up k)) answer.Empty s.ports s.ports refl (stays s.ports)
  turn_serve k s time _ fits comes = absurd fits

  turn_reply : (k : ℕ) (os : List Owed) (s : State) (time : ℕ) (x : AnswerShown) → s.ports.owed ≡ os → Fits (replying os) x
      → Evens (replying os) x s.ports (ports_after s time (plan.Reply k) x)
  turn_reply k [] s time answer.Nothing e fits = evens_quiet op.Nothing answer.Nothing s.ports s.ports refl (stays s.ports)
  turn_reply k [] s time _ e fits = absurd fits
  turn_reply k (o ∷ os) s time answer.Pushed e fits =
      let put : answered_in (put_by (queue.Down a) (op.Push (queue.Down o.app) (item.Note o.note)) answer.Pushed)
      ≡ counted (o.app == a) (asking.answers o.note) =
      one_counts asking.answers (o.app == a) (item.Note o.note) in
      evens_replied (answered_in (put_by (queue.Down a) (op.Push (queue.Down o.app) (item.Note o.note)) answer.Pushed))
      (counted (o.app == a) (asking.answers o.note)) (due a (answered s.ports).ports) (due a s.ports) (cond (o.app == a) 1 0) put
      (counted_few (o.app == a) (asking.answers o.note)) (answers_one o os s.ports e a)
    where
      evens_replied : (d b m n c : ℕ) → d ≡ b → b ≤ c → m + c ≤ n → d + m ≤ 0 + n
      evens_replied d b m n c e h k = omega (arith, e, h, k)
  turn_reply k (o ∷ os) s time (answer.Full i) e fits =
      evens_quiet (op.Push (queue.Down o.app) (item.Note o.note)) (answer.Full i) s.ports
      (no_room (until s time (plan.Reply k)) (packet_in (Some i))).state.ports refl (back_so (until s time (plan.Reply k)) (packet_in (Some i)))
  turn_reply k (o ∷ os) s time _ e fits = absurd fits

  turn_tell : (seat : Seat) (s : State) (time : ℕ) (x : AnswerShown) → Turns s time (plan.Tell seat) x
  turn_tell seat s time x =
      evens_quiet (op.Push (queue.Down seat.app) (item.Note (note.Down seat.slot))) x s.ports (ports_after s time (plan.Tell seat) x) (pushed_none (queue.Down seat.app) (item.Note (note.Down seat.slot)) x refl)
      (pushed_so s.ports (is_pushed x) _ _ (tells seat s.ports) (back_so (until s time (plan.Tell seat)) (packet_in (item_in x))))

  turn_deliver : (seat : Seat) (s : State) (time : ℕ) (x : AnswerShown) → seat.slot < SLOTS → Turns s time (plan.Deliver seat) x
  turn_deliver seat s time x low =
      let t : State = until s time (plan.Deliver seat) in
      let q : PlainPorts = turned seat s.ports in
      let taken : NoMore s.ports t.ports = machines q seat (Some (without_delivery (machine_at q seat))) in
      evens_quiet (delivering (delivery (machine_at s.ports seat)) seat) x s.ports (ports_after s time (plan.Deliver seat) x) (none_put (delivery (machine_at s.ports seat)))
      (pushed_so s.ports (is_pushed x) _ _ (both s.ports t.ports (delivered time seat t.ports).ports taken (delivers time seat t.ports low))
      (brought_so s.ports t (λ p. unchanged (with_ports t (kept_again seat p.buffer t.ports))) (packet_in (item_in x)) taken
      (λ p. both s.ports t.ports (kept_again seat p.buffer t.ports) taken (machines t.ports seat (Some (keeping_again (anywhere p.buffer) (machine_at t.ports seat)))))))
    where
      none_put : (o : Option PlainBuffer) → answered_in (put_by (queue.Down a) (delivering o seat) x) ≡ 0
      none_put None = refl
      none_put (Some b) = pushed_none (queue.Down seat.app) (item.Packet seat.slot b.picture) x refl

  made_so : (y : Slot) (j : Job) (s : State) (seat : Seat) (time : ℕ) (b : Content) → Quiet s (made_on y (seat, j) (router f s) time b)
  made_so has.Free j s seat time b = stays s.ports
  made_so has.Held j s seat time b = stays s.ports
  made_so (has.Open c) j s seat time b =
      let t : State = with_ports s (making j time seat s.ports) in
      let x : Content = addressed f c (terms_at s.ports seat) (made_in j time seat b s.ports) in
      both s.ports t.ports (sent f t x).state.ports (machines s.ports seat (Some (sends_job j time (machine_at s.ports seat)))) (sends f t x)

  turn_make : (seat : Seat) (j : Job) (s : State) (time : ℕ) (x : AnswerShown) → Turns s time (plan.Make seat j) x
  turn_make seat j s time x =
      let t : State = until s time (plan.Make seat j) in
      evens_quiet op.Take x s.ports (ports_after s time (plan.Make seat j) x) refl
      (brought_so s.ports t (made_on (slot_at t.ports.conns seat) (seat, j) (router f t) time) (buffer_in x) (stays s.ports) (made_so (slot_at t.ports.conns seat) j t seat time))

  -- ---- the plan of a turn

  -- a packet is delivered on a slot that an application may have
  abbrev IsPlaced : Plan → Type 0
  IsPlaced (plan.Deliver s) = s.slot < SLOTS
  IsPlaced _ = ⊤

  turn : (p : Plan) (s : State) (time : ℕ) (x : AnswerShown) → IsPlaced p → Fits (turn_of f s time p).asks x → ComesSo (turn_of f s time p).asks x → Turns s time p x
  turn plan.Rest s time x low fits comes = evens_quiet op.Nothing x s.ports s.ports refl (stays s.ports)
  turn plan.Give s time x low fits comes = turn_give s time x
  turn (plan.Push q bytes) s time x low fits comes = turn_push q bytes s time x
  turn plan.Hear s time x low fits comes = turn_hear s time x
  turn (plan.Serve k) s time x low fits comes = turn_serve k s time x fits comes
  turn (plan.Reply k) s time x low fits comes = turn_reply k s.ports.owed s time x refl fits
  turn (plan.Tell seat) s time x low fits comes = turn_tell seat s time x
  turn (plan.Deliver seat) s time x low fits comes = turn_deliver seat s time x low
  turn (plan.Make seat j) s time x low fits comes = turn_make seat j s time x

  placed_task : (t : Task) (s : Seat) → s.slot < SLOTS → IsPlaced (plan_for s t)
  placed_task task.Tell s low = tt
  placed_task task.Deliver s low = low
  placed_task (task.Make j) s low = tt

  placed_jobs : (os : List Owed) (o : Option (Seat × Task)) (time : ℕ) (p : PlainPorts) → next_task time p ≡ o → IsPlaced (job_due os o)
  placed_jobs (o ∷ os) t time p e = tt
  placed_jobs [] None time p e = tt
  placed_jobs [] (Some t) time p e = placed_task t.1 t.0 (task_there time p t e).slot_there

  placed_at : (x : Source) (s : State) (time : ℕ) → IsPlaced (work_at s time x)
  placed_at source.Inbox s time = tt
  placed_at (source.App k) s time = tt
  placed_at source.Jobs s time = placed_jobs s.ports.owed (next_task time s.ports) time s.ports refl

  placed_found : (o : Option ℕ) (s : State) (time : ℕ) → IsPlaced (work_found f s time o)
  placed_found None s time = tt
  placed_found (Some k) s time = placed_at (source_at f k) s time

  placed_by : (bs : List Content) (o : Option Leaving) (work : Plan) → IsPlaced work → IsPlaced (first_rule bs o work)
  placed_by (b ∷ bs) o work h = tt
  placed_by [] (Some o) work h = tt
  placed_by [] None work h = h

  placed : (s : State) (time : ℕ) → IsPlaced (plan_of f s time)
  placed s time = placed_by s.trash s.out (work_found f s time (place_with_work f s time)) (placed_found (place_with_work f s time) s time)

  -- ---- a whole turn, and a run

  turn_evens : (s : State) (time : ℕ) (x : AnswerShown) → Fits (asks_at f s time) x → ComesSo (asks_at f s time) x
      → Evens (asks_at f s time) x s.ports (told_at f (asked_at f s time) time x).state.ports
  turn_evens s time x fits comes =
      let t : State = timed s time in
      let p : Plan = plan_of f t time in
      let first : due a t.ports ≤ due a s.ports = times time s.ports a in
      let last : Evens (turn_of f t time p).asks x t.ports (ports_after t time p x) = turn p t time x (placed t time) fits comes in
      evens_after (answered_in (put_by (queue.Down a) (turn_of f t time p).asks x) + due a (ports_after t time p x))
      (asked_in (got_by (queue.Up a) (turn_of f t time p).asks x)) (due a t.ports) (due a s.ports) last first
    where
      evens_after : (m c n k : ℕ) → m ≤ c + n → n ≤ k → m ≤ c + k
      evens_after m c n k h g = omega (arith, h, g)

  run_evens : (before after : List Entry) (time : ℕ) (s : State) → IsRun router_steps time (record { facts = f; state = s }) (before ++ after)
      → AllByRecursion (λ e. ComesSo e.op e.answer) (before ++ after)
      → answered_in (puts (queue.Down a) before) ≤ asked_in (gets (queue.Up a) before) + due a s.ports
  run_evens [] after time s run comes = omega arith
  run_evens (e ∷ before) after time s run comes =
      let t : State = (told_at f (asked_at f s e.time) e.time e.answer).state in
      let one : answered_in (put_by (queue.Down a) e.op e.answer) + due a t.ports ≤ asked_in (got_by (queue.Up a) e.op e.answer) + due a s.ports =
      subst (λ o. Evens o e.answer s.ports t.ports) (sym run.1.op)
      (turn_evens s e.time e.answer run.1.fits (subst (λ o. ComesSo o e.answer) run.1.op comes.0)) in
      let rest : answered_in (puts (queue.Down a) before) ≤ asked_in (gets (queue.Up a) before) + due a t.ports =
      run_evens before after e.time t run.2 comes.1 in
      omega (
        arith,
        one,
        rest,
        counts_append asking.answers (put_by (queue.Down a) e.op e.answer) (puts (queue.Down a) before),
        counts_append asking.asks (got_by (queue.Up a) e.op e.answer) (gets (queue.Up a) before),
      )

-- ---- the law

none_due : (apps a : ℕ) → due a (ports_of apps) ≡ 0
none_due apps a =
    let none : wishes a (terms_of (ports_of apps)) ≡ 0 = wishes-none ALL_SLOTS a in
    omega (arith, none)

pub no_more : AnswerNoMore
no_more f routes es before after app log e =
    let run : IsRun router_steps 0 (opening_router f routes) (before ++ after) = subst (IsRun router_steps 0 (opening_router f routes)) e log.run in
    let comes : AllByRecursion (λ x. ComesSo x.op x.answer) (before ++ after) = subst (AllByRecursion (λ x. ComesSo x.op x.answer)) e log.comes in
    omega (arith, run_evens f app before after 0 (opening_state f.apps routes) run comes, none_due f.apps app)
