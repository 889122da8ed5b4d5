-- A router hands packets to its inbox, its applications and its interfaces alone, and takes them from its inbox and its applications.
use Rattle.std.proofs.Common.{◌≡◌, ℕ, ◌+◌, ◌-◌, ◌*◌, ◌<◌, ◌≤◌, ◌==◌, ⊎_elim, Bool, true, false, cond, nat_le, take, Option, None, Some, List, [], ◌∷◌, map, length, Result, Ok, Err, refl, sym, ap, ◌∙◌, subst, arith, zero, suc}
use Rattle.std.specs.Prelude.{if◌then◌else◌, ⊤}
use Rattle.std.specs.FinMap as finite
use Rattle.std.specs.FinMap.{find}
use Rattle.std.specs.List.{All, position}
use Rattle.std.specs.Option.{option_map}
use Rattle.std.specs.Ordering.{eq_by_cmp}
use Rattle.std.proofs.Math.ListN.{drop_of_length-le}
use Rattle.std.proofs.Math.Seq.{take-nil}
use Rattle.std.proofs.lemmas.Bool.{cases_lt, leb-true}
use Rattle.std.proofs.lemmas.List.Elements.{All-head, All-tail}
use Rattle.std.proofs.lemmas.List.Quantifiers.{position-Some}
use Rattle.csp_base.specs.Seat.{seat}
use Rattle.csp_base.specs.declared.seat.Seat.{Seat}
use Rattle.csp_buffer.specs.Content.{Content}
use Rattle.csp_buffer.specs.PlainBuffer.{PlainBuffer}
use Rattle.csp_conn.specs.Opening.{first_free, found, free_seat}
use Rattle.csp_conn.specs.PlainConns.{PlainConns, place_of, seat_of, slot_at, slots_of}
use Rattle.csp_conn.specs.Slots.{is_between, is_free}
use Rattle.csp_base.specs.declared.limits.TheConstants.{SLOTS}
use Rattle.csp_conn.specs.declared.slot.Connection.{Connection}
use Rattle.csp_conn.specs.declared.slot.Slot.{Slot}
use Rattle.csp_conn.specs.declared.slot.Slot.TheVariants as slot
use Rattle.csp_conserved.proofs.Shapes.{accepted_shape, answered_shape, bind_shape, close_shape, connect_shape, delivered_shape, either, handing_shape, shape, submitting_shape, timed_shape}
use Rattle.csp_crc.specs.Check.{payload_of}
use Rattle.csp_header.specs.Word.{header_at}
use Rattle.csp_log.specs.declared.event.Discard.{Discard}
use Rattle.csp_log.specs.declared.event.Discard.TheVariants as why
use Rattle.csp_log.specs.declared.note.Note.{Note}
use Rattle.csp_log.specs.declared.note.Note.TheVariants as note
use Rattle.csp_log.specs.declared.places.QueueId.{QueueId}
use Rattle.csp_log.specs.declared.places.QueueId.TheVariants as queue
use Rattle.csp_log.specs.declared.places.TheConstants.{UNMARKED}
use Rattle.csp_log.specs.declared.shown.AnswerShown.{AnswerShown}
use Rattle.csp_log.specs.declared.shown.ItemShown.{ItemShown}
use Rattle.csp_log.specs.declared.shown.ItemShown.TheVariants as item
use Rattle.csp_log.specs.declared.shown.OpShown.{OpShown}
use Rattle.csp_log.specs.declared.shown.OpShown.TheVariants as op
use Rattle.csp_ports.specs.Asking.{is_reliable}
use Rattle.csp_ports.specs.Packets.{submitting}
use Rattle.csp_ports.specs.PlainPorts.{machine_at, terms_at}
use Rattle.csp_ports.specs.Tasks.{making, next_task}
use Rattle.csp_ports.specs.declared.handing.Invitation.{Invitation}
use Rattle.csp_ports.specs.declared.owed.Owed.{Owed}
use Rattle.csp_ports.specs.declared.task.Task.{Task}
use Rattle.csp_ports.specs.declared.task.Task.TheVariants as task
use Rattle.csp_prefix.proofs.Public.{task_there}
use Rattle.csp_rdp.specs.Jobs.{delivery}
use Rattle.csp_rdp.specs.declared.jobs.Job.{Job}
use Rattle.csp_rdp_header.specs.Head.{parted}
use Rattle.csp_rdp_header.specs.declared.head.RdpHead.{RdpHead}
use Rattle.csp_route.specs.Prefix.{prefix_cmp, prefix_of}
use Rattle.csp_route.specs.Routes.{Hop, IsWithin, Routes, longest_below, route_of, row_or}
use Rattle.csp_route.specs.declared.prefix.Prefix.{Prefix}
use Rattle.csp_route.specs.declared.prefix.TheConstants.{MAX_MASK}
use Rattle.csp_route.specs.declared.row.Row.{Row}
use Rattle.csp_service.proofs.Public.{answered_leads}
use Rattle.csp_service.specs.Answers.{Outcome, answered}
use Rattle.csp_service.specs.declared.answers.Served.{Served}
use Rattle.csp_service.specs.declared.answers.Served.TheVariants.{NoService, Refused, Reply, Silent}
use Rattle.csp_service.specs.declared.stats.Count.TheVariants as count
use Rattle.csp_stack.proofs.Public.{by_rest, heard_here}
use Rattle.csp_stack.specs.Comes.{heard_at_port, heard_at_socket, heard_elsewhere}
use Rattle.csp_stack.specs.Counting.{came_in, counting, was_full}
use Rattle.csp_stack.specs.Readings.{buffer_in, is_checked, is_here, is_pushed, is_secured, item_in}
use Rattle.csp_stack.specs.Router.{Facts, Leaving, State, flows_of, router}
use Rattle.csp_stack.specs.Rules.{◌>>=◌, Arrival, Ruling, Decided, Left, packet_in}
use Rattle.csp_stack.specs.Rules as rules
use Rattle.csp_stack.specs.Serving.{facts_of, with_facts}
use Rattle.csp_stack.specs.Sources.{place_with_work}
use Rattle.csp_stack.specs.Told.{Told, discarded, leaving, ported, with_ports}
use Rattle.csp_stack.specs.Turn as turn
use Rattle.csp_stack.specs.declared.plan.Plan.{Plan}
use Rattle.csp_stack.specs.declared.plan.Plan.TheVariants as plan
use Rattle.csp_stack.specs.declared.sources.Source.TheVariants as source

-- ---- routes lead to interfaces that are there

found_hop : (n : ℕ) (entries : List (Prefix × Hop)) (prefix : Prefix) (hop : Hop) → All (λ (h : Hop). h.iface < n) (map (λ (e : Prefix × Hop). e.1) entries) → find prefix_cmp prefix entries ≡ Some hop → hop.iface < n
found_hop n [] prefix hop all e = absurd cc
found_hop n (x ∷ entries) prefix hop all e =
    by (eq_by_cmp prefix_cmp prefix x.0) (found_hop n entries prefix hop (All-tail (λ (h : Hop). h.iface < n) x.1 (map (λ (y : Prefix × Hop). y.1) entries) all)) e
  where
    by : (b : Bool) → (find prefix_cmp prefix entries ≡ Some hop → hop.iface < n) → cond b (Some x.1) (find prefix_cmp prefix entries) ≡ Some hop → hop.iface < n
    by true rest h = let same : x.1 ≡ hop = cc in subst (λ (h : Hop). h.iface < n) same (All-head (λ (h : Hop). h.iface < n) x.1 (map (λ (y : Prefix × Hop). y.1) entries) all)
    by false rest h = rest h

longest_leads : (n bits : ℕ) (table : Routes) (addr : ℕ) (row : Row) → IsWithin n table → longest_below bits table addr ≡ Some row → row.iface < n
unfolding longest_below
longest_leads n zero table addr row all e = absurd cc
longest_leads n (suc bits) table addr row all e =
    by (finite.get table (prefix_of addr bits)) refl (longest_leads n bits table addr row all) e
  where
    by : (o : Option Hop) → finite.get table (prefix_of addr bits) ≡ o → (longest_below bits table addr ≡ Some row → row.iface < n) → row_or (prefix_of addr bits) o (longest_below bits table addr) ≡ Some row → row.iface < n
    by None g shorter h = shorter h
    by (Some hop) g shorter h =
        let to : hop.iface ≡ row.iface = cc in
        subst (λ k. k < n) to (found_hop n (finite.entries table) (prefix_of addr bits) hop all (sym (finite.get-entries table (prefix_of addr bits)) ∙ g))

route_leads : (n : ℕ) (table : Routes) (addr : ℕ) (row : Row) → IsWithin n table → route_of table addr ≡ Some row → row.iface < n
route_leads n table addr row all e = longest_leads n (MAX_MASK + 1) table addr row all e

-- ---- slots are those of applications that are there

found_there : (c : PlainConns) (apps : ℕ) (k : Connection) (s : Seat) → length c.slots ≡ apps * SLOTS → found c k ≡ Some s → s.app < apps
found_there c apps k s all e = by (position (is_between k) c.slots) refl e
  where
    by : (o : Option ℕ) → position (is_between k) c.slots ≡ o → option_map seat_of o ≡ Some s → s.app < apps
    by None g h = absurd cc
    by (Some place) g h =
        let low : place < length c.slots = (position-Some (is_between k) c.slots place slot.Free g).0 in
        let same : seat_of place ≡ s = cc in
        subst (λ (t : Seat). t.app < apps) same (omega (arith, low, all))

free_there : (c : PlainConns) (apps app free : ℕ) → length c.slots ≡ apps * SLOTS → first_free c app ≡ Some free → app < apps
free_there c apps app free all e = ⊎_elim (λ low. low) (λ high. absurd (none_free (none high))) (cases_lt app apps)
  where
    none : apps ≤ app → slots_of c app ≡ []
    none high = ap (λ (l : List Slot). take (place_of (seat app 0) + SLOTS - place_of (seat app 0)) l) (drop_of_length-le c.slots (omega (arith, all, high))) ∙ take-nil (place_of (seat app 0) + SLOTS - place_of (seat app 0))

    none_free : slots_of c app ≡ [] → ⊥
    none_free is = let it : ◌≡◌ {A = Option ℕ} None (Some free) = sym (ap (position is_free) is) ∙ e in cc

-- ---- what holds of a router of so many applications: its slots are theirs, its table leads to its interfaces, and what is to go out goes to one of these or to the inbox

abbrev pub StaysIn : (ifaces apps : ℕ) → QueueId → Type 0
StaysIn ifaces apps queue.Inbox = ⊤
StaysIn ifaces apps (queue.Out k) = k < ifaces
StaysIn ifaces apps (queue.Down k) = k < apps
StaysIn ifaces apps _ = ⊥

abbrev IsOutIn : Facts → Option Leaving → Type 0
IsOutIn f None = ⊤
IsOutIn f (Some o) = StaysIn (length f.ifaces) f.apps o.queue

abbrev pub IsHome : Facts → State → Type 0
IsHome f s = (shape s.ports ≡ (f.apps, f.apps * SLOTS)) × IsWithin (length f.ifaces) s.routes × IsOutIn f s.out

-- ---- so it stays, whatever a rule makes of a packet

abbrev Goes : Facts → Told → Type 0
Goes f t = IsHome f t.state

go_by : (own : Bool) (row : Option Row) (f : Facts) (s : State) (b : Content) → ((x : Row) → row ≡ Some x → x.iface < length f.ifaces) → IsHome f s → Goes f (rules.sent_where own row s b)
go_by true row f s b leads h = (h.0, h.1, tt)
go_by false None f s b leads h = h
go_by false (Some row) f s b leads h = (h.0, h.1, leads row refl)

go_sent : (f : Facts) (s : State) (b : Content) → IsHome f s → Goes f (rules.sent f s b)
go_sent f s b h = go_by _ (route_of s.routes (header_at b.header).dst) f s b (λ row e. route_leads (length f.ifaces) s.routes (header_at b.header).dst row h.1 e) h

abbrev GoesBy : Facts → Ruling → Type 0
GoesBy f (Left p) = ⊤
GoesBy f (Decided t) = Goes f t

go_on : (f : Facts) (r : Ruling) (next : Arrival → Told) → GoesBy f r → ((p : Arrival) → Goes f (next p)) → Goes f (r >>= next)
go_on f (Left p) next h each = each p
go_on f (Decided t) next h each = h

go_if : (f : Facts) (b : Bool) (t : Told) (p : Arrival) → Goes f t → GoesBy f (if b then Decided t else Left p)
go_if f true t p h = h
go_if f false t p h = tt

go_unless : (f : Facts) (here : Bool) (t : Told) (p : Arrival) → Goes f t → GoesBy f (if here then Left p else Decided t)
go_unless f true t p h = tt
go_unless f false t p h = h

go_forwarded : (row : Option Row) (f : Facts) (s : State) (p : Arrival) → ((x : Row) → row ≡ Some x → x.iface < length f.ifaces) → IsHome f s → Goes f (rules.forwarded row s p)
go_forwarded None f s p leads h = h
go_forwarded (Some row) f s p leads h = either (Goes f) (row.iface == p.mark) (discarded s why.BackOut p.buffer) (leaving s (rules.by_row row p.buffer)) h (h.0, h.1, leads row refl)

go_checksum : (checked : Bool) (payload : Option (List ℕ)) (f : Facts) (s : State) (p : Arrival) → IsHome f s → GoesBy f (if checked then rules.with_payload payload s p else Left p)
go_checksum true None f s p h = h
go_checksum true (Some payload) f s p h = tt
go_checksum false payload f s p h = tt

go_machine : (read : Option (List ℕ × RdpHead)) (f : Facts) (s : State) (seat : Seat) (time : ℕ) (p : Arrival) → IsHome f s → Goes f (rules.to_machine read s seat time p)
go_machine None f s seat time p h = h
go_machine (Some read) f s seat time p h = (handing_shape s.ports seat read.1 (record p.buffer { payload = read.0 }) time ∙ h.0, h.1, h.2)

go_connection : (f : Facts) (s : State) (seat : Seat) (time : ℕ) (p : Arrival) → seat.app < f.apps → IsHome f s → Goes f (rules.to_connection s seat time p)
go_connection f s seat time p there h =
    either (Goes f) (is_reliable p.head.flags.0) (rules.to_machine (parted p.buffer.payload) s seat time p) (leaving s (rules.to_slot seat p.buffer)) (go_machine (parted p.buffer.payload) f s seat time p h) (h.0, h.1, there)

go_by_connection : (found : Option Seat) (f : Facts) (s : State) (time : ℕ) (p : Arrival) → ((seat : Seat) → found ≡ Some seat → seat.app < f.apps) → IsHome f s → GoesBy f (rules.by_connection found s time p)
go_by_connection None f s time p there h = tt
go_by_connection (Some seat) f s time p there h = go_three (rules.is_mixed s seat p) (rules.is_lacking s p) (go_connection f s seat time p (there seat refl) h)
  where
    go_three : (mixed lacking : Bool) → Goes f (rules.to_connection s seat time p)
        → Goes f (if mixed then discarded s why.Mixed p.buffer else if lacking then discarded s why.Required p.buffer else rules.to_connection s seat time p)
    go_three true lacking rest = h
    go_three false true rest = h
    go_three false false rest = rest

slots_all : (f : Facts) (s : State) → IsHome f s → length s.ports.conns.slots ≡ f.apps * SLOTS
slots_all f s h = ap (λ (x : ℕ × ℕ). x.1) h.0

go_accepting : (free : Option ℕ) (f : Facts) (s : State) (app : ℕ) (p : Arrival) → first_free s.ports.conns app ≡ free → IsHome f s → Goes f (rules.accepting (option_map (seat app) free) s p)
go_accepting None f s app p e h = h
go_accepting (Some free) f s app p e h =
    (accepted_shape s.ports (seat app free) (rules.connection_of p.head) p.head.prio (rules.answer_flags p.head) ∙ h.0, h.1, free_there s.ports.conns f.apps app free (slots_all f s h) e)

go_inviting : (i : Result Invitation Discard) (free : Option Seat) (f : Facts) (s : State) (time : ℕ) (p : Arrival) → IsHome f s → Goes f (rules.inviting i free (router f s) time p)
go_inviting (Err reason) free f s time p h = h
go_inviting (Ok i) None f s time p h = h
go_inviting (Ok i) (Some seat) f s time p h = (accepted_shape s.ports seat (rules.connection_of p.head) p.head.prio (rules.answer_flags p.head) ∙ h.0, h.1, h.2)

go_opening : (app : ℕ) (f : Facts) (s : State) (time : ℕ) (p : Arrival) → IsHome f s → Goes f (rules.opening app f s time p)
go_opening app f s time p h =
    let free = free_seat s.ports.conns app in
    let i = rules.invitation_of p.buffer in
    either (Goes f) (is_reliable p.head.flags.0) (rules.inviting i free (router f s) time p) (rules.accepting free s p) (go_inviting i free f s time p h) (go_accepting (first_free s.ports.conns app) f s app p refl h)

go_by_socket : (owner : Option (ℕ × ℕ)) (f : Facts) (s : State) (time : ℕ) (p : Arrival) → IsHome f s → GoesBy f (rules.by_socket owner f s time p)
go_by_socket None f s time p h = tt
go_by_socket (Some owner) f s time p h = either (Goes f) (rules.is_lacking s p) (discarded s why.Required p.buffer) (rules.opening owner.0 f s time p) h (go_opening owner.0 f s time p h)

go_answer : (served : Served) (reply : List ℕ) (f : Facts) (s : State) (p : Arrival) → IsHome f s → Goes f (rules.by_answer served reply f s p)
go_answer Reply reply f s p h = go_sent f s _ h
go_answer (Silent e) reply f s p h = h
go_answer (Refused error) reply f s p h = h
go_answer NoService reply f s p h = h

go_service : (f : Facts) (s : State) (time : ℕ) (p : Arrival) → IsHome f s → Goes f (rules.by_service f s time p)
go_service f s time p h =
    let o : Outcome = answered p.head.dport p.buffer.payload (facts_of f s) time in
    go_answer o.served o.reply f (with_facts s o.facts) p (h.0, answered_leads p.head.dport p.buffer.payload (facts_of f s) time h.1, h.2)

-- so the rules do, one after the other
go_heard : (f : Facts) (s : State) (time : ℕ) (p : Arrival) → IsHome f s → Goes f (rules.heard f s time p)
go_heard f s time p h =
    go_on f (rules.for_this_node f s p) (λ p. heard_here f s time p)
    (go_unless f (is_here f.addr p.head) (rules.forwarded (route_of s.routes p.head.dst) s p) p (go_forwarded (route_of s.routes p.head.dst) f s p (λ row e. route_leads (length f.ifaces) s.routes p.head.dst row h.1 e) h)) (λ p.
    go_on f (rules.not_secured s p) (λ p. by_rest f s time p) (go_if f (is_secured p.head) (discarded (counting s p.mark count.AuthErrors 1) why.Refused p.buffer) p h) (λ p.
    go_on f (rules.without_checksum s p) (λ p. heard_at_port f s time p) (go_checksum (is_checked p.head) (payload_of p.buffer.payload) f s p h) (λ p.
    go_on f (rules.of_no_connection s time p) (λ p. heard_at_socket f s time p)
    (go_by_connection (rules.seat_for s p) f s time p (λ seat e. found_there s.ports.conns f.apps (rules.connection_of p.head) seat (slots_all f s h) e) h) (λ p.
    go_on f (rules.to_no_socket f s time p) (λ p. heard_elsewhere f s time p) (go_by_socket (rules.owner_for s p) f s time p h) (λ p.
    go_on f (rules.not_reliable s p) (λ p. rules.by_service f s time p) (go_if f (is_reliable p.head.flags.0) (discarded s why.NoSocket p.buffer) p h) (λ p.
    go_service f s time p h))))))

-- ---- and of an item of an application

go_on_connection : (c : Connection) (f : Facts) (s : State) (seat : Seat) (time : ℕ) (b : Content) → IsHome f s → Goes f (rules.on_connection c (router f s) seat time b)
go_on_connection c f s seat time b h =
    either (Goes f) (is_reliable (terms_at s.ports seat).flags) (ported s (submitting s.ports seat b time)) (rules.sent_on c (router f s) seat b) (submitting_shape s.ports seat b time ∙ h.0, h.1, h.2) (go_sent f s _ h)

go_slot : (x : Slot) (f : Facts) (s : State) (seat : Seat) (time : ℕ) (b : Content) → IsHome f s → Goes f (rules.by_slot x (router f s) seat time b)
go_slot slot.Free f s seat time b h = h
go_slot slot.Held f s seat time b h = h
go_slot (slot.Open c) f s seat time b h = go_on_connection c f s seat time b h

go_mark : (unmarked : Bool) (f : Facts) (s : State) (seat : Seat) (time : ℕ) (b : Content) → IsHome f s → Goes f (if unmarked then rules.sent f s b else rules.by_slot (slot_at s.ports.conns seat) (router f s) seat time b)
go_mark true f s seat time b h = go_sent f s b h
go_mark false f s seat time b h = go_slot (slot_at s.ports.conns seat) f s seat time b h

go_request : (f : Facts) (s : State) (app time : ℕ) (n : Note) → IsHome f s → Goes f (rules.requested f s app time n)
go_request f s app time (note.Bind port need) h = (bind_shape s.ports app port need ∙ h.0, h.1, h.2)
go_request f s app time (note.Connect number dest port prio flags from) h =
    (connect_shape (flows_of f) s.ports (record { seat = seat app number; dest = dest; port = port; prio = prio; flags = flags; from = from }) time ∙ h.0, h.1, h.2)
go_request f s app time (note.Close number) h = (close_shape s.ports (seat app number) time ∙ h.0, h.1, h.2)
go_request f s app time note.Bound h = h
go_request f s app time (note.Connected number) h = h
go_request f s app time (note.Refused reason) h = h
go_request f s app time (note.Closed number) h = h
go_request f s app time (note.Down number) h = h

go_served : (f : Facts) (s : State) (time app : ℕ) (i : ItemShown) → IsHome f s → Goes f (rules.served f s time app i)
go_served f s time app (item.Packet mark b) h = go_mark (mark == UNMARKED) f s (seat app mark) time b h
go_served f s time app (item.Note n) h = go_request f s app time n h
go_served f s time app (item.Frame x) h = h

go_made : (x : Slot) (j : Job) (f : Facts) (s : State) (seat : Seat) (time : ℕ) (b : Content) → IsHome f s → Goes f (rules.made_on x (seat, j) (router f s) time b)
go_made slot.Free j f s seat time b h = h
go_made slot.Held j f s seat time b h = h
go_made (slot.Open c) j f s seat time b h = go_sent f (with_ports s (making j time seat s.ports)) _ h

-- ---- so it stays with each answer

go_brought : {X : Type 0} (f : Facts) (s : State) (comes : X → Told) (o : Option X) → IsHome f s → ((x : X) → Goes f (comes x)) → Goes f (turn.brought s comes o)
go_brought f s comes None h each = h
go_brought f s comes (Some x) h each = each x

go_pushed : (f : Facts) (pushed : Bool) (one other : Told) → Goes f one → Goes f other → Goes f (cond pushed one other)
go_pushed f true one other h g = h
go_pushed f false one other h g = g

go_back : (f : Facts) (s : State) (p : Option Arrival) → IsHome f s → Goes f (turn.no_room s p)
go_back f s p h = go_brought f s _ p h (λ x. h)

go_told : (p : Plan) (f : Facts) (s : State) (time : ℕ) (a : AnswerShown) → IsHome f s → Goes f ((turn.turn_of f s time p).told a)
go_told plan.Rest f s time a h = h
go_told plan.Give f s time a h = go_brought f s _ (buffer_in a) h (λ b. h)
go_told (plan.Push q bytes) f s time a h = go_pushed f (is_pushed a) _ _ h (go_back f (was_full s q) (packet_in (item_in a)) h)
go_told plan.Hear f s time a h = go_brought f s _ (packet_in (item_in a)) h (λ p. go_heard f (came_in s p.mark p.buffer) time p h)
go_told (plan.Serve k) f s time a h = go_brought f s _ (item_in a) h (λ i. go_served f s time k i h)
go_told (plan.Reply k) f s time a h = go_pushed f (is_pushed a) _ _ (answered_shape s.ports ∙ h.0, h.1, h.2) (go_back f s (packet_in (item_in a)) h)
go_told (plan.Tell seat) f s time a h = go_pushed f (is_pushed a) _ _ h (go_back f s (packet_in (item_in a)) h)
go_told (plan.Deliver seat) f s time a h = go_pushed f (is_pushed a) _ _ (delivered_shape time seat s.ports ∙ h.0, h.1, h.2) (go_brought f s _ (packet_in (item_in a)) h (λ p. h))
go_told (plan.Make seat j) f s time a h = go_brought f s _ (buffer_in a) h (λ b. go_made (slot_at s.ports.conns seat) j f s seat time b h)

go_until : (f : Facts) (s : State) (time : ℕ) (p : Plan) → IsHome f s → IsHome f (turn.turn_of f s time p).until
go_until f s time (plan.Push q bytes) h = (h.0, h.1, tt)
go_until f s time plan.Rest h = h
go_until f s time plan.Give h = h
go_until f s time plan.Hear h = h
go_until f s time (plan.Serve k) h = h
go_until f s time (plan.Reply k) h = h
go_until f s time (plan.Tell seat) h = h
go_until f s time (plan.Deliver seat) h = h
go_until f s time (plan.Make seat j) h = h

timed_home : (f : Facts) (s : State) (time : ℕ) → IsHome f s → IsHome f (turn.timed s time)
timed_home f s time h = (timed_shape time s.ports ∙ h.0, h.1, h.2)

-- after each turn
pub stays_home : (f : Facts) (s : State) (time : ℕ) (a : AnswerShown) → IsHome f s → IsHome f (turn.told_at f (turn.asked_at f s time) time a).state
stays_home f s time a h = go_told _ f _ time a (go_until f (turn.timed s time) time (turn.plan_of f (turn.timed s time) time) (timed_home f s time h))

-- ---- what it asks

-- a packet is pushed to a queue of these, and an application that is popped is there
abbrev pub AsksIn : (ifaces apps : ℕ) → OpShown → Type 0
AsksIn ifaces apps (op.Push q (item.Packet mark b)) = StaysIn ifaces apps q
AsksIn ifaces apps (op.Pop (queue.Up k)) = k < apps
AsksIn ifaces apps _ = ⊤

abbrev PlansIn : ℕ → Plan → Type 0
PlansIn apps (plan.Serve k) = k < apps
PlansIn apps (plan.Deliver s) = s.app < apps
PlansIn apps _ = ⊤

task_in : (apps : ℕ) (s : Seat) (t : Task) → s.app < apps → PlansIn apps (turn.plan_for s t)
task_in apps s task.Tell h = tt
task_in apps s task.Deliver h = h
task_in apps s (task.Make j) h = tt

jobs_in : (f : Facts) (s : State) (time : ℕ) (owed : List Owed) (t : Option (Seat × Task)) → next_task time s.ports ≡ t → IsHome f s → PlansIn f.apps (turn.job_due owed t)
jobs_in f s time (_ ∷ _) t e h = tt
jobs_in f s time [] None e h = tt
jobs_in f s time [] (Some t) e h = task_in f.apps t.0 t.1 (subst (λ n. t.0.app < n) (ap (λ (x : ℕ × ℕ). x.0) h.0) (task_there time s.ports t e).app_there)

work_in : (f : Facts) (s : State) (time k : ℕ) (first within : Bool) → (k == 0) ≡ first → nat_le k f.apps ≡ within → IsHome f s
    → PlansIn f.apps (turn.work_at s time (cond first source.Inbox (cond within (source.App (k - 1)) source.Jobs)))
work_in f s time k true within e g h = tt
work_in f s time zero false true e g h = absurd cc
work_in f s time (suc k) false true e g h = omega (arith, leb-true (suc k) f.apps g)
work_in f s time k false false e g h = jobs_in f s time s.ports.owed (next_task time s.ports) refl h

found_in : (f : Facts) (s : State) (time : ℕ) (place : Option ℕ) → IsHome f s → PlansIn f.apps (turn.work_found f s time place)
found_in f s time None h = tt
found_in f s time (Some k) h = work_in f s time k (k == 0) (nat_le k f.apps) refl refl h

plan_in : (f : Facts) (s : State) (time : ℕ) → IsHome f s → PlansIn f.apps (turn.plan_of f s time)
plan_in f s time h = by s.trash s.out (turn.work_found f s time (place_with_work f s time)) (found_in f s time (place_with_work f s time) h)
  where
    by : (trash : List Content) (out : Option Leaving) (work : Plan) → PlansIn f.apps work → PlansIn f.apps (turn.first_rule trash out work)
    by (_ ∷ _) out work here = tt
    by [] (Some o) work here = tt
    by [] None work here = here

op_in : (f : Facts) (s : State) (time : ℕ) (p : Plan) → PlansIn f.apps p → IsHome f s → AsksIn (length f.ifaces) f.apps (turn.turn_of f s time p).asks
op_in f s time plan.Rest here h = tt
op_in f s time plan.Give here h = by s.trash
  where
    by : (bs : List Content) → AsksIn (length f.ifaces) f.apps (turn.giving bs)
    by [] = tt
    by (_ ∷ _) = tt
op_in f s time (plan.Push _ _) here h = by s.out h.2
  where
    by : (o : Option Leaving) → IsOutIn f o → AsksIn (length f.ifaces) f.apps (turn.pushing o)
    by None g = tt
    by (Some o) g = g
op_in f s time plan.Hear here h = tt
op_in f s time (plan.Serve k) here h = here
op_in f s time (plan.Reply _) here h = by s.ports.owed
  where
    by : (os : List Owed) → AsksIn (length f.ifaces) f.apps (turn.replying os)
    by [] = tt
    by (_ ∷ _) = tt
op_in f s time (plan.Tell seat) here h = tt
op_in f s time (plan.Deliver seat) here h = by (delivery (machine_at s.ports seat))
  where
    by : (b : Option PlainBuffer) → AsksIn (length f.ifaces) f.apps (turn.delivering b seat)
    by None = tt
    by (Some b) = here
op_in f s time (plan.Make seat _) here h = tt

pub asks_in : (f : Facts) (s : State) (time : ℕ) → IsHome f s → AsksIn (length f.ifaces) f.apps (turn.asks_at f s time)
asks_in f s time h = op_in f (turn.timed s time) time (turn.plan_of f (turn.timed s time) time) (plan_in f (turn.timed s time) time (timed_home f s time h)) (timed_home f s time h)
