-- What a router makes of a packet or an item: what is to go out to an interface is marked with a next hop, and the table leads by addresses.
use Rattle.std.proofs.Common.{ℕ, ◌==◌, Bool, true, false, List, Option, None, Some, Result, Ok, Err}
use Rattle.std.specs.Prelude.{⊤, IfSome, if◌then◌else◌}
use Rattle.csp_base.specs.Seat.{seat}
use Rattle.csp_base.specs.declared.seat.Seat.{Seat}
use Rattle.csp_buffer.specs.Content.{Content}
use Rattle.csp_conn.specs.Opening.{free_seat}
use Rattle.csp_conn.specs.PlainConns.{slot_at}
use Rattle.csp_conn.specs.declared.slot.Slot.{Slot}
use Rattle.csp_conn.specs.declared.slot.Slot.TheVariants as slot
use Rattle.csp_crc.specs.Check.{payload_of}
use Rattle.csp_header.specs.Word.{header_at}
use Rattle.csp_hops.proofs.Services.{answered_leads}
use Rattle.csp_hops.proofs.Tables.{Marks, route_marks}
use Rattle.csp_consistent.specs.Addressed.{IsHopItem}
use Rattle.csp_hops.specs.Hops.{LeadsByAddresses}
use Rattle.csp_log.specs.declared.event.Discard.{Discard}
use Rattle.csp_log.specs.declared.note.Note.{Note}
use Rattle.csp_log.specs.declared.note.Note.TheVariants as note
use Rattle.csp_log.specs.declared.places.QueueId.{QueueId}
use Rattle.csp_log.specs.declared.places.QueueId.TheVariants as queue
use Rattle.csp_log.specs.declared.places.TheConstants.{UNMARKED}
use Rattle.csp_log.specs.declared.shown.ItemShown.{ItemShown}
use Rattle.csp_log.specs.declared.shown.ItemShown.TheVariants as item
use Rattle.csp_ports.specs.Asking.{is_reliable}
use Rattle.csp_ports.specs.PlainPorts.{terms_at}
use Rattle.csp_ports.specs.Tasks.{made_in, making}
use Rattle.csp_ports.specs.declared.handing.Invitation.{Invitation}
use Rattle.csp_rdp.specs.declared.jobs.Job.{Job}
use Rattle.csp_rdp_header.specs.Head.{parted}
use Rattle.csp_rdp_header.specs.declared.head.RdpHead.{RdpHead}
use Rattle.csp_route.specs.Routes.{route_of}
use Rattle.csp_route.specs.declared.row.Row.{Row}
use Rattle.csp_service.specs.Answers.{answered}
use Rattle.csp_service.specs.declared.answers.Served.{Served}
use Rattle.csp_service.specs.declared.answers.Served.TheVariants.{NoService, Refused, Reply, Silent}
use Rattle.csp_stack.proofs.Public.{by_rest, heard_here}
use Rattle.csp_stack.specs.Comes.{heard_at_port, heard_at_socket, heard_elsewhere}
use Rattle.csp_stack.specs.Readings.{is_checked, is_here, is_secured}
use Rattle.csp_stack.specs.Router.{Facts, Router, State, router}
use Rattle.csp_stack.specs.Rules as rules
use Rattle.csp_stack.specs.Rules.{◌>>=◌, Arrival, Ruling, Decided, Left}
use Rattle.csp_stack.specs.Serving.{facts_of, reply_in, with_facts}
use Rattle.csp_stack.specs.Told.{Told, with_ports}

-- to an interface only what is marked with a next hop
abbrev pub GoesByHop : QueueId → ItemShown → Type 0
GoesByHop queue.Inbox i = ⊤
GoesByHop (queue.Up _) i = ⊤
GoesByHop (queue.Down _) i = ⊤
GoesByHop (queue.Out _) i = IsHopItem i
GoesByHop (queue.Tx _) i = ⊤
GoesByHop (queue.Rx _) i = ⊤

-- so goes what is to go out, and the table leads by addresses
abbrev pub IsMarking : State → Type 0
IsMarking s = IfSome s.out (λ o. GoesByHop o.queue (item.Packet o.mark o.buffer)) × LeadsByAddresses s.routes

-- so it is once that is told
abbrev pub IsTold : Told → Type 0
IsTold t = IsMarking t.state

-- of two, the one that a test chooses
either : (b : Bool) (t u : Told) → IsTold t → IsTold u → IsTold (if b then t else u)
either true t u one other = one
either false t u one other = other

-- ---- sending

sent_by_marks : (own : Bool) (row : Option Row) (s : State) (b : Content) → IfSome row Marks → IsMarking s → IsTold (rules.sent_where own row s b)
sent_by_marks true row s b marks h = (tt, h.1)
sent_by_marks false None s b marks h = h
sent_by_marks false (Some row) s b marks h = (marks, h.1)

sent_marks : (f : Facts) (s : State) (b : Content) → IsMarking s → IsTold (rules.sent f s b)
sent_marks f s b h = let to = (header_at b.header).dst in sent_by_marks (to == f.addr) (route_of s.routes to) s b (route_marks s.routes to h.1) h

-- ---- from the inbox

abbrev IsRuled : Ruling → Type 0
IsRuled (Left p) = ⊤
IsRuled (Decided t) = IsTold t

go_on : (r : Ruling) (next : Arrival → Told) → IsRuled r → ((p : Arrival) → IsTold (next p)) → IsTold (r >>= next)
go_on (Left p) next h each = each p
go_on (Decided t) next h each = h

-- a rule of one test
go_if : (b : Bool) (t : Told) (p : Arrival) → IsTold t → IsRuled (if b then Decided t else Left p)
go_if true t p h = h
go_if false t p h = tt

go_unless : (b : Bool) (t : Told) (p : Arrival) → IsTold t → IsRuled (if b then Left p else Decided t)
go_unless true t p h = tt
go_unless false t p h = h

forwarded_marks : (row : Option Row) (s : State) (p : Arrival) → IfSome row Marks → IsMarking s → IsTold (rules.forwarded row s p)
forwarded_marks None s p marks h = h
forwarded_marks (Some row) s p marks h = either (row.iface == p.mark) _ _ h (marks, h.1)

go_payload : (o : Option (List ℕ)) (s : State) (p : Arrival) → IsMarking s → IsRuled (rules.with_payload o s p)
go_payload None s p h = h
go_payload (Some payload) s p h = tt

go_checksum : (c : Bool) (s : State) (p : Arrival) → IsMarking s → IsRuled (if c then rules.with_payload (payload_of p.buffer.payload) s p else Left p)
go_checksum true s p h = go_payload (payload_of p.buffer.payload) s p h
go_checksum false s p h = tt

go_machine : (o : Option (List ℕ × RdpHead)) (s : State) (seat : Seat) (time : ℕ) (p : Arrival) → IsMarking s → IsTold (rules.to_machine o s seat time p)
go_machine None s seat time p h = h
go_machine (Some read) s seat time p h = h

go_connection : (s : State) (seat : Seat) (time : ℕ) (p : Arrival) → IsMarking s → IsTold (rules.to_connection s seat time p)
go_connection s seat time p h = either (is_reliable p.head.flags.0) _ _ (go_machine (parted p.buffer.payload) s seat time p h) (tt, h.1)

go_by_connection : (at : Option Seat) (s : State) (time : ℕ) (p : Arrival) → IsMarking s → IsRuled (rules.by_connection at s time p)
go_by_connection None s time p h = tt
go_by_connection (Some at) s time p h = either (rules.is_mixed s at p) _ _ h (either (rules.is_lacking s p) _ _ h (go_connection s at time p h))

go_accepting : (free : Option Seat) (s : State) (p : Arrival) → IsMarking s → IsTold (rules.accepting free s p)
go_accepting None s p h = h
go_accepting (Some seat) s p h = (tt, h.1)

go_inviting : (i : Result Invitation Discard) (free : Option Seat) (r : Router) (time : ℕ) (p : Arrival) → IsMarking r.state → IsTold (rules.inviting i free r time p)
go_inviting (Err reason) free r time p h = h
go_inviting (Ok i) None r time p h = h
go_inviting (Ok i) (Some seat) r time p h = h

go_opening : (app : ℕ) (f : Facts) (s : State) (time : ℕ) (p : Arrival) → IsMarking s → IsTold (rules.opening app f s time p)
go_opening app f s time p h =
    let free = free_seat s.ports.conns app in
    either (is_reliable p.head.flags.0) _ _ (go_inviting (rules.invitation_of p.buffer) free (router f s) time p h) (go_accepting free s p h)

go_by_socket : (owner : Option (ℕ × ℕ)) (f : Facts) (s : State) (time : ℕ) (p : Arrival) → IsMarking s → IsRuled (rules.by_socket owner f s time p)
go_by_socket None f s time p h = tt
go_by_socket (Some owner) f s time p h = either (rules.is_lacking s p) _ _ h (go_opening owner.0 f s time p h)

go_answer : (served : Served) (reply : List ℕ) (f : Facts) (s : State) (p : Arrival) → IsMarking s → IsTold (rules.by_answer served reply f s p)
go_answer Reply reply f s p h = sent_marks f s (reply_in f p.head p.buffer reply) h
go_answer (Silent e) reply f s p h = h
go_answer (Refused error) reply f s p h = h
go_answer NoService reply f s p h = h

go_service : (f : Facts) (s : State) (time : ℕ) (p : Arrival) → IsMarking s → IsTold (rules.by_service f s time p)
go_service f s time p h =
    let o = answered p.head.dport p.buffer.payload (facts_of f s) time in
    go_answer o.served o.reply f (with_facts s o.facts) p (h.0, answered_leads p.head.dport p.buffer.payload (facts_of f s) time h.1)

pub heard_marks : (f : Facts) (s : State) (time : ℕ) (p : Arrival) → IsMarking s → IsTold (rules.heard f s time p)
heard_marks f s time p h =
    go_on (rules.for_this_node f s p) (λ p. heard_here f s time p) (go_unless (is_here f.addr p.head) _ p (forwarded_marks (route_of s.routes p.head.dst) s p (route_marks s.routes p.head.dst h.1) h)) (λ p.
    go_on (rules.not_secured s p) (λ p. by_rest f s time p) (go_if (is_secured p.head) _ p h) (λ p.
    go_on (rules.without_checksum s p) (λ p. heard_at_port f s time p) (go_checksum (is_checked p.head) s p h) (λ p.
    go_on (rules.of_no_connection s time p) (λ p. heard_at_socket f s time p) (go_by_connection (rules.seat_for s p) s time p h) (λ p.
    go_on (rules.to_no_socket f s time p) (λ p. heard_elsewhere f s time p) (go_by_socket (rules.owner_for s p) f s time p h) (λ p.
    go_on (rules.not_reliable s p) (λ p. rules.by_service f s time p) (go_if (is_reliable p.head.flags.0) _ p h) (λ p. go_service f s time p h))))))

-- ---- from an application

go_slot : (x : Slot) (r : Router) (seat : Seat) (time : ℕ) (b : Content) → IsMarking r.state → IsTold (rules.by_slot x r seat time b)
go_slot slot.Free r seat time b h = h
go_slot slot.Held r seat time b h = h
go_slot (slot.Open c) r seat time b h = either (is_reliable (terms_at r.state.ports seat).flags) _ _ h (sent_marks r.facts r.state (rules.addressed r.facts c (terms_at r.state.ports seat) b) h)

go_mark : (unmarked : Bool) (r : Router) (seat : Seat) (time : ℕ) (b : Content) → IsMarking r.state → IsTold (if unmarked then rules.sent r.facts r.state b else rules.by_slot (slot_at r.state.ports.conns seat) r seat time b)
go_mark true r seat time b h = sent_marks r.facts r.state b h
go_mark false r seat time b h = go_slot (slot_at r.state.ports.conns seat) r seat time b h

go_request : (f : Facts) (s : State) (app time : ℕ) (n : Note) → IsMarking s → IsTold (rules.requested f s app time n)
go_request f s app time (note.Bind port need) h = h
go_request f s app time (note.Connect number dest port prio flags from) h = h
go_request f s app time (note.Close number) h = h
go_request f s app time note.Bound h = h
go_request f s app time (note.Connected number) h = h
go_request f s app time (note.Refused reason) h = h
go_request f s app time (note.Closed number) h = h
go_request f s app time (note.Down number) h = h

pub served_marks : (f : Facts) (s : State) (time app : ℕ) (i : ItemShown) → IsMarking s → IsTold (rules.served f s time app i)
served_marks f s time app (item.Packet mark b) h = go_mark (mark == UNMARKED) (router f s) (seat app mark) time b h
served_marks f s time app (item.Note n) h = go_request f s app time n h
served_marks f s time app (item.Frame x) h = h

-- ---- from the machine of a connection

pub made_on_marks : (x : Slot) (owed : Seat × Job) (r : Router) (time : ℕ) (b : Content) → IsMarking r.state → IsTold (rules.made_on x owed r time b)
made_on_marks slot.Free owed r time b h = h
made_on_marks slot.Held owed r time b h = h
made_on_marks (slot.Open c) owed r time b h =
    let ports = r.state.ports in
    sent_marks r.facts (with_ports r.state (making owed.1 time owed.0 ports)) (rules.addressed r.facts c (terms_at ports owed.0) (made_in owed.1 time owed.0 b ports)) h
