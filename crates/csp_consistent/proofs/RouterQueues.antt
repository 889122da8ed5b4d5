-- A router pushes to its applications, its interfaces, and without a mark to its inbox.
use Rattle.std.proofs.Common.{ℕ, ◌==◌, Bool, true, false, cond, Option, None, Some, List, [], ◌∷◌, Result, Ok, Err, refl}
use Rattle.std.specs.Prelude.{if◌then◌else◌, ⊤}
use Rattle.csp_base.specs.Seat.{seat}
use Rattle.csp_base.specs.declared.seat.Seat.{Seat}
use Rattle.csp_buffer.specs.Content.{Content}
use Rattle.csp_buffer.specs.PlainBuffer.{PlainBuffer}
use Rattle.csp_conn.specs.Opening.{free_seat}
use Rattle.csp_conn.specs.PlainConns.{slot_at}
use Rattle.csp_conn.specs.declared.slot.Slot.{Slot}
use Rattle.csp_conn.specs.declared.slot.Slot.TheVariants as slot
use Rattle.csp_consistent.specs.Queues.{MayAsk, MayPush}
use Rattle.csp_crc.specs.Check.{payload_of}
use Rattle.csp_log.specs.declared.event.Discard.{Discard}
use Rattle.csp_log.specs.declared.event.Discard.TheVariants as why
use Rattle.csp_log.specs.declared.note.Note.{Note}
use Rattle.csp_log.specs.declared.note.Note.TheVariants as note
use Rattle.csp_log.specs.declared.places.QueueId.{QueueId}
use Rattle.csp_log.specs.declared.places.QueueId.TheVariants as queue
use Rattle.csp_log.specs.declared.places.TheConstants.{UNMARKED}
use Rattle.csp_log.specs.declared.shown.AnswerShown.{AnswerShown}
use Rattle.csp_log.specs.declared.shown.ItemShown.{ItemShown}
use Rattle.csp_log.specs.declared.shown.ItemShown.TheVariants as item
use Rattle.csp_ports.specs.Asking.{is_reliable}
use Rattle.csp_ports.specs.declared.handing.Invitation.{Invitation}
use Rattle.csp_ports.specs.declared.owed.Owed.{Owed}
use Rattle.csp_rdp.specs.Jobs.{delivery}
use Rattle.csp_rdp.specs.declared.jobs.Job.{Job}
use Rattle.csp_rdp_header.specs.Head.{parted}
use Rattle.csp_rdp_header.specs.declared.head.RdpHead.{RdpHead}
use Rattle.csp_log.specs.declared.who.Who.TheVariants as who
use Rattle.csp_ports.specs.PlainPorts.{machine_at, terms_at}
use Rattle.csp_route.specs.Routes.{route_of}
use Rattle.csp_route.specs.declared.row.Row.{Row}
use Rattle.csp_service.specs.Answers.{Outcome, answered}
use Rattle.csp_service.specs.declared.answers.Served.{Served}
use Rattle.csp_service.specs.declared.answers.Served.TheVariants.{NoService, Refused, Reply, Silent}
use Rattle.csp_service.specs.declared.stats.Count.TheVariants as count
use Rattle.csp_stack.proofs.Public.{by_rest, heard_here}
use Rattle.csp_stack.specs.Comes.{heard_at_port, heard_at_socket, heard_elsewhere}
use Rattle.csp_stack.specs.Counting.{came_in, counting, was_full}
use Rattle.csp_stack.specs.Readings.{buffer_in, is_checked, is_here, is_pushed, is_secured, item_in}
use Rattle.csp_stack.specs.Router.{Facts, Leaving, Router, State, router}
use Rattle.csp_stack.specs.Rules.{◌>>=◌, Arrival, Ruling, Decided, Left, packet_in}
use Rattle.csp_stack.specs.Rules as rules
use Rattle.csp_stack.specs.Serving.{facts_of}
use Rattle.csp_stack.specs.Told.{Told, discarded, leaving}
use Rattle.csp_stack.specs.Turn as turn
use Rattle.csp_stack.specs.declared.plan.Plan.{Plan}
use Rattle.csp_stack.specs.declared.plan.Plan.TheVariants as plan

-- what is to go out goes where a router pushes
abbrev pub IsOutward : Option Leaving → Type 0
IsOutward None = ⊤
IsOutward (Some o) = MayPush (who.Router 0) o.queue (item.Packet o.mark o.buffer)

abbrev Goes : Told → Type 0
Goes t = IsOutward t.state.out

-- whatever a rule makes of a packet goes there, where what was to go out did
go_sent : (own : Bool) (row : Option Row) (s : State) (b : Content) → IsOutward s.out → Goes (rules.sent_where own row s b)
go_sent true row s b h = refl
go_sent false None s b h = h
go_sent false (Some row) s b h = tt

abbrev GoesBy : Ruling → Type 0
GoesBy (Left p) = ⊤
GoesBy (Decided t) = Goes t

go_on : (r : Ruling) (next : Arrival → Told) → GoesBy r → ((p : Arrival) → Goes (next p)) → Goes (r >>= next)
go_on (Left p) next h each = each p
go_on (Decided t) next h each = h

-- of two, the one that a test chooses
go_either : (b : Bool) (t u : Told) → Goes t → Goes u → Goes (if b then t else u)
go_either true t u one other = one
go_either false t u one other = other

-- a rule of one test
go_if : (b : Bool) (t : Told) (p : Arrival) → Goes t → GoesBy (if b then Decided t else Left p)
go_if true t p h = h
go_if false t p h = tt

go_forwarded : (row : Option Row) (s : State) (p : Arrival) → IsOutward s.out → Goes (rules.forwarded row s p)
go_forwarded None s p h = h
go_forwarded (Some row) s p h = go_either (row.iface == p.mark) (discarded s why.BackOut p.buffer) (leaving s (rules.by_row row p.buffer)) h tt

go_destination : (here : Bool) (t : Told) (p : Arrival) → Goes t → GoesBy (if here then Left p else Decided t)
go_destination true t p h = tt
go_destination false t p h = h

go_checksum : (checked : Bool) (payload : Option (List ℕ)) (s : State) (p : Arrival) → IsOutward s.out → GoesBy (if checked then rules.with_payload payload s p else Left p)
go_checksum true None s p h = h
go_checksum true (Some payload) s p h = tt
go_checksum false payload s p h = tt

go_machine : (read : Option (List ℕ × RdpHead)) (s : State) (seat : Seat) (time : ℕ) (p : Arrival) → IsOutward s.out → Goes (rules.to_machine read s seat time p)
go_machine None s seat time p h = h
go_machine (Some read) s seat time p h = h

go_connection : (s : State) (seat : Seat) (time : ℕ) (p : Arrival) → IsOutward s.out → Goes (rules.to_connection s seat time p)
go_connection s seat time p h =
    go_either (is_reliable p.head.flags.0) (rules.to_machine (parted p.buffer.payload) s seat time p) (leaving s (rules.to_slot seat p.buffer)) (go_machine _ s seat time p h) tt

go_by_connection : (at : Option Seat) (s : State) (time : ℕ) (p : Arrival) → IsOutward s.out → GoesBy (rules.by_connection at s time p)
go_by_connection None s time p h = tt
go_by_connection (Some at) s time p h = go_three (rules.is_mixed s at p) (rules.is_lacking s p) (go_connection s at time p h)
  where
    go_three : (mixed lacking : Bool) → Goes (rules.to_connection s at time p) → Goes (if mixed then discarded s why.Mixed p.buffer else if lacking then discarded s why.Required p.buffer else rules.to_connection s at time p)
    go_three true lacking rest = h
    go_three false true rest = h
    go_three false false rest = rest

go_accepting : (free : Option Seat) (s : State) (p : Arrival) → IsOutward s.out → Goes (rules.accepting free s p)
go_accepting None s p h = h
go_accepting (Some seat) s p h = tt

go_inviting : (i : Result Invitation Discard) (free : Option Seat) (r : Router) (time : ℕ) (p : Arrival) → IsOutward r.state.out → Goes (rules.inviting i free r time p)
go_inviting (Err reason) free r time p h = h
go_inviting (Ok i) None r time p h = h
go_inviting (Ok i) (Some seat) r time p h = h

go_opening : (app : ℕ) (f : Facts) (s : State) (time : ℕ) (p : Arrival) → IsOutward s.out → Goes (rules.opening app f s time p)
go_opening app f s time p h =
    let free = free_seat s.ports.conns app in
    let i = rules.invitation_of p.buffer in
    go_either (is_reliable p.head.flags.0) (rules.inviting i free (router f s) time p) (rules.accepting free s p) (go_inviting i free (router f s) time p h) (go_accepting free s p h)

go_by_socket : (owner : Option (ℕ × ℕ)) (f : Facts) (s : State) (time : ℕ) (p : Arrival) → IsOutward s.out → GoesBy (rules.by_socket owner f s time p)
go_by_socket None f s time p h = tt
go_by_socket (Some owner) f s time p h =
    go_either (rules.is_lacking s p) (discarded s why.Required p.buffer) (rules.opening owner.0 f s time p) h (go_opening owner.0 f s time p h)

go_answer : (served : Served) (reply : List ℕ) (f : Facts) (s : State) (p : Arrival) → IsOutward s.out → Goes (rules.by_answer served reply f s p)
go_answer Reply reply f s p h = go_sent _ _ s _ h
go_answer (Silent e) reply f s p h = h
go_answer (Refused error) reply f s p h = h
go_answer NoService reply f s p h = h

go_outcome : (o : Outcome) (f : Facts) (s : State) (p : Arrival) → IsOutward s.out → Goes (rules.by_outcome o f s p)
go_outcome o f s p h = go_answer o.served o.reply f _ p h

-- so the rules do, one after the other
go_heard : (f : Facts) (s : State) (time : ℕ) (p : Arrival) → IsOutward s.out → Goes (rules.heard f s time p)
go_heard f s time p h =
    go_on (rules.for_this_node f s p) (λ p. heard_here f s time p) (go_destination (is_here f.addr p.head) (rules.forwarded (route_of s.routes p.head.dst) s p) p (go_forwarded (route_of s.routes p.head.dst) s p h)) (λ p.
    go_on (rules.not_secured s p) (λ p. by_rest f s time p) (go_if (is_secured p.head) (discarded (counting s p.mark count.AuthErrors 1) why.Refused p.buffer) p h) (λ p.
    go_on (rules.without_checksum s p) (λ p. heard_at_port f s time p) (go_checksum (is_checked p.head) (payload_of p.buffer.payload) s p h) (λ p.
    go_on (rules.of_no_connection s time p) (λ p. heard_at_socket f s time p) (go_by_connection (rules.seat_for s p) s time p h) (λ p.
    go_on (rules.to_no_socket f s time p) (λ p. heard_elsewhere f s time p) (go_by_socket (rules.owner_for s p) f s time p h) (λ p.
    go_on (rules.not_reliable s p) (λ p. rules.by_service f s time p) (go_if (is_reliable p.head.flags.0) (discarded s why.NoSocket p.buffer) p h) (λ p.
    go_outcome (answered p.head.dport p.buffer.payload (facts_of f s) time) f s p h))))))

-- and so does what it makes of an item of an application
go_slot : (x : Slot) (r : Router) (seat : Seat) (time : ℕ) (b : Content) → IsOutward r.state.out → Goes (rules.by_slot x r seat time b)
go_slot slot.Free r seat time b h = h
go_slot slot.Held r seat time b h = h
go_slot (slot.Open c) r seat time b h = go_either (is_reliable (terms_at r.state.ports seat).flags) _ (rules.sent_on c r seat b) h (go_sent _ _ r.state _ h)

go_mark : (unmarked : Bool) (r : Router) (seat : Seat) (time : ℕ) (b : Content) → IsOutward r.state.out → Goes (if unmarked then rules.sent r.facts r.state b else rules.by_slot (slot_at r.state.ports.conns seat) r seat time b)
go_mark true r seat time b h = go_sent _ _ r.state b h
go_mark false r seat time b h = go_slot (slot_at r.state.ports.conns seat) r seat time b h

go_request : (f : Facts) (s : State) (app time : ℕ) (n : Note) → IsOutward s.out → Goes (rules.requested f s app time n)
go_request f s app time (note.Bind port need) h = h
go_request f s app time (note.Connect slot dest port prio flags from) h = h
go_request f s app time (note.Close slot) h = h
go_request f s app time note.Bound h = h
go_request f s app time (note.Connected slot) h = h
go_request f s app time (note.Refused reason) h = h
go_request f s app time (note.Closed slot) h = h
go_request f s app time (note.Down slot) h = h

go_served : (f : Facts) (s : State) (time app : ℕ) (i : ItemShown) → IsOutward s.out → Goes (rules.served f s time app i)
go_served f s time app (item.Packet mark b) h = go_mark (mark == UNMARKED) (router f s) (seat app mark) time b h
go_served f s time app (item.Note n) h = go_request f s app time n h
go_served f s time app (item.Frame x) h = h

go_made : (x : Slot) (owed : Seat × Job) (r : Router) (time : ℕ) (b : Content) → IsOutward r.state.out → Goes (rules.made_on x owed r time b)
go_made slot.Free owed r time b h = h
go_made slot.Held owed r time b h = h
go_made (slot.Open c) owed r time b h = go_sent _ _ _ _ h

-- so it is with each answer: what it brings, and whether a push was done
go_brought : {X : Type 0} (s : State) (comes : X → Told) (o : Option X) → IsOutward s.out → ((x : X) → Goes (comes x)) → Goes (turn.brought s comes o)
go_brought s comes None h each = h
go_brought s comes (Some x) h each = each x

go_pushed : (pushed : Bool) (one other : Told) → Goes one → Goes other → Goes (cond pushed one other)
go_pushed true one other h g = h
go_pushed false one other h g = g

go_back : (s : State) (p : Option Arrival) → IsOutward s.out → Goes (turn.no_room s p)
go_back s p h = go_brought s _ p h (λ x. h)

go_told : (p : Plan) (f : Facts) (s : State) (time : ℕ) (a : AnswerShown) → IsOutward s.out → Goes ((turn.turn_of f s time p).told a)
go_told plan.Rest f s time a h = h
go_told plan.Give f s time a h = go_brought s _ (buffer_in a) h (λ b. h)
go_told (plan.Push q bytes) f s time a h = go_pushed (is_pushed a) _ _ h (go_back (was_full s q) (packet_in (item_in a)) h)
go_told plan.Hear f s time a h = go_brought s _ (packet_in (item_in a)) h (λ p. go_heard f (came_in s p.mark p.buffer) time p h)
go_told (plan.Serve k) f s time a h = go_brought s _ (item_in a) h (λ i. go_served f s time k i h)
go_told (plan.Reply k) f s time a h = go_pushed (is_pushed a) _ _ h (go_back s (packet_in (item_in a)) h)
go_told (plan.Tell seat) f s time a h = go_pushed (is_pushed a) _ _ h (go_back s (packet_in (item_in a)) h)
go_told (plan.Deliver seat) f s time a h = go_pushed (is_pushed a) _ _ h (go_brought s _ (packet_in (item_in a)) h (λ p. h))
go_told (plan.Make seat j) f s time a h = go_brought s _ (buffer_in a) h (λ b. go_made (slot_at s.ports.conns seat) (seat, j) (router f s) time b h)

go_until : (f : Facts) (s : State) (time : ℕ) (p : Plan) → IsOutward s.out → IsOutward (turn.turn_of f s time p).until.out
go_until f s time (plan.Push q bytes) h = tt
go_until f s time plan.Rest h = h
go_until f s time plan.Give h = h
go_until f s time plan.Hear h = h
go_until f s time (plan.Serve k) h = h
go_until f s time (plan.Reply k) h = h
go_until f s time (plan.Tell seat) h = h
go_until f s time (plan.Deliver seat) h = h
go_until f s time (plan.Make seat j) h = h

-- after each turn
pub router_outward : (f : Facts) (s : State) (time : ℕ) (a : AnswerShown) → IsOutward s.out → IsOutward (turn.told_at f (turn.asked_at f s time) time a).state.out
router_outward f s time a h = go_told _ f _ time a (go_until f (turn.timed s time) time (turn.plan_of f (turn.timed s time) time) h)

-- and what it asks is what a router may
may_give : (node : ℕ) (bs : List Content) → MayAsk (who.Router node) (turn.giving bs)
may_give node [] = tt
may_give node (b ∷ bs) = tt

may_send : (node : ℕ) (out : Option Leaving) → IsOutward out → MayAsk (who.Router node) (turn.pushing out)
may_send node None h = tt
may_send node (Some o) h = may o.queue h where
  may : (q : QueueId) → MayPush (who.Router 0) q (item.Packet o.mark o.buffer) → MayPush (who.Router node) q (item.Packet o.mark o.buffer)
  may queue.Inbox g = g
  may (queue.Up k) g = g
  may (queue.Down k) g = g
  may (queue.Out k) g = g
  may (queue.Tx k) g = g
  may (queue.Rx k) g = g

may_reply : (node : ℕ) (owed : List Owed) → MayAsk (who.Router node) (turn.replying owed)
may_reply node [] = tt
may_reply node (o ∷ owed) = tt

may_deliver : (node : ℕ) (b : Option PlainBuffer) (seat : Seat) → MayAsk (who.Router node) (turn.delivering b seat)
may_deliver node None seat = tt
may_deliver node (Some b) seat = tt

may_ask : (node : ℕ) (f : Facts) (s : State) (time : ℕ) (p : Plan) → IsOutward s.out → MayAsk (who.Router node) (turn.turn_of f s time p).asks
may_ask node f s time plan.Rest h = tt
may_ask node f s time plan.Give h = may_give node s.trash
may_ask node f s time (plan.Push q bytes) h = may_send node s.out h
may_ask node f s time plan.Hear h = tt
may_ask node f s time (plan.Serve k) h = tt
may_ask node f s time (plan.Reply k) h = may_reply node s.ports.owed
may_ask node f s time (plan.Tell seat) h = tt
may_ask node f s time (plan.Deliver seat) h = may_deliver node (delivery (machine_at s.ports seat)) seat
may_ask node f s time (plan.Make seat j) h = tt

pub router_asks : (node : ℕ) (f : Facts) (s : State) (time : ℕ) → IsOutward s.out → MayAsk (who.Router node) (turn.asks_at f s time)
router_asks node f s time h = may_ask node f (turn.timed s time) time (turn.plan_of f (turn.timed s time) time) h
