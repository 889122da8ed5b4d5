-- what a node does with a packet
use Rattle.std.specs.Prelude.{ℕ, ◌==◌, ◌||◌, not, if◌then◌else◌, Bool, true, false, List, Option, None, Some, Result, Ok, Err}
use Rattle.std.specs.Int.RustNames.{bit_and}
use Rattle.csp_base.specs.Seat.{seat}
use Rattle.csp_base.specs.declared.seat.Seat.{Seat}
use Rattle.csp_buffer.specs.Content.{Content}
use Rattle.csp_conn.specs.Opening.{found, free_seat}
use Rattle.csp_conn.specs.PlainConns.{slot_at}
use Rattle.csp_conn.specs.Slots.{between}
use Rattle.csp_conn.specs.declared.slot.Connection.{Connection}
use Rattle.csp_conn.specs.declared.slot.Slot.{Slot}
use Rattle.csp_conn.specs.declared.slot.Slot.TheVariants as slot
use Rattle.csp_crc.specs.Check.{payload_of}
use Rattle.csp_header.specs.Word.{header_at}
use Rattle.csp_header.specs.declared.word.Header.{Header}
use Rattle.csp_base.specs.declared.traces.Tag.{Tag}
use Rattle.csp_log.specs.declared.event.Discard.{Discard}
use Rattle.csp_log.specs.declared.event.Discard.TheVariants as why
use Rattle.csp_log.specs.declared.event.Event.TheVariants as event
use Rattle.csp_log.specs.declared.note.Note.{Note}
use Rattle.csp_log.specs.declared.note.Note.TheVariants as note
use Rattle.csp_log.specs.declared.places.QueueId.TheVariants as queue
use Rattle.csp_log.specs.declared.places.TheConstants.{UNMARKED}
use Rattle.csp_log.specs.declared.shown.ItemShown.{ItemShown}
use Rattle.csp_log.specs.declared.shown.ItemShown.TheVariants as item
use Rattle.csp_route.specs.Routes.{route_of}
use Rattle.csp_route.specs.declared.row.Row.{Row}
use Rattle.csp_service.specs.Answers.{Outcome, answered}
use Rattle.csp_service.specs.declared.answers.Served.{Served}
use Rattle.csp_service.specs.declared.answers.Served.TheVariants.{NoService, Refused, Reply, Silent}
use Rattle.csp_service.specs.declared.stats.Count.TheVariants as count
use Rattle.csp_socket.specs.Bound.{owner_of}
use Rattle.csp_stack.specs.Counting.{counting}
use Rattle.csp_ports.specs.Asking.{bind, close, connect, is_reliable}
use Rattle.csp_ports.specs.Packets.{accepted, handing, invited, submitting}
use Rattle.csp_ports.specs.PlainPorts.{terms_at}
use Rattle.csp_ports.specs.Tasks.{made_in, making}
use Rattle.csp_ports.specs.declared.handing.Invitation.{Invitation}
use Rattle.csp_ports.specs.declared.request.Request.{Request}
use Rattle.csp_ports.specs.declared.terms.Terms.{Terms}
use Rattle.csp_rdp.specs.declared.jobs.Job.{Job}
use Rattle.csp_rdp_header.specs.Head.{has_flag, parted}
use Rattle.csp_rdp_header.specs.Options.{judged}
use Rattle.csp_rdp_header.specs.declared.errors.OptionError.{OptionError}
use Rattle.csp_rdp_header.specs.declared.head.RdpHead.{RdpHead}
use Rattle.csp_rdp_header.specs.declared.head.TheConstants.{ACK, RST, SYN}
use Rattle.csp_rdp_header.specs.declared.options.Options.{Options}
use Rattle.csp_stack.specs.Readings.{is_checked, is_here, is_secured, lacks, mark_of}
use Rattle.csp_stack.specs.Router.{Facts, Leaving, Router, State, flows_of, router}
use Rattle.csp_stack.specs.Sending.{headed}
use Rattle.csp_stack.specs.Serving.{facts_of, reply_in, with_facts}
use Rattle.csp_stack.specs.Told.{Told, absorbed, unchanged, discarded, leaving, ported, reporting, spent, with_ports}

-- ---- sending

-- a packet goes out by a row of the table: to that interface, marked with the next hop if the row names one
abbrev pub by_row : Row → Content → Leaving
by_row row b = record { queue = queue.Out row.iface; mark = mark_of row.via; buffer = b }

-- a packet to the node itself goes to its inbox, unmarked
abbrev pub to_itself : Content → Leaving
to_itself b = record { queue = queue.Inbox; mark = UNMARKED; buffer = b }

-- a packet of the node goes to its inbox where the node's own address is its destination; else by its row, and without one it is NoRoute
abbrev pub sent_where : (is_own : Bool) → Option Row → State → Content → Told
sent_where true row s b = leaving s (to_itself b)
sent_where false None s b = discarded s why.NoRoute b
sent_where false (Some row) s b = leaving s (by_row row b)

-- a packet of the node goes out: to its own inbox, or by the row of the table for its destination, or it is NoRoute
abbrev pub sent : Facts → State → Content → Told
sent f s b = let to = (header_at b.header).dst in sent_where (to == f.addr) (route_of s.routes to) s b

-- ---- from the inbox

-- a packet with the number of the interface that it came in on, or unmarked where the node sent it to itself, and its header
pub record Arrival : Type 0 where
  pub mark : ℕ
  pub head : Header
  pub buffer : Content

-- a packet that was popped, with its header read
abbrev pub arrival : ℕ → Content → Arrival
arrival mark b = record { mark = mark; head = header_at b.header; buffer = b }

-- the packet in an item, if it is one
abbrev pub packet_in : Option ItemShown → Option Arrival
packet_in None = None
packet_in (Some (item.Packet mark b)) = Some (arrival mark b)
packet_in (Some (item.Note _)) = None
packet_in (Some (item.Frame _)) = None

-- a rule decides what becomes of a packet, or leaves the packet to the next rule
pub data Ruling : Type 0 where
  Decided : Told → Ruling
  Left : Arrival → Ruling

infixl 10 ◌>>=◌
-- the first rule that decides ends the judgement
abbrev pub ◌>>=◌ : Ruling → (Arrival → Told) → Told
◌>>=◌ (Decided told) next = told
◌>>=◌ (Left p) next = next p

-- a packet goes on as it is by the row of its route, but not to where it came in: that is BackOut
abbrev pub by_way : Row → State → Arrival → Told
by_way row s p = if row.iface == p.mark then discarded s why.BackOut p.buffer else leaving s (by_row row p.buffer)

-- a packet that no route leads on is NoRoute
abbrev pub forwarded : Option Row → State → Arrival → Told
forwarded None s p = discarded s why.NoRoute p.buffer
forwarded (Some row) s p = by_way row s p

-- 1. a packet for another node goes out by the row of its route: no row is NoRoute, a row to where it came in is BackOut
abbrev pub for_this_node : Facts → State → Arrival → Ruling
for_this_node f s p = if is_here f.addr p.head then Left p else Decided (forwarded (route_of s.routes p.head.dst) s p)

-- 2. an authenticated or encrypted packet is Refused, which counts for the interface that it came in on
abbrev pub not_secured : State → Arrival → Ruling
not_secured s p = if is_secured p.head then Decided (discarded (counting s p.mark count.AuthErrors 1) why.Refused p.buffer) else Left p

-- a packet without its checksum; where none could be cut off it is CrcWrong, which counts for the interface that it came in on
abbrev pub with_payload : (payload : Option (List ℕ)) → State → Arrival → Ruling
with_payload None s p = Decided (discarded (counting s p.mark count.ReceiveErrors 1) why.CrcWrong p.buffer)
with_payload (Some payload) s p = Left (record p { buffer = record p.buffer { payload = payload } })

-- 3. of a packet with a checksum the checksum is cut off: one that is missing or wrong is CrcWrong
abbrev pub without_checksum : State → Arrival → Ruling
without_checksum s p = if is_checked p.head then with_payload (payload_of p.buffer.payload) s p else Left p

-- a packet goes to the application that has its connection, marked with the slot
abbrev pub to_slot : Seat → Content → Leaving
to_slot seat b = record { queue = queue.Down seat.app; mark = seat.slot; buffer = b }

-- a packet of the reliable transport goes to the machine of its connection, without its head; one that is shorter than a head is Malformed
abbrev pub to_machine : Option (List ℕ × RdpHead) → State → Seat → (time : ℕ) → Arrival → Told
to_machine None s seat time p = discarded s why.Malformed p.buffer
to_machine (Some read) s seat time p = ported s (handing s.ports seat read.1 (record p.buffer { payload = read.0 }) time)

-- a packet of a slot: to the machine of a reliable connection, or to the application
abbrev pub to_connection : State → Seat → (time : ℕ) → Arrival → Told
to_connection s seat time p = if is_reliable p.head.flags.0 then to_machine (parted p.buffer.payload) s seat time p else leaving s (to_slot seat p.buffer)

-- one is of the reliable transport, and the other is not
abbrev pub differs : (one other : Bool) → Bool
differs true other = not other
differs false other = other

-- a packet is of another transport than the connection on a slot
abbrev pub is_mixed : State → Seat → Arrival → Bool
is_mixed s seat p = differs (is_reliable p.head.flags.0) (is_reliable (terms_at s.ports seat).flags)

-- who bound the port that a packet has come to
abbrev pub owner_for : State → Arrival → Option (ℕ × ℕ)
owner_for s p = owner_of s.ports.bound p.head.dport

-- a packet lacks a flag that its own port needs
abbrev pub is_lacking : State → Arrival → Bool
is_lacking s p = lacks (owner_for s p) p.head

-- a packet of a connection: of another transport it is Mixed, and without a flag that its own port needs Required; else it is the connection's
abbrev pub at_connection : Seat → State → (time : ℕ) → Arrival → Told
at_connection seat s time p =
    if is_mixed s seat p then discarded s why.Mixed p.buffer
    else if is_lacking s p then discarded s why.Required p.buffer
    else to_connection s seat time p

-- a packet is its connection's, where there is one
abbrev pub by_connection : Option Seat → State → (time : ℕ) → Arrival → Ruling
by_connection None s time p = Left p
by_connection (Some seat) s time p = Decided (at_connection seat s time p)

-- the connection of a packet that has come: with the node and the port that it came from, by the port that it came to
abbrev pub connection_of : Header → Connection
connection_of h = between h.src h.sport h.dport

-- the seat whose connection a packet is of
abbrev pub seat_for : State → Arrival → Option Seat
seat_for s p = found s.ports.conns (connection_of p.head)

-- 4. a packet of a connection in use is Mixed, is Required, or goes to its connection
abbrev pub of_no_connection : State → ℕ → Arrival → Ruling
of_no_connection s time p = by_connection (seat_for s p) s time p

-- the flags of a packet that those are for which its connection sends: a checksum, the reliable transport
abbrev pub answer_flags : Header → ℕ
answer_flags h = bit_and h.flags.0 0x03

-- a packet opens a connection in the least free slot of an application, and goes there; where all are in use it is NoSlot
abbrev pub accepting : Option Seat → State → Arrival → Told
accepting None s p = discarded s why.NoSlot p.buffer
accepting (Some seat) s p =
    reporting (event.Opened seat.app seat.slot None None)
    (leaving (with_ports s (accepted s.ports seat (connection_of p.head) p.head.prio (answer_flags p.head))) (to_slot seat p.buffer))

-- a packet asks for a reliable connection where it is a SYN, neither ACK nor RST, with options that are each in its range. A packet that
-- is shorter than a head is Malformed, another one than a SYN is NoConn, and one with other options is Malformed
abbrev pub asked_with : Result Options OptionError → RdpHead → Option Tag → Result Invitation Discard
asked_with (Err _) h tag = Err why.Malformed
asked_with (Ok options) h tag = Ok (record { head = h; tag = tag; options = options })

-- what a packet with the flag RDP asks for: only one with SYN, and neither ACK nor RST, asks for a connection
abbrev pub syn_alone : (is_syn other : Bool) → List ℕ → RdpHead → Option Tag → Result Invitation Discard
syn_alone false other options h tag = Err why.NoConn
syn_alone true true options h tag = Err why.NoConn
syn_alone true false options h tag = asked_with (judged options) h tag

-- the same of a payload that was read, or could not be
abbrev pub invitation_in : Option (List ℕ × RdpHead) → Option Tag → Result Invitation Discard
invitation_in None tag = Err why.Malformed
invitation_in (Some read) tag = syn_alone (has_flag read.1 SYN) (has_flag read.1 ACK || has_flag read.1 RST) read.0 read.1 tag

-- what a packet with the flag RDP asks for at a bound port: a connection, with its options, or nothing, and why
abbrev pub invitation_of : Content → Result Invitation Discard
invitation_of b = invitation_in (parted b.payload) b.trace.tag

-- it opens one in the least free slot of an application; where all are in use it is NoSlot
abbrev pub inviting : Result Invitation Discard → Option Seat → Router → (time : ℕ) → Arrival → Told
inviting (Err reason) free r time p = discarded r.state reason p.buffer
inviting (Ok i) None r time p = discarded r.state why.NoSlot p.buffer
inviting (Ok i) (Some seat) r time p =
    absorbed p.buffer (ported r.state (invited (flows_of r.facts) i seat time (accepted r.state.ports seat (connection_of p.head) p.head.prio (answer_flags p.head))))

-- a packet that may come to a port asks for a reliable connection of the port's application, or opens a plain one
abbrev pub opening : (app : ℕ) → Facts → State → ℕ → Arrival → Told
opening app f s time p =
    if is_reliable p.head.flags.0 then inviting (invitation_of p.buffer) (free_seat s.ports.conns app) (router f s) time p
    else accepting (free_seat s.ports.conns app) s p

-- a packet to a bound port: without a flag that the port needs it is Required; else it may open a connection
abbrev pub by_socket : (owner : Option (ℕ × ℕ)) → Facts → State → ℕ → Arrival → Ruling
by_socket None f s time p = Left p
by_socket (Some owner) f s time p = Decided (if is_lacking s p then discarded s why.Required p.buffer else opening owner.0 f s time p)

-- 5. a packet to a bound port is Required, NoSlot, Malformed or NoConn, or opens a connection of the port's application
abbrev pub to_no_socket : Facts → State → ℕ → Arrival → Ruling
to_no_socket f s time p = by_socket (owner_for s p) f s time p

-- 6. elsewhere a packet of the reliable transport is NoSocket
abbrev pub not_reliable : State → Arrival → Ruling
not_reliable s p = if is_reliable p.head.flags.0 then Decided (discarded s why.NoSocket p.buffer) else Left p

-- what a service made of a request: a reply is sent; without one the node has this to report; a refused request is Malformed; and without a service a packet is NoSocket
abbrev pub by_answer : Served → (reply : List ℕ) → Facts → State → Arrival → Told
by_answer Reply reply f s p = sent f s (reply_in f p.head p.buffer reply)
by_answer (Silent e) reply f s p = spent s e p.buffer
by_answer (Refused error) reply f s p = discarded s why.Malformed p.buffer
by_answer NoService reply f s p = discarded s why.NoSocket p.buffer

-- what a service answered is done: its reply, and the facts afterwards
abbrev pub by_outcome : Outcome → Facts → State → Arrival → Told
by_outcome o f s p = by_answer o.served o.reply f (with_facts s o.facts) p

-- a packet to the port of a service is the service's request
abbrev pub by_service : Facts → State → ℕ → Arrival → Told
by_service f s time p = by_outcome (answered p.head.dport p.buffer.payload (facts_of f s) time) f s p

-- what becomes of a packet from the inbox: the first rule that decides, and else the service of its port
abbrev pub heard : Facts → State → ℕ → Arrival → Told
heard f s time p = do
  p ← for_this_node f s p
  p ← not_secured s p
  p ← without_checksum s p
  p ← of_no_connection s time p
  p ← to_no_socket f s time p
  p ← not_reliable s p
  by_service f s time p

-- ---- from an application

-- a packet of a connection: with the connection's priority, flags, addresses and ports, and with a checksum where its flags say so
abbrev pub header_for : Facts → Connection → Terms → Header
header_for f c t = record { prio = t.prio; src = f.addr; dst = c.peer; dport = c.peer_port; sport = c.own_port; flags = record { 0 = t.flags } }

-- an application's packet with its connection's header
abbrev pub addressed : Facts → Connection → Terms → Content → Content
addressed f c t b = headed (header_for f c t) b

-- a packet goes out on the plain connection of a slot, which is reported
abbrev pub sent_on : Connection → Router → Seat → Content → Told
sent_on c r seat b =
    reporting (event.Sent seat.slot (terms_at r.state.ports seat).ordinal) (sent r.facts r.state (addressed r.facts c (terms_at r.state.ports seat) b))

-- a packet for a slot is sent on the slot's connection: on a plain one at once, and to a reliable one it is handed over
abbrev pub on_connection : Connection → Router → Seat → (time : ℕ) → Content → Told
on_connection c r seat time b =
    if is_reliable (terms_at r.state.ports seat).flags then ported r.state (submitting r.state.ports seat b time) else sent_on c r seat b

-- an application's packet goes on the connection in its slot; without one it is NoConn
abbrev pub by_slot : Slot → Router → Seat → (time : ℕ) → Content → Told
by_slot slot.Free r seat time b = discarded r.state why.NoConn b
by_slot slot.Held r seat time b = discarded r.state why.NoConn b
by_slot (slot.Open c) r seat time b = on_connection c r seat time b

-- a request is answered; the router's own answers are no requests
abbrev pub requested : Facts → State → ℕ → ℕ → Note → Told
requested f s app time (note.Bind port need) = unchanged (with_ports s (bind s.ports app port need))
requested f s app time (note.Connect slot dest port prio flags from) =
    let r : Request = record { seat = seat app slot; dest = dest; port = port; prio = prio; flags = flags; from = from } in
    ported s (connect (flows_of f) s.ports r time)
requested f s app time (note.Close slot) = ported s (close s.ports (seat app slot) time)
requested f s app time note.Bound = unchanged s
requested f s app time (note.Connected slot) = unchanged s
requested f s app time (note.Refused reason) = unchanged s
requested f s app time (note.Closed slot) = unchanged s
requested f s app time (note.Down slot) = unchanged s

-- what becomes of an item of an application: an unmarked packet is sent as it is, and one for a slot by its connection; a frame is none of what
-- an application sends
abbrev pub served : Facts → State → ℕ → (app : ℕ) → ItemShown → Told
served f s time app (item.Packet mark b) = if mark == UNMARKED then sent f s b else by_slot (slot_at s.ports.conns (seat app mark)) (router f s) (seat app mark) time b
served f s time app (item.Note request) = requested f s app time request
served f s time app (item.Frame _) = unchanged s

-- ---- from the machine of a connection

-- a packet that a slot's connection owes is made in a buffer, and sent. Where the slot has no connection none is owed: the buffer joins the trash
abbrev pub made_on : Slot → (owed : Seat × Job) → Router → (time : ℕ) → Content → Told
made_on slot.Free owed r time b = absorbed b (unchanged r.state)
made_on slot.Held owed r time b = absorbed b (unchanged r.state)
made_on (slot.Open c) owed r time b =
    sent r.facts (with_ports r.state (making owed.1 time owed.0 r.state.ports))
    (addressed r.facts c (terms_at r.state.ports owed.0) (made_in owed.1 time owed.0 b r.state.ports))
