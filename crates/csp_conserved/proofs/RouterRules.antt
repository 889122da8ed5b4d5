-- What a router does with what came: its buffer is held then, and no other goes or comes.
use Rattle.std.proofs.Common.{◌≡◌, ◌≢◌, ℕ, ◌+◌, ◌<◌, ◌==◌, Bool, true, false, Option, None, Some, Result, Ok, Err, List, [], ◌∷◌, ◌++◌, nat_lt, refl, ap, subst, arith}
use Rattle.std.specs.Prelude.{if◌then◌else◌, is_some}
use Rattle.std.specs.List.{position}
use Rattle.std.proofs.lemmas.Bool.{eq-eqb}
use Rattle.csp_base.specs.Seat.{seat}
use Rattle.csp_base.specs.Trace.{no_trace}
use Rattle.csp_base.specs.declared.seat.Seat.{Seat}
use Rattle.csp_buffer.specs.Content.{Content}
use Rattle.csp_conn.specs.Opening.{free_seat}
use Rattle.csp_conn.specs.PlainConns.{slot_at, with_slot}
use Rattle.csp_conn.specs.Slots.{is_between}
use Rattle.csp_conn.specs.declared.slot.Connection.{Connection}
use Rattle.csp_conn.specs.declared.slot.Slot.{Slot}
use Rattle.csp_conn.specs.declared.slot.Slot.TheVariants as has
use Rattle.csp_crc.specs.Check.{payload_of}
use Rattle.csp_deck.specs.Carried.{IsUpItem}
use Rattle.csp_deck.specs.Keeping.{numbers_of}
use Rattle.csp_deck.specs.Step.{item_numbers, times}
use Rattle.csp_header.specs.Word.{header_at}
use Rattle.csp_log.specs.declared.event.Discard.{Discard}
use Rattle.csp_log.specs.declared.event.Discard.TheVariants as why
use Rattle.csp_log.specs.declared.event.Event.{Event}
use Rattle.csp_log.specs.declared.event.Event.TheVariants as event
use Rattle.csp_log.specs.declared.note.Note.{Note}
use Rattle.csp_log.specs.declared.note.Note.TheVariants as note
use Rattle.csp_log.specs.declared.places.TheConstants.{UNMARKED}
use Rattle.csp_log.specs.declared.shown.ItemShown.{ItemShown}
use Rattle.csp_log.specs.declared.shown.ItemShown.TheVariants as item
use Rattle.csp_ports.proofs.Public.{Flows, flows_connected, flows_ended, flows_invited, flows_submitted, held_terms, none_stalled}
use Rattle.csp_ports.specs.Asking.{bind, close, connect, is_reliable}
use Rattle.csp_ports.specs.Came.{Came}
use Rattle.csp_ports.specs.Keeps.{AreWhole}
use Rattle.csp_ports.specs.Packets.{accepted, handing, invited, submitting}
use Rattle.csp_ports.specs.PlainPorts.{PlainPorts, is_closing, machine_at, stalls_of, terms_at}
use Rattle.csp_ports.specs.declared.handing.Invitation.{Invitation}
use Rattle.csp_ports.specs.declared.request.Request.{Request}
use Rattle.csp_ports.specs.declared.terms.Terms.{Terms}
use Rattle.csp_ports.specs.declared.terms.Wish.TheVariants as wish
use Rattle.csp_rdp_header.specs.Head.{parted}
use Rattle.csp_rdp_header.specs.declared.head.RdpHead.{RdpHead}
use Rattle.csp_route.specs.Routes.{route_of}
use Rattle.csp_route.specs.declared.row.Row.{Row}
use Rattle.csp_service.specs.Answers.{answered}
use Rattle.csp_service.specs.Facts.{PlainFacts}
use Rattle.csp_service.specs.declared.answers.Served.{Served}
use Rattle.csp_service.specs.declared.answers.Served.TheVariants.{NoService, Refused, Reply, Silent}
use Rattle.csp_service.specs.declared.stats.Count.TheVariants as count
use Rattle.csp_socket.specs.Bound.{owner_of}
use Rattle.csp_socket.specs.declared.sockets.TheConstants.{BINDABLE_PORTS}
use Rattle.csp_stack.proofs.Public.{absorbed_keeps, addressed_number, headed_number, holds_apart, kept_keeps, leaving_keeps, spent_keeps, times_both, by_rest, heard_here}
use Rattle.csp_stack.specs.Comes.{heard_at_socket, heard_elsewhere, heard_at_port}
use Rattle.csp_stack.specs.Counting.{counting}
use Rattle.csp_stack.specs.Readings.{is_checked, is_here, is_secured}
use Rattle.csp_stack.specs.Router.{Facts, Leaving, State, flows_of, holds, router}
use Rattle.csp_stack.specs.Rules.{◌>>=◌, Arrival, Decided, Left, accepting, addressed, answer_flags, arrival, by_answer, by_connection, by_row, by_service, by_slot, by_socket, connection_of, forwarded, heard, invitation_of, inviting, is_lacking, is_mixed, opening, requested, sent, sent_where, sent_on, seat_for, served, to_connection, to_itself, to_machine, to_slot, with_payload}
use Rattle.csp_stack.specs.Serving.{facts_of, reply_header, reply_in, with_facts}
use Rattle.csp_stack.specs.Told.{Told, absorbed, discarded, kept, leaving, ported, spent, unchanged, with_ports}
use Rattle.csp_conserved.proofs.RouterPorts.{flows_handing, found_low, still_whole, terms_whole}
use Rattle.csp_conserved.proofs.Shapes.{either}

-- a router in the second state holds what it held in the first and these buffers besides, and its ports are whole
abbrev pub Adds : State → State → List ℕ → Type 0
Adds s t came = ((k : ℕ) → times k (holds t) ≡ times k (holds s) + times k came) × AreWhole t.ports

-- ---- what comes of a packet

pub adds_none : (s : State) → AreWhole s.ports → Adds s s []
adds_none s w = (λ k. omega arith, w)

adds_spent : (s : State) (e : Event) (b : Content) → AreWhole s.ports → Adds s (spent s e b).state (b.number ∷ [])
adds_spent s e b w = ((spent_keeps 0 s e b).numbers, w)

pub adds_discarded : (s : State) (why : Discard) (b : Content) → AreWhole s.ports → Adds s (discarded s why b).state (b.number ∷ [])
adds_discarded s why b w = adds_spent s (event.Discarded why) b w

adds_leaving : (s : State) (o : Leaving) → s.out ≡ None → AreWhole s.ports → Adds s (leaving s o).state (o.buffer.number ∷ [])
adds_leaving s o empty w = ((leaving_keeps 0 s o empty).numbers, w)

pub adds_kept : (s : State) (b : Content) → AreWhole s.ports → Adds s (kept s b).state (b.number ∷ [])
adds_kept s b w = ((kept_keeps 0 s b).numbers, w)

pub adds_absorbed : (s : State) (b : Content) → AreWhole s.ports → Adds s (absorbed b (unchanged s)).state (b.number ∷ [])
adds_absorbed s b w = ((absorbed_keeps 0 s b).numbers, w)

-- ports make a step, and what they let go joins the trash
pub adds_ported : (m : ℕ) (s : State) (c : Came) (came : List ℕ) → Flows m s.ports c.ports c.loose came → Adds s (ported s c).state came
adds_ported m s c came flows = (
  λ k. omega (arith, holds_apart k s.trash s.out s.ports, holds_apart k (s.trash ++ c.loose) s.out c.ports, times_both k s.trash c.loose, flows.counts (Some k)),
  flows.whole,
)

-- and so does a packet
adds_both : (m : ℕ) (s : State) (c : Came) (b : Content) → Flows m s.ports c.ports c.loose [] → Adds s (absorbed b (ported s c)).state (b.number ∷ [])
adds_both m s c b flows = (
  λ k. omega (
    arith,
    holds_apart k s.trash s.out s.ports,
    holds_apart k ((s.trash ++ c.loose) ++ b ∷ []) s.out c.ports,
    times_both k (s.trash ++ c.loose) (b ∷ []),
    times_both k s.trash c.loose,
    flows.counts (Some k),
  ),
  flows.whole,
)

-- ---- sending

sent_by_adds : (own : Bool) (row : Option Row) (s : State) (b : Content) → s.out ≡ None → AreWhole s.ports → Adds s (sent_where own row s b).state (b.number ∷ [])
sent_by_adds true row s b empty w = adds_leaving s (to_itself b) empty w
sent_by_adds false None s b empty w = adds_discarded s why.NoRoute b w
sent_by_adds false (Some row) s b empty w = adds_leaving s (by_row row b) empty w

pub sent_adds : (f : Facts) (s : State) (b : Content) (n : ℕ) → b.number ≡ n → s.out ≡ None → AreWhole s.ports → Adds s (sent f s b).state (n ∷ [])
sent_adds f s b n e empty w = subst (λ m. Adds s (sent f s b).state (m ∷ [])) e (sent_by_adds ((header_at b.header).dst == f.addr) (route_of s.routes (header_at b.header).dst) s b empty w)

-- ---- from the inbox

module _ (f : Facts) (s : State) (empty : s.out ≡ None) (w : AreWhole s.ports) (time mark : ℕ) (b : Content) where
  -- the packet's buffer is held then
  abbrev Holds : Told → Type 0
  Holds t = Adds s t.state (b.number ∷ [])

  -- the packet as it came, and with these bytes
  abbrev came_with : List ℕ → Arrival
  came_with bytes = record { mark = mark; head = header_at b.header; buffer = record b { payload = bytes } }

  spent_with : (why : Discard) (bytes : List ℕ) → Holds (discarded s why (record b { payload = bytes }))
  spent_with why bytes = adds_discarded s why (record b { payload = bytes }) w

  forwarded_adds : (row : Option Row) → Holds (forwarded row s (arrival mark b))
  forwarded_adds None = adds_discarded s why.NoRoute b w
  forwarded_adds (Some row) = by (row.iface == mark)
    where
      by : (back : Bool) → Holds (if back then discarded s why.BackOut b else leaving s (by_row row b))
      by true = adds_discarded s why.BackOut b w
      by false = adds_leaving s (by_row row b) empty w

  -- a rule of one test
  for_node_adds : (here : Bool) (t : Told) (p : Arrival) (next : Arrival → Told) → Holds t → Holds (next p) → Holds ((if here then Left p else Decided t) >>= next)
  for_node_adds true t p next told rest = rest
  for_node_adds false t p next told rest = told

  by_test_adds : (decides : Bool) (t : Told) (p : Arrival) (next : Arrival → Told) → Holds t → Holds (next p) → Holds ((if decides then Decided t else Left p) >>= next)
  by_test_adds true t p next told rest = told
  by_test_adds false t p next told rest = rest

  by_checksum_adds : (checked : Bool) (o : Option (List ℕ)) (next : Arrival → Told) → ((bytes : List ℕ) → Holds (next (came_with bytes)))
      → Holds ((if checked then with_payload o s (arrival mark b) else Left (arrival mark b)) >>= next)
  by_checksum_adds true None next rest = adds_discarded (counting s mark count.ReceiveErrors 1) why.CrcWrong b w
  by_checksum_adds true (Some bytes) next rest = rest bytes
  by_checksum_adds false o next rest = rest b.payload

  -- a packet of a connection in use
  to_machine_adds : (o : Option (List ℕ × RdpHead)) (seat : Seat) (bytes : List ℕ) → seat.slot < 4 → Holds (to_machine o s seat time (came_with bytes))
  to_machine_adds None seat bytes low = spent_with why.Malformed bytes
  to_machine_adds (Some read) seat bytes low =
      let packet : Content = record b { payload = read.0 } in
      adds_ported 1 s (handing s.ports seat read.1 packet time) (b.number ∷ []) (flows_handing s.ports seat read.1 packet time low w)

  to_connection_adds : (reliable : Bool) (seat : Seat) (bytes : List ℕ) → seat.slot < 4
      → Holds (if reliable then to_machine (parted bytes) s seat time (came_with bytes) else leaving s (to_slot seat (record b { payload = bytes })))
  to_connection_adds true seat bytes low = to_machine_adds (parted bytes) seat bytes low
  to_connection_adds false seat bytes low = adds_leaving s (to_slot seat (record b { payload = bytes })) empty w

  at_connection_adds : (mixed lacking : Bool) (seat : Seat) (bytes : List ℕ) → seat.slot < 4
      → Holds (if mixed then discarded s why.Mixed (record b { payload = bytes }) else if lacking then discarded s why.Required (record b { payload = bytes }) else to_connection s seat time (came_with bytes))
  at_connection_adds true lacking seat bytes low = spent_with why.Mixed bytes
  at_connection_adds false true seat bytes low = spent_with why.Required bytes
  at_connection_adds false false seat bytes low = to_connection_adds (is_reliable (header_at b.header).flags.0) seat bytes low

  by_connection_adds : (found : Option Seat) (bytes : List ℕ) (next : Arrival → Told) → seat_for s (came_with bytes) ≡ found → Holds (next (came_with bytes)) → Holds (by_connection found s time (came_with bytes) >>= next)
  by_connection_adds None bytes next e rest = rest
  by_connection_adds (Some seat) bytes next e rest =
      at_connection_adds (is_mixed s seat (came_with bytes)) (is_lacking s (came_with bytes)) seat bytes (found_low (position (is_between (connection_of (header_at b.header))) s.ports.conns.slots) seat e)

  -- a packet to a bound port
  accepting_adds : (free : Option Seat) (bytes : List ℕ) → Holds (accepting free s (came_with bytes))
  accepting_adds None bytes = spent_with why.NoSlot bytes
  accepting_adds (Some seat) bytes =
      let p : Arrival = came_with bytes in
      let q : PlainPorts = accepted s.ports seat (connection_of p.head) p.head.prio (answer_flags p.head) in
      let begins : PlainPorts = record s.ports { conns = with_slot s.ports.conns seat (has.Open (connection_of p.head)) } in
      let terms : Terms = record (terms_at s.ports seat) { prio = p.head.prio; flags = answer_flags p.head; wish = wish.Nothing; is_down = false } in
      let one = adds_leaving (with_ports s q) (to_slot seat p.buffer) empty (terms_whole begins seat terms (still_whole s.ports begins refl refl w)) in
      (λ k. omega (arith, one.0 k, holds_apart k s.trash s.out s.ports, holds_apart k s.trash s.out q, ap (λ (bs : List Content). times k (numbers_of bs)) (held_terms begins seat terms)), one.1)

  inviting_adds : (r : Result Invitation Discard) (free : Option Seat) (bytes : List ℕ) → Holds (inviting r free (router f s) time (came_with bytes))
  inviting_adds (Err reason) free bytes = spent_with reason bytes
  inviting_adds (Ok i) None bytes = spent_with why.NoSlot bytes
  inviting_adds (Ok i) (Some seat) bytes =
      let p : Arrival = came_with bytes in
      adds_both 1 s (invited (flows_of f) i seat time (accepted s.ports seat (connection_of p.head) p.head.prio (answer_flags p.head))) p.buffer
      (flows_invited (flows_of f) s.ports seat (connection_of p.head) p.head.prio (answer_flags p.head) i time w)

  opening_adds : (reliable : Bool) (app : ℕ) (bytes : List ℕ)
      → Holds (if reliable then inviting (invitation_of (record b { payload = bytes })) (free_seat s.ports.conns app) (router f s) time (came_with bytes) else accepting (free_seat s.ports.conns app) s (came_with bytes))
  opening_adds true app bytes = inviting_adds (invitation_of (record b { payload = bytes })) (free_seat s.ports.conns app) bytes
  opening_adds false app bytes = accepting_adds (free_seat s.ports.conns app) bytes

  at_socket_adds : (lacking : Bool) (app : ℕ) (bytes : List ℕ) → Holds (if lacking then discarded s why.Required (record b { payload = bytes }) else opening app f s time (came_with bytes))
  at_socket_adds true app bytes = spent_with why.Required bytes
  at_socket_adds false app bytes = opening_adds (is_reliable (header_at b.header).flags.0) app bytes

  by_socket_adds : (owner : Option (ℕ × ℕ)) (bytes : List ℕ) (next : Arrival → Told) → Holds (next (came_with bytes)) → Holds (by_socket owner f s time (came_with bytes) >>= next)
  by_socket_adds None bytes next rest = rest
  by_socket_adds (Some owner) bytes next rest = at_socket_adds (is_lacking s (came_with bytes)) owner.0 bytes

  -- a request to a service
  by_answer_adds : (o : Served) (reply : List ℕ) (facts : PlainFacts) (bytes : List ℕ) → Holds (by_answer o reply f (with_facts s facts) (came_with bytes))
  by_answer_adds Reply reply facts bytes =
      let p : Arrival = came_with bytes in
      sent_adds f (with_facts s facts) (reply_in f p.head p.buffer reply) b.number (headed_number (reply_header f p.head) (record p.buffer { payload = reply; trace = no_trace })) empty w
  by_answer_adds (Silent e) reply facts bytes = adds_spent (with_facts s facts) e (record b { payload = bytes }) w
  by_answer_adds (Refused error) reply facts bytes = adds_discarded (with_facts s facts) why.Malformed (record b { payload = bytes }) w
  by_answer_adds NoService reply facts bytes = adds_discarded (with_facts s facts) why.NoSocket (record b { payload = bytes }) w

  -- all rules
  pub heard_adds : Holds (heard f s time (arrival mark b))
  heard_adds =
      for_node_adds (is_here f.addr (header_at b.header)) (forwarded (route_of s.routes (header_at b.header).dst) s (arrival mark b)) (arrival mark b) (λ p. heard_here f s time p) (forwarded_adds (route_of s.routes (header_at b.header).dst))
      (by_test_adds (is_secured (header_at b.header)) (discarded (counting s mark count.AuthErrors 1) why.Refused b) (arrival mark b) (λ p. by_rest f s time p) (adds_discarded (counting s mark count.AuthErrors 1) why.Refused b w)
      (by_checksum_adds (is_checked (header_at b.header)) (payload_of b.payload) (λ q. heard_at_port f s time q) (λ bytes.
      by_connection_adds (seat_for s (came_with bytes)) bytes (λ p. heard_at_socket f s time p) refl
      (by_socket_adds (owner_of s.ports.bound (header_at b.header).dport) bytes (λ p. heard_elsewhere f s time p)
      (by_test_adds (is_reliable (header_at b.header).flags.0) (discarded s why.NoSocket (record b { payload = bytes })) (came_with bytes) (λ p. by_service f s time p) (spent_with why.NoSocket bytes)
      (let o = answered (header_at b.header).dport bytes (facts_of f s) time in
      by_answer_adds o.served o.reply o.facts bytes))))))

-- ---- from an application

on_connection_adds : (reliable : Bool) (c : Connection) (f : Facts) (s : State) (seat : Seat) (time : ℕ) (b : Content) → seat.app < 4 → seat.slot < 4 → stalls_of seat.app s.ports.slots ≡ 0 → s.out ≡ None → AreWhole s.ports
    → Adds s (if reliable then ported s (submitting s.ports seat b time) else sent_on c (router f s) seat b).state (b.number ∷ [])
on_connection_adds false c f s seat time b few low free empty w = sent_adds f s (addressed f c (terms_at s.ports seat) b) b.number (addressed_number f c (terms_at s.ports seat) b) empty w
on_connection_adds true c f s seat time b few low free empty w =
    adds_ported 1 s (submitting s.ports seat b time) (b.number ∷ []) (flows_submitted (machine_at s.ports seat).state s.ports seat b time (omega (arith, few, low)) w (none_stalled s.ports seat low free))

by_slot_adds : (o : Slot) (f : Facts) (s : State) (seat : Seat) (time : ℕ) (b : Content) → seat.app < 4 → seat.slot < 4 → stalls_of seat.app s.ports.slots ≡ 0 → s.out ≡ None → AreWhole s.ports → Adds s (by_slot o (router f s) seat time b).state (b.number ∷ [])
by_slot_adds has.Free f s seat time b few low free empty w = adds_discarded s why.NoConn b w
by_slot_adds has.Held f s seat time b few low free empty w = adds_discarded s why.NoConn b w
by_slot_adds (has.Open c) f s seat time b few low free empty w = on_connection_adds (is_reliable (terms_at s.ports seat).flags) c f s seat time b few low free empty w

by_mark_adds : (unmarked : Bool) (f : Facts) (s : State) (seat : Seat) (time : ℕ) (b : Content) → (seat.slot == UNMARKED) ≡ unmarked → seat.app < 4 → IsUpItem (item.Packet seat.slot b) → stalls_of seat.app s.ports.slots ≡ 0 → s.out ≡ None → AreWhole s.ports
    → Adds s (if unmarked then sent f s b else by_slot (slot_at s.ports.conns seat) (router f s) seat time b).state (b.number ∷ [])
by_mark_adds true f s seat time b e few up free empty w = sent_adds f s b b.number refl empty w
by_mark_adds false f s seat time b e few up free empty w =
    let marked : seat.slot ≢ UNMARKED = λ is. absurd (let same : (seat.slot == UNMARKED) ≡ true = eq-eqb seat.slot UNMARKED is in cc) in
    by_slot_adds (slot_at s.ports.conns seat) f s seat time b few (up marked).0 free empty w

-- a port that is asked for: no buffer is there
bind_adds : (s : State) (app port need : ℕ) → AreWhole s.ports → Adds s (with_ports s (bind s.ports app port need)) []
bind_adds s app port need w =
    let so : PlainPorts → Type 0 = λ q. Adds s (with_ports s q) [] in
    either so (nat_lt port BINDABLE_PORTS) _ _ (either so (is_some (owner_of s.ports.bound port)) _ _ (λ k. omega arith, still_whole s.ports _ refl refl w) (λ k. omega arith, still_whole s.ports _ refl refl w))
    (λ k. omega arith, still_whole s.ports _ refl refl w)

requested_adds : (n : Note) (f : Facts) (s : State) (app time : ℕ) → app < 4 → IsUpItem (item.Note n) → AreWhole s.ports → Adds s (requested f s app time n).state []
requested_adds (note.Bind port need) f s app time few up w = bind_adds s app port need w
requested_adds (note.Connect slot dest port prio flags from) f s app time few up w =
    let r : Request = record { seat = seat app slot; dest = dest; port = port; prio = prio; flags = flags; from = from } in
    adds_ported 1 s (connect (flows_of f) s.ports r time) [] (flows_connected (flows_of f) s.ports r time w)
requested_adds (note.Close slot) f s app time few up w =
    let at : Seat = seat app slot in
    adds_ported 0 s (close s.ports at time) [] (flows_ended (is_closing (terms_at s.ports at).wish) s.ports at time (omega (arith, few, up)) w)
requested_adds note.Bound f s app time few up w = adds_none s w
requested_adds (note.Connected slot) f s app time few up w = adds_none s w
requested_adds (note.Refused reason) f s app time few up w = adds_none s w
requested_adds (note.Closed slot) f s app time few up w = adds_none s w
requested_adds (note.Down slot) f s app time few up w = adds_none s w

pub served_adds : (i : ItemShown) (f : Facts) (s : State) (app time : ℕ) → app < 4 → IsUpItem i → stalls_of app s.ports.slots ≡ 0 → s.out ≡ None → AreWhole s.ports → Adds s (served f s time app i).state (item_numbers i)
served_adds (item.Packet mark b) f s app time few up free empty w = by_mark_adds (mark == UNMARKED) f s (seat app mark) time b refl few up free empty w
served_adds (item.Note n) f s app time few up free empty w = requested_adds n f s app time few up w
served_adds (item.Frame frame) f s app time few up free empty w = absurd up
