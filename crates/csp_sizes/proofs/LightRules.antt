-- What a router makes of a packet stays light.
use Rattle.std.proofs.Common.{length-append, ◌≡◌, ℕ, ◌+◌, ◌-◌, ◌≤◌, Bool, true, false, List, [], ◌∷◌, ◌++◌, length, take, drop, Option, None, Some, Result, Ok, Err, refl, sym, ap, ◌∙◌, arith}
use Rattle.std.proofs.lemmas.Bool.{false≢true, ltb-false}
use Rattle.std.proofs.lemmas.List.Elements.{All-append, All-push, All-set}
use Rattle.std.proofs.lemmas.List.{length-set, length-take}
use Rattle.std.proofs.lemmas.Nat.{and_mask}
use Rattle.std.specs.Int.RustNames.{bit_and}
use Rattle.std.specs.Int.{from_be_bytes, to_be_bytes, w32}
use Rattle.std.specs.List.{All}
use Rattle.std.specs.Prelude.{◌==◌, ◌||◌, IfOk, IfSome, if◌then◌else◌, is_some, nat_lt, ◌^◌, get_or, min, slice_index, slice_set}
use Rattle.csp_base.specs.Seat.{seat}
use Rattle.csp_base.specs.declared.seat.Seat.{Seat}
use Rattle.csp_base.specs.Trace.{no_trace}
use Rattle.csp_base.specs.declared.traces.Tag.{Tag}
use Rattle.csp_buffer.specs.Content.{Content}
use Rattle.csp_conn.specs.Opening.{free_seat}
use Rattle.csp_conn.specs.PlainConns.{slot_at}
use Rattle.csp_conn.specs.declared.slot.Connection.{Connection}
use Rattle.csp_conn.specs.declared.slot.Slot.TheVariants as slot
use Rattle.csp_conn.specs.declared.slot.Slot.{Slot}
use Rattle.csp_crc.specs.Check.{payload_of}
use Rattle.csp_crc.specs.Crc.{checked, crc_of}
use Rattle.csp_header.specs.Word.{header_at}
use Rattle.csp_header.specs.declared.word.Header.{Header}
use Rattle.csp_log.specs.Weights.{item_bytes}
use Rattle.csp_log.specs.declared.event.Discard.{Discard}
use Rattle.csp_log.specs.declared.event.Discard.TheVariants as why
use Rattle.csp_log.specs.declared.note.Note.TheVariants as note
use Rattle.csp_log.specs.declared.note.Note.{Note}
use Rattle.csp_log.specs.declared.places.QueueId.TheVariants as queue
use Rattle.csp_log.specs.declared.places.QueueId.{QueueId}
use Rattle.csp_log.specs.declared.places.TheConstants.{UNMARKED}
use Rattle.csp_log.specs.declared.shown.ItemShown.TheVariants as item
use Rattle.csp_log.specs.declared.shown.ItemShown.{ItemShown}
use Rattle.csp_ports.proofs.Public.{all_or}
use Rattle.csp_ports.specs.Asking.{close, connect, is_reliable}
use Rattle.csp_ports.specs.Came.{Came}
use Rattle.csp_ports.specs.Packets.{accepted, handing, invited, submitting}
use Rattle.csp_ports.specs.PlainPorts.{terms_at}
use Rattle.csp_ports.specs.Tasks.{made_in, making}
use Rattle.csp_ports.specs.declared.handing.Invitation.{Invitation}
use Rattle.csp_ports.specs.declared.request.Request.{Request}
use Rattle.csp_rdp.specs.declared.jobs.Job.{Job}
use Rattle.csp_rdp_header.specs.Head.{head_of, has_flag, parted}
use Rattle.csp_rdp_header.specs.Options as options
use Rattle.csp_rdp_header.specs.Options.{judged, options_of}
use Rattle.csp_rdp_header.specs.declared.errors.OptionError.TheVariants.{BadLength, BadOption}
use Rattle.csp_rdp_header.specs.declared.errors.OptionError.{OptionError}
use Rattle.csp_rdp_header.specs.declared.head.RdpHead.{RdpHead}
use Rattle.csp_rdp_header.specs.declared.head.TheConstants.{ACK, RST, SYN}
use Rattle.csp_rdp_header.specs.declared.options.Options.{Options}
use Rattle.csp_route.specs.Routes.{route_of}
use Rattle.csp_route.specs.declared.row.Row.{Row}
use Rattle.csp_service.specs.Answers.{answered}
use Rattle.csp_service.specs.Counting.{counted, raised, no_stats, place_of}
use Rattle.csp_service.specs.declared.answers.Served.TheVariants.{NoService, Refused, Reply, Silent}
use Rattle.csp_service.specs.declared.answers.Served.{Served}
use Rattle.csp_service.specs.declared.stats.Count.TheVariants as count
use Rattle.csp_service.specs.declared.stats.Count.{Count}
use Rattle.csp_service.specs.declared.stats.Stats.{Stats}
use Rattle.csp_sizes.proofs.LightPorts.{Comes, accepted_light, close_light, connect_light, either, handing_light, invited_light, made_light, making_light, submitting_light}
use Rattle.csp_sizes.proofs.LightServices.{answered_few, answered_short}
use Rattle.csp_sizes.specs.Light.{AreFacts, ArePorts, IsData, IsFew, IsHeld, IsLight, IsLightState, room_of}
use Rattle.csp_socket.specs.Bound.{owner_of}
use Rattle.csp_socket.specs.declared.sockets.TheConstants.{BINDABLE_PORTS}
use Rattle.csp_stack.specs.Counting.{counting, came_in, refused_by, sent_to, was_full, went_out}
use Rattle.csp_stack.proofs.Public.{by_rest, heard_here}
use Rattle.csp_stack.specs.Comes.{heard_at_port, heard_at_socket, heard_elsewhere}
use Rattle.csp_stack.specs.Readings.{is_checked, is_here, is_secured}
use Rattle.csp_stack.specs.Router.{Facts, Leaving, State, flows_of, router}
use Rattle.csp_stack.specs.Rules as rules
use Rattle.csp_stack.specs.Rules.{◌>>=◌, Arrival, Ruling, Decided, Left}
use Rattle.csp_stack.specs.Sending.{headed, protected}
use Rattle.csp_stack.specs.Serving.{facts_of, reply_header, reply_in, with_facts}
use Rattle.csp_stack.specs.Told.{Told, discarded, leaving, ported, with_ports}

abbrev pub IsTold : Told → Type 0
IsTold t = IsLightState t.state

-- ---- parts of a state

pub trashed : (s : State) (b : Content) → IsLight b → IsLightState s → IsHeld s.ports.slots (s.trash ++ b ∷ []) s.out s.services.stats
trashed s b light h = record { ports = h.ports; trash = All-push IsLight s.trash b h.trash light; out = h.out; stats = h.stats }

leaves : (s : State) (o : Leaving) → length o.buffer.payload ≤ room_of o.queue → IsLightState s → IsHeld s.ports.slots s.trash (Some o) s.services.stats
leaves s o fits h = record { ports = h.ports; trash = h.trash; out = fits; stats = h.stats }

pub ported_light : (s : State) (c : Came) → Comes c → IsLightState s → IsTold (ported s c)
ported_light s c came h = record { ports = came.ports; trash = All-append IsLight s.trash c.loose h.trash came.loose; out = h.out; stats = h.stats }

-- counts
raised_few : (s : Stats) (c : Count) (by : ℕ) → IsFew s → IsFew (raised s c by)
raised_few s c by few = let long = length-set s.counts (place_of c) (min (slice_index s.counts (place_of c) + by) (2 ^ 32 - 1)) in omega (arith, few, long)

counted_few : (stats : List Stats) (iface : ℕ) (c : Count) (by : ℕ) → All IsFew stats → All IsFew (counted stats iface c by)
counted_few stats iface c by few = go (nat_lt iface (length stats))
  where
    go : (b : Bool) → All IsFew (if b then slice_set stats iface (raised (get_or stats iface no_stats) c by) else stats)
    go true = All-set IsFew stats iface (raised (get_or stats iface no_stats) c by) (raised_few (get_or stats iface no_stats) c by (all_or IsFew stats iface no_stats few (omega arith))) few
    go false = few

counting_light : (s : State) (iface : ℕ) (c : Count) (by : ℕ) → IsLightState s → IsLightState (counting s iface c by)
counting_light s iface c by h = record { ports = h.ports; trash = h.trash; out = h.out; stats = counted_few s.services.stats iface c by h.stats }

came_in_light : (s : State) (mark : ℕ) (b : Content) → IsLightState s → IsLightState (came_in s mark b)
came_in_light s mark b h = counting_light (counting s mark count.Received 1) mark count.ReceivedBytes (length b.payload) (counting_light s mark count.Received 1 h)

sent_few : (q : QueueId) (bytes : ℕ) (stats : List Stats) → All IsFew stats → All IsFew (sent_to q bytes stats)
sent_few (queue.Out iface) bytes stats few = counted_few (counted stats iface count.Sent 1) iface count.SentBytes bytes (counted_few stats iface count.Sent 1 few)
sent_few queue.Inbox bytes stats few = few
sent_few (queue.Up app) bytes stats few = few
sent_few (queue.Down app) bytes stats few = few
sent_few (queue.Tx iface) bytes stats few = few
sent_few (queue.Rx iface) bytes stats few = few

refused_few : (q : QueueId) (stats : List Stats) → All IsFew stats → All IsFew (refused_by q stats)
refused_few (queue.Out iface) stats few = counted_few stats iface count.SendErrors 1 few
refused_few queue.Inbox stats few = few
refused_few (queue.Up app) stats few = few
refused_few (queue.Down app) stats few = few
refused_few (queue.Tx iface) stats few = few
refused_few (queue.Rx iface) stats few = few

pub went_out_light : (s : State) (q : QueueId) (bytes : ℕ) → IsLightState s → IsLightState (went_out s q bytes)
went_out_light s q bytes h = record { ports = h.ports; trash = h.trash; out = h.out; stats = sent_few q bytes s.services.stats h.stats }

pub was_full_light : (s : State) (q : QueueId) → IsLightState s → IsLightState (was_full s q)
was_full_light s q h = record { ports = h.ports; trash = h.trash; out = h.out; stats = refused_few q s.services.stats h.stats }

-- ---- bytes of packets

-- a checksum is four bytes
cut_short : (bytes payload : List ℕ) → payload_of bytes ≡ Some payload → length payload + 4 ≤ length bytes
unfolding payload_of
cut_short bytes payload e = go (nat_lt (length bytes) 4) (from_be_bytes w32 (drop (length bytes - 4) bytes) == crc_of (take (length bytes - 4) bytes)) refl e
  where
    go : (a b : Bool) → nat_lt (length bytes) 4 ≡ a → (if a then None else if b then Some (take (length bytes - 4) bytes) else None) ≡ Some payload → length payload + 4 ≤ length bytes
    go true b p q = cc
    go false false p q = cc
    go false true p q =
        let same : take (length bytes - 4) bytes ≡ payload = cc in
        let enough = ltb-false (length bytes) 4 p in
        omega (arith, enough, ap length same, length-take (length bytes - 4) bytes)

checked_long : (bytes : List ℕ) → length (checked bytes) ≡ length bytes + 4
unfolding checked
checked_long bytes = length-append bytes (to_be_bytes w32 (crc_of bytes))

protected_light : (c : Bool) (b : Content) → (c ≡ true → length b.payload ≤ 527) → IsLight b → IsLight (protected c b)
protected_light true b short light = let s = short refl in omega (arith, s, checked_long b.payload)
protected_light false b short light = light

headed_light : (h : Header) (b : Content) → length b.payload ≤ 527 → IsLight (headed h b)
headed_light h b short = protected_light (is_checked h) b (λ e. short) (omega (arith, short))

-- a head is five
parted_short : (payload : List ℕ) → IfSome (parted payload) (λ read. length read.0 ≤ length payload)
parted_short payload = go (nat_lt (length payload) 5)
  where
    go : (b : Bool) → IfSome {T = List ℕ × RdpHead} (if b then None else Some (take (length payload - 5) payload, head_of (drop (length payload - 5) payload))) (λ read. length read.0 ≤ length payload)
    go true = tt
    go false = omega (arith, length-take (length payload - 5) payload)

-- a reply has a checksum only where its request had one
reply_checked : (f : Facts) (h : Header) → is_checked (reply_header f h) ≡ true → is_checked h ≡ true
reply_checked f h e =
    let once = and_mask h.flags.0 1 in
    let twice = and_mask (bit_and h.flags.0 1) 1 in
    let same : bit_and (bit_and h.flags.0 1) 1 ≡ bit_and h.flags.0 1 = omega (arith, once, twice) in
    ap (λ (n : ℕ). n == 1) (sym same) ∙ e

-- ---- sending

sent_by_light : (own : Bool) (row : Option Row) (s : State) (b : Content) → IsLight b → IsLightState s → IsTold (rules.sent_where own row s b)
sent_by_light true row s b light h = leaves s (rules.to_itself b) light h
sent_by_light false None s b light h = trashed s b light h
sent_by_light false (Some row) s b light h = leaves s (rules.by_row row b) light h

sent_light : (f : Facts) (s : State) (b : Content) → IsLight b → IsLightState s → IsTold (rules.sent f s b)
sent_light f s b light h = sent_by_light ((header_at b.header).dst == f.addr) (route_of s.routes (header_at b.header).dst) s b light h

-- ---- from the inbox

-- a packet whose checksum was cut off has room for it
record IsCut (p : Arrival) : Type 0 where
  light : IsLight p.buffer
  short : is_checked p.head ≡ true → length p.buffer.payload ≤ 527

abbrev IsRuled : (Arrival → Type 0) → Ruling → Type 0
IsRuled P (Left p) = P p
IsRuled P (Decided t) = IsTold t

go_on : (P : Arrival → Type 0) (r : Ruling) (next : Arrival → Told) → IsRuled P r → ((p : Arrival) → P p → IsTold (next p)) → IsTold (r >>= next)
go_on P (Left p) next h each = each p h
go_on P (Decided t) next h each = h

-- a rule of one test
go_if : (P : Arrival → Type 0) (b : Bool) (t : Told) (p : Arrival) → IsTold t → P p → IsRuled P (if b then Decided t else Left p)
go_if P true t p told left = told
go_if P false t p told left = left

abbrev Arrives : Arrival → Type 0
Arrives p = IsLight p.buffer

forwarded_light : (row : Option Row) (s : State) (p : Arrival) → Arrives p → IsLightState s → IsTold (rules.forwarded row s p)
forwarded_light None s p light h = trashed s p.buffer light h
forwarded_light (Some row) s p light h =
    either IsTold (row.iface == p.mark) (discarded s why.BackOut p.buffer) (leaving s (rules.by_row row p.buffer)) (trashed s p.buffer light h) (leaves s (rules.by_row row p.buffer) light h)

go_destination : (here : Bool) (t : Told) (p : Arrival) → Arrives p → IsTold t → IsRuled Arrives (if here then Left p else Decided t)
go_destination true t p light told = light
go_destination false t p light told = told

go_checksum : (c : Bool) (o : Option (List ℕ)) (s : State) (p : Arrival) → is_checked p.head ≡ c → payload_of p.buffer.payload ≡ o → Arrives p → IsLightState s → IsRuled IsCut (if c then rules.with_payload o s p else Left p)
go_checksum true None s p e cut light h = trashed (counting s p.mark count.ReceiveErrors 1) p.buffer light (counting_light s p.mark count.ReceiveErrors 1 h)
go_checksum true (Some payload) s p e cut light h = let less = cut_short p.buffer.payload payload cut in record { light = omega (arith, less, light); short = λ e. omega (arith, less, light) }
go_checksum false o s p e cut light h = record { light = light; short = λ is. absurd (false≢true (sym e ∙ is)) }

go_machine : (o : Option (List ℕ × RdpHead)) (s : State) (seat : Seat) (time : ℕ) (p : Arrival) → IfSome o (λ read. length read.0 ≤ length p.buffer.payload) → Arrives p → IsLightState s → IsTold (rules.to_machine o s seat time p)
go_machine None s seat time p less light h = trashed s p.buffer light h
go_machine (Some read) s seat time p less light h =
    ported_light s (handing s.ports seat read.1 (record p.buffer { payload = read.0 }) time)
    (handing_light s.ports seat read.1 (record p.buffer { payload = read.0 }) time (omega (arith, less, light)) h.ports) h

go_connection : (s : State) (seat : Seat) (time : ℕ) (p : Arrival) → Arrives p → IsLightState s → IsTold (rules.to_connection s seat time p)
go_connection s seat time p light h =
    either IsTold (is_reliable p.head.flags.0) (rules.to_machine (parted p.buffer.payload) s seat time p) (leaving s (rules.to_slot seat p.buffer))
    (go_machine (parted p.buffer.payload) s seat time p (parted_short p.buffer.payload) light h) (leaves s (rules.to_slot seat p.buffer) light h)

go_by_connection : (found : Option Seat) (s : State) (time : ℕ) (p : Arrival) → IsCut p → IsLightState s → IsRuled IsCut (rules.by_connection found s time p)
go_by_connection None s time p cut h = cut
go_by_connection (Some seat) s time p cut h =
    let required = if rules.is_lacking s p then discarded s why.Required p.buffer else rules.to_connection s seat time p in
    either IsTold (rules.is_mixed s seat p) (discarded s why.Mixed p.buffer) required (trashed s p.buffer cut.light h)
    (either IsTold (rules.is_lacking s p) (discarded s why.Required p.buffer) (rules.to_connection s seat time p) (trashed s p.buffer cut.light h) (go_connection s seat time p cut.light h))

go_accepting : (free : Option Seat) (s : State) (p : Arrival) → Arrives p → IsLightState s → IsTold (rules.accepting free s p)
go_accepting None s p light h = trashed s p.buffer light h
go_accepting (Some seat) s p light h = record { ports = accepted_light s.ports seat (rules.connection_of p.head) p.head.prio (rules.answer_flags p.head) h.ports; trash = h.trash; out = light; stats = h.stats }

-- the window that a packet asks for is one that a connection may have
checked_narrow : (o : Options) → IfOk (options.checked o) (λ o. o.window ≤ 20)
checked_narrow o = go (o.window == 0) (nat_lt 20 o.window) (o.conn_timeout == 0) (o.packet_timeout == 0) refl
  where
    go : (a b c d : Bool) → nat_lt 20 o.window ≡ b → IfOk (if a || b then Err (BadOption 0) else if c then Err (BadOption 1) else if d then Err (BadOption 2) else Ok o) (λ o. o.window ≤ 20)
    go true b c d e = tt
    go false true c d e = tt
    go false false true d e = tt
    go false false false true e = tt
    go false false false false e = ltb-false 20 o.window e

judged_narrow : (bytes : List ℕ) → IfOk (judged bytes) (λ o. o.window ≤ 20)
judged_narrow bytes = go (length bytes == 24)
  where
    go : (b : Bool) → IfOk (if b then options.checked (options_of bytes) else Err BadLength) (λ o. o.window ≤ 20)
    go true = checked_narrow (options_of bytes)
    go false = tt

asked_with_narrow : (r : Result Options OptionError) (h : RdpHead) (tag : Option Tag) → IfOk r (λ o. o.window ≤ 20) → IfOk (rules.asked_with r h tag) (λ i. i.options.window ≤ 20)
asked_with_narrow (Err e) h tag narrow = tt
asked_with_narrow (Ok o) h tag narrow = narrow

asked_by_narrow : (syn other : Bool) (bytes : List ℕ) (h : RdpHead) (tag : Option Tag) → IfOk (rules.syn_alone syn other bytes h tag) (λ i. i.options.window ≤ 20)
asked_by_narrow false other bytes h tag = tt
asked_by_narrow true true bytes h tag = tt
asked_by_narrow true false bytes h tag = asked_with_narrow (judged bytes) h tag (judged_narrow bytes)

invitation_in_narrow : (o : Option (List ℕ × RdpHead)) (tag : Option Tag) → IfOk (rules.invitation_in o tag) (λ i. i.options.window ≤ 20)
invitation_in_narrow None tag = tt
invitation_in_narrow (Some read) tag = asked_by_narrow (has_flag read.1 SYN) (has_flag read.1 ACK || has_flag read.1 RST) read.0 read.1 tag

go_inviting : (i : Result Invitation Discard) (free : Option Seat) (f : Facts) (s : State) (time : ℕ) (p : Arrival) → IfOk i (λ i. i.options.window ≤ 20) → Arrives p → IsLightState s → IsTold (rules.inviting i free (router f s) time p)
go_inviting (Err reason) free f s time p narrow light h = trashed s p.buffer light h
go_inviting (Ok i) None f s time p narrow light h = trashed s p.buffer light h
go_inviting (Ok i) (Some seat) f s time p narrow light h =
    let q = accepted s.ports seat (rules.connection_of p.head) p.head.prio (rules.answer_flags p.head) in
    let c = invited (flows_of f) i seat time q in
    let came = invited_light (flows_of f) i seat time q narrow (accepted_light s.ports seat (rules.connection_of p.head) p.head.prio (rules.answer_flags p.head) h.ports) in
    trashed (ported s c).state p.buffer light (ported_light s c came h)

go_opening : (app : ℕ) (f : Facts) (s : State) (time : ℕ) (p : Arrival) → Arrives p → IsLightState s → IsTold (rules.opening app f s time p)
go_opening app f s time p light h =
    let free = free_seat s.ports.conns app in
    either IsTold (is_reliable p.head.flags.0) (rules.inviting (rules.invitation_of p.buffer) free (router f s) time p) (rules.accepting free s p)
    (go_inviting (rules.invitation_of p.buffer) free f s time p (invitation_in_narrow (parted p.buffer.payload) p.buffer.trace.tag) light h) (go_accepting free s p light h)

go_by_socket : (owner : Option (ℕ × ℕ)) (f : Facts) (s : State) (time : ℕ) (p : Arrival) → IsCut p → IsLightState s → IsRuled IsCut (rules.by_socket owner f s time p)
go_by_socket None f s time p cut h = cut
go_by_socket (Some owner) f s time p cut h =
    either IsTold (rules.is_lacking s p) (discarded s why.Required p.buffer) (rules.opening owner.0 f s time p) (trashed s p.buffer cut.light h) (go_opening owner.0 f s time p cut.light h)

go_answer : (served : Served) (reply : List ℕ) (f : Facts) (s : State) (p : Arrival) → (is_checked p.head ≡ true → length reply ≤ 527) → length reply ≤ 531 → Arrives p → IsLightState s
    → IsTold (rules.by_answer served reply f s p)
go_answer Reply reply f s p short fits light h =
    sent_light f s (reply_in f p.head p.buffer reply)
    (protected_light (is_checked (reply_header f p.head)) (record p.buffer { payload = reply; trace = no_trace }) (λ e. short (reply_checked f p.head e)) fits) h
go_answer (Silent e) reply f s p short fits light h = trashed s p.buffer light h
go_answer (Refused error) reply f s p short fits light h = trashed s p.buffer light h
go_answer NoService reply f s p short fits light h = trashed s p.buffer light h

go_service : (f : Facts) (s : State) (time : ℕ) (p : Arrival) → AreFacts f → IsCut p → IsLightState s → IsTold (rules.by_service f s time p)
go_service f s time p are cut h =
    let o = answered p.head.dport p.buffer.payload (facts_of f s) time in
    go_answer o.served o.reply f (with_facts s o.facts) p
    (λ e. answered_short 527 p.head.dport p.buffer.payload (facts_of f s) time (omega arith) are.name h.stats (cut.short e))
    (answered_short 531 p.head.dport p.buffer.payload (facts_of f s) time (omega arith) are.name h.stats cut.light)
    cut.light
    (record { ports = h.ports; trash = h.trash; out = h.out; stats = answered_few p.head.dport p.buffer.payload (facts_of f s) time are.name h.stats cut.light })

pub heard_light : (f : Facts) (s : State) (time : ℕ) (p : Arrival) → AreFacts f → IsLight p.buffer → IsLightState s → IsTold (rules.heard f (came_in s p.mark p.buffer) time p)
heard_light f s time p are light h =
    let t = came_in s p.mark p.buffer in
    let g = came_in_light s p.mark p.buffer h in
    go_on Arrives (rules.for_this_node f t p) (λ p. heard_here f t time p) (go_destination (is_here f.addr p.head) (rules.forwarded (route_of t.routes p.head.dst) t p) p light (forwarded_light (route_of t.routes p.head.dst) t p light g)) (λ p l.
    go_on Arrives (rules.not_secured t p) (λ p. by_rest f t time p)
    (go_if Arrives (is_secured p.head) (discarded (counting t p.mark count.AuthErrors 1) why.Refused p.buffer) p (trashed (counting t p.mark count.AuthErrors 1) p.buffer l (counting_light t p.mark count.AuthErrors 1 g)) l) (λ p l.
    go_on IsCut (rules.without_checksum t p) (λ p. heard_at_port f t time p) (go_checksum (is_checked p.head) (payload_of p.buffer.payload) t p refl refl l g) (λ p c.
    go_on IsCut (rules.of_no_connection t time p) (λ p. heard_at_socket f t time p) (go_by_connection (rules.seat_for t p) t time p c g) (λ p c.
    go_on IsCut (rules.to_no_socket f t time p) (λ p. heard_elsewhere f t time p) (go_by_socket (rules.owner_for t p) f t time p c g) (λ p c.
    go_on IsCut (rules.not_reliable t p) (λ p. rules.by_service f t time p) (go_if IsCut (is_reliable p.head.flags.0) (discarded t why.NoSocket p.buffer) p (trashed t p.buffer c.light g) c) (λ p c.
    go_service f t time p are c g))))))

-- ---- from an application

go_on_connection : (c : Connection) (f : Facts) (s : State) (seat : Seat) (time : ℕ) (b : Content) → IsData b → IsLightState s → IsTold (rules.on_connection c (router f s) seat time b)
go_on_connection c f s seat time b data' h =
    either IsTold (is_reliable (terms_at s.ports seat).flags) (ported s (submitting s.ports seat b time)) (rules.sent_on c (router f s) seat b)
    (ported_light s (submitting s.ports seat b time) (submitting_light s.ports seat b time data' h.ports) h)
    (sent_light f s (rules.addressed f c (terms_at s.ports seat) b) (headed_light (rules.header_for f c (terms_at s.ports seat)) b (omega (arith, data'))) h)

go_slot : (x : Slot) (f : Facts) (s : State) (seat : Seat) (time : ℕ) (b : Content) → IsData b → IsLightState s → IsTold (rules.by_slot x (router f s) seat time b)
go_slot slot.Free f s seat time b data' h = trashed s b (omega (arith, data')) h
go_slot slot.Held f s seat time b data' h = trashed s b (omega (arith, data')) h
go_slot (slot.Open c) f s seat time b data' h = go_on_connection c f s seat time b data' h

go_mark : (unmarked : Bool) (f : Facts) (s : State) (seat : Seat) (time : ℕ) (b : Content) → IsData b → IsLightState s → IsTold (if unmarked then rules.sent f s b else rules.by_slot (slot_at s.ports.conns seat) (router f s) seat time b)
go_mark true f s seat time b data' h = sent_light f s b (omega (arith, data')) h
go_mark false f s seat time b data' h = go_slot (slot_at s.ports.conns seat) f s seat time b data' h

go_request : (f : Facts) (s : State) (app time : ℕ) (n : Note) → AreFacts f → IsLightState s → IsTold (rules.requested f s app time n)
go_request f s app time (note.Bind port need) are h = record { ports = either ArePorts (nat_lt port BINDABLE_PORTS) _ _ (either ArePorts (is_some (owner_of s.ports.bound port)) _ _ h.ports h.ports) h.ports; trash = h.trash; out = h.out; stats = h.stats }
go_request f s app time (note.Connect number dest port prio flags from) are h =
    let r : Request = record { seat = seat app number; dest = dest; port = port; prio = prio; flags = flags; from = from } in
    ported_light s (connect (flows_of f) s.ports r time) (connect_light (flows_of f) s.ports r time are.window h.ports) h
go_request f s app time (note.Close number) are h = ported_light s (close s.ports (seat app number) time) (close_light s.ports (seat app number) time h.ports) h
go_request f s app time note.Bound are h = h
go_request f s app time (note.Connected number) are h = h
go_request f s app time (note.Refused reason) are h = h
go_request f s app time (note.Closed number) are h = h
go_request f s app time (note.Down number) are h = h

pub served_light : (f : Facts) (s : State) (time app : ℕ) (i : ItemShown) → AreFacts f → item_bytes i ≤ 522 → IsLightState s → IsTold (rules.served f s time app i)
served_light f s time app (item.Packet mark b) are data' h = go_mark (mark == UNMARKED) f s (seat app mark) time b data' h
served_light f s time app (item.Note n) are data' h = go_request f s app time n are h
served_light f s time app (item.Frame x) are data' h = h

-- ---- from the machine of a connection

pub made_on_light : (x : Slot) (j : Job) (f : Facts) (s : State) (seat : Seat) (time : ℕ) (b : Content) → IsLight b → IsLightState s → IsTold (rules.made_on x (seat, j) (router f s) time b)
made_on_light slot.Free j f s seat time b light h = trashed s b light h
made_on_light slot.Held j f s seat time b light h = trashed s b light h
made_on_light (slot.Open c) j f s seat time b light h =
    let t = with_ports s (making j time seat s.ports) in
    sent_light f t (rules.addressed f c (terms_at s.ports seat) (made_in j time seat b s.ports))
    (headed_light (rules.header_for f c (terms_at s.ports seat)) (made_in j time seat b s.ports) (made_light j time seat b s.ports h.ports))
    (record { ports = making_light j time seat s.ports h.ports; trash = h.trash; out = h.out; stats = h.stats })
