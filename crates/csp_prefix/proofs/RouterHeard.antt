-- what comes of a packet that a router hears
use Rattle.std.proofs.Common.{◌≡◌, inl, inr, ℕ, ◌+◌, ◌-◌, ◌*◌, ◌/◌, ◌%◌, ◌<◌, ◌==◌, ◌||◌, Bool, true, false, Option, None, Some, List, [], ◌∷◌, length, take, drop, get_or, refl, sym, ap, ◌∙◌, subst, arith}
use Rattle.std.specs.Prelude.{IfSome, Result, Ok, Err, if◌then◌else◌}
use Rattle.std.specs.List.{AllByRecursion, position}
use Rattle.std.specs.Option.{option_map}
use Rattle.std.proofs.lemmas.List.{get_or-drop, get_or-take, length-take}
use Rattle.std.proofs.lemmas.List.Quantifiers.{position-Some}
use Rattle.std.proofs.lemmas.Nat.{and_assoc}
use Rattle.csp_base.specs.Seat.{seat}
use Rattle.csp_base.specs.declared.seat.Seat.{Seat}
use Rattle.csp_base.specs.declared.traces.Tag.{Tag}
use Rattle.csp_buffer.specs.Content.{Content}
use Rattle.csp_conn.specs.Opening.{first_free, found, free_seat}
use Rattle.csp_conn.specs.PlainConns.{PlainConns, place_of, seat_of, slot_at, slots_of}
use Rattle.csp_conn.specs.Slots.{is_between, is_free}
use Rattle.csp_base.specs.declared.limits.TheConstants.{SLOTS}
use Rattle.csp_conn.specs.declared.slot.Connection.{Connection}
use Rattle.csp_conn.specs.declared.slot.Slot.TheVariants as has
use Rattle.csp_conn.proofs.Public.{is_between-open}
use Rattle.csp_crc.specs.Check.{payload_of}
use Rattle.csp_header.specs.Word.{header_at}
use Rattle.csp_header.specs.declared.word.Header.{Header}
use Rattle.csp_log.specs.declared.event.Discard.{Discard}
use Rattle.csp_log.specs.declared.event.Discard.TheVariants as why
use Rattle.csp_log.specs.declared.event.Event.{Event}
use Rattle.csp_log.specs.declared.event.Event.TheVariants as event
use Rattle.csp_ports.specs.Asking.{is_reliable}
use Rattle.csp_ports.specs.Packets.{accepted, handing, invited}
use Rattle.csp_ports.specs.PlainPorts.{machine_at, terms_at}
use Rattle.csp_ports.specs.declared.handing.Invitation.{Invitation}
use Rattle.csp_rdp_header.specs.Head.{has_flag, parted}
use Rattle.csp_rdp_header.specs.Options.{judged}
use Rattle.csp_rdp_header.specs.declared.errors.OptionError.{OptionError}
use Rattle.csp_rdp_header.specs.declared.head.RdpHead.{RdpHead}
use Rattle.csp_rdp_header.specs.declared.head.TheConstants.{ACK, RST, SYN}
use Rattle.csp_rdp_header.specs.declared.options.Options.{Options}
use Rattle.csp_record.specs.Connections.{opened_by}
use Rattle.csp_record.proofs.Public.{Ends}
use Rattle.csp_route.specs.Routes.{route_of}
use Rattle.csp_route.specs.declared.row.Row.{Row}
use Rattle.csp_service.specs.Answers.{answered}
use Rattle.csp_service.specs.declared.answers.Served.{Served}
use Rattle.csp_service.specs.declared.answers.Served.TheVariants.{NoService, Refused, Reply, Silent}
use Rattle.csp_socket.specs.Bound.{owner_of}
use Rattle.csp_service.specs.declared.stats.Count.TheVariants as count
use Rattle.csp_stack.specs.Counting.{counting}
use Rattle.csp_stack.proofs.Public.{by_rest, heard_here}
use Rattle.csp_stack.specs.Comes.{heard_at_port, heard_at_socket, heard_elsewhere}
use Rattle.csp_stack.specs.Readings.{is_checked, is_here, is_secured}
use Rattle.csp_stack.specs.Router.{Facts, Leaving, State, flows_of, router}
use Rattle.csp_stack.specs.Rules.{◌>>=◌, Arrival, Decided, Left, accepting, answer_flags, arrival, syn_alone, asked_with, by_answer, by_connection, by_row, by_service, by_socket, connection_of, differs, forwarded, heard, invitation_in, inviting, is_lacking, is_mixed, opening, sent, seat_for, sent_where, to_connection, to_itself, to_machine, to_slot, with_payload}
use Rattle.csp_stack.specs.Sending.{protected}
use Rattle.csp_stack.specs.Serving.{facts_of, reply_header, reply_in, with_facts}
use Rattle.csp_stack.specs.Told.{Told, discarded, leaving, spent, unchanged}
use Rattle.csp_prefix.specs.Ports.{IsInUse, IsSlot, connection_in, now_at, with_opened}
use Rattle.csp_prefix.specs.Slots.{Book}
use Rattle.csp_prefix.proofs.PortViews.{book_same, is_free-free}
use Rattle.csp_prefix.proofs.RouterBooks.{Past, no_openings, no_openings_of, tells_noted, with_openings}
use Rattle.csp_prefix.proofs.RouterStanding.{Aim, IsAim, IsOut, IsRead, Stands, not_false, stands_comes, unwrapped}
use Rattle.csp_prefix.proofs.RouterBytes.{reliable_flag}
use Rattle.csp_prefix.proofs.RouterMute.{IsMute, answered_mute, order_opens}
use Rattle.std.specs.Int.Bits.{and_zero_r}

-- ---- slots that were found
pub record IsFound (c : PlainConns) (x : Connection) (seat : Seat) : Type 0 where
  pub app_there : seat.app < c.apps
  pub slot_there : seat.slot < SLOTS
  pub is_open : slot_at c seat ≡ has.Open x

pub found_there : (c : PlainConns) (x : Connection) (seat : Seat) → length c.slots ≡ c.apps * SLOTS → found c x ≡ Some seat → IsFound c x seat
found_there c x seat all e = by_place (position (is_between x) c.slots) refl e
  where
    by_place : (o : Option ℕ) → position (is_between x) c.slots ≡ o → option_map seat_of o ≡ Some seat → IsFound c x seat
    by_place None q e = absurd cc
    by_place (Some place) q e =
        let same : seat_of place ≡ seat = cc in
        let seen = position-Some (is_between x) c.slots place has.Free q in
        let whole : place / 4 * 4 + place % 4 ≡ place = omega arith in
        subst (IsFound c x) same (record {
          app_there = omega (arith, seen.0, all);
          slot_there = omega arith;
          is_open = rw whole (is_between-open x _ seen.1);
        })

pub free_there : (c : PlainConns) (app slot : ℕ) → first_free c app ≡ Some slot → (slot < SLOTS) × (slot_at c (seat app slot) ≡ has.Free)
free_there c app slot e =
    let first : ℕ = place_of (seat app 0) in
    let seen = position-Some is_free (slots_of c app) slot has.Free e in
    let width : first + SLOTS - first ≡ 4 = omega arith in
    let cut : slots_of c app ≡ take 4 (drop first c.slots) = ap (λ n. take n (drop first c.slots)) width in
    let few : slot < 4 = omega (arith, seen.0, ap length cut, length-take 4 (drop first c.slots)) in
    let at : first + slot ≡ place_of (seat app slot) = omega arith in
    let here : get_or (slots_of c app) slot has.Free ≡ slot_at c (seat app slot) =
    ap (λ xs. get_or xs slot has.Free) cut ∙ get_or-take 4 (drop first c.slots) slot has.Free few ∙ get_or-drop first c.slots slot has.Free ∙ ap (λ n. get_or c.slots n has.Free) at in
    (few, sym here ∙ is_free-free _ seen.1)

-- ---- the flags of an answer
answer_reliable : (h : Header) → is_reliable (answer_flags h) ≡ is_reliable h.flags.0
answer_reliable h = ap (λ n. n == 2) (and_assoc 2 h.flags.0 3)

pub protected_trace : (checked : Bool) (b : Content) → (protected checked b).trace ≡ b.trace
protected_trace true b = refl
protected_trace false b = refl

reply_untraced : (f : Facts) (h : Header) (b : Content) (bytes : List ℕ) → (reply_in f h b bytes).trace.tag ≡ None
reply_untraced f h b bytes = ap (λ t. t.tag) (protected_trace (is_checked (reply_header f h)) _)

-- a reply is of no connection: of the flags it keeps that of a checksum alone
reply_unreliable : (f : Facts) (h : Header) (b : Content) (bytes : List ℕ) → is_reliable (header_at (reply_in f h b bytes).header).flags.0 ≡ false
reply_unreliable f h b bytes = reliable_flag (reply_header f h) ∙ ap (λ n. n == 2) (and_assoc 2 h.flags.0 1 ∙ and_zero_r h.flags.0)

module _ (g : Aim) (f : Facts) (whole : Past) (k : IsAim g f whole) where
  -- where its events are as they are to be, what holds of the router holds of it after a turn that moved nothing
  abbrev pub Quietly : Past → Told → Type 0
  Quietly h t = AllByRecursion g.fresh t.events → Stands g f (with_openings t.events h) t.state.ports t.state.out

  pub stands_spent : (h : Past) (s : State) (e : Event) (b : Content) → ((app : ℕ) (ends : Ends) → opened_by app ends e ≡ []) → Stands g f h s.ports s.out → Quietly h (spent s e b)
  stands_spent h s e b none w fresh = subst (λ x. Stands g f x s.ports s.out) (sym (no_openings_of h e none)) w

  pub stands_discarded : (h : Past) (s : State) (why : Discard) (b : Content) → Stands g f h s.ports s.out → Quietly h (discarded s why b)
  stands_discarded h s why b w = stands_spent h s (event.Discarded why) b (λ app ends. refl) w

  pub stands_unchanged : (h : Past) (s : State) → Stands g f h s.ports s.out → Quietly h (unchanged s)
  stands_unchanged h s w fresh = subst (λ x. Stands g f x s.ports s.out) (no_openings h) w

  pub stands_leaving : (h : Past) (s : State) (o : Leaving) (w : Stands g f h s.ports s.out) → IsOut g f.apps w.books (Some o) → Quietly h (leaving s o)
  stands_leaving h s o w out fresh = subst (λ x. Stands g f x s.ports (Some o)) (no_openings h) (record { numbering = w.numbering; books = w.books; good = w.good; tells = w.tells; apps = w.apps; out = out })

  sent_so : (own : Bool) (row : Option Row) (h : Past) (s : State) (b : Content) → Stands g f h s.ports s.out → g.good b → Quietly h (sent_where own row s b)
  sent_so true row h s b w good = stands_leaving h s (to_itself b) w good
  sent_so false None h s b w good = stands_discarded h s why.NoRoute b w
  sent_so false (Some row) h s b w good = stands_leaving h s (by_row row b) w (inl good)

  -- a good packet is sent
  pub stands_sent : (h : Past) (s : State) (b : Content) → Stands g f h s.ports s.out → g.good b → Quietly h (sent f s b)
  stands_sent h s b w good = sent_so _ _ h s b w good

  -- ---- the rules, from the first on
  forwarded_so : (row : Option Row) (h : Past) (s : State) (p : Arrival) → g.hears p.buffer → Stands g f h s.ports s.out → Quietly h (forwarded row s p)
  forwarded_so None h s p hears w = stands_discarded h s why.NoRoute p.buffer w
  forwarded_so (Some row) h s p hears w = by_back (row.iface == p.mark)
    where
      by_back : (back : Bool) → Quietly h (if back then discarded s why.BackOut p.buffer else leaving s (by_row row p.buffer))
      by_back true = stands_discarded h s why.BackOut p.buffer w
      by_back false = stands_leaving h s (by_row row p.buffer) w (inr hears)

  for_this_node_so : (here : Bool) (t : Told) (h : Past) (p : Arrival) (next : Arrival → Told) → Quietly h t → (here ≡ true → Quietly h (next p)) → Quietly h ((if here then Left p else Decided t) >>= next)
  for_this_node_so false t h p next told rest = told
  for_this_node_so true t h p next told rest = rest refl

  -- a rule of one test
  by_test_so : (decides : Bool) (t : Told) (h : Past) (p : Arrival) (next : Arrival → Told) → Quietly h t → Quietly h (next p) → Quietly h ((if decides then Decided t else Left p) >>= next)
  by_test_so true t h p next told rest = told
  by_test_so false t h p next told rest = rest

  by_checksum_so : (checked : Bool) (o : Option (List ℕ)) (h : Past) (s : State) (p : Arrival) (next : Arrival → Told) → payload_of p.buffer.payload ≡ o → Stands g f h s.ports s.out
      → ((bytes : List ℕ) → unwrapped checked p.buffer.payload ≡ Some bytes → Quietly h (next (record p { buffer = record p.buffer { payload = bytes } }))) → Quietly h ((if checked then with_payload o s p else Left p) >>= next)
  by_checksum_so true None h s p next e w rest = stands_discarded h (counting s p.mark count.ReceiveErrors 1) why.CrcWrong p.buffer w
  by_checksum_so true (Some bytes) h s p next e w rest = rest bytes e
  by_checksum_so false o h s p next e w rest = rest p.buffer.payload refl

  -- ---- 4. a packet of a connection in use
  abbrev after_checksum : ℕ → Content → List ℕ → Arrival
  after_checksum mark b bytes = record { mark = mark; head = header_at b.header; buffer = record b { payload = bytes } }

  plain_opened : (h : Past) (s : State) (w : Stands g f h s.ports s.out) (c : Connection) (seat : Seat) → IsFound s.ports.conns c seat → is_reliable (terms_at s.ports seat).flags ≡ false → (w.books seat).opened ≡ Some (None, None)
  plain_opened h s w c seat x plain =
      let one = w.good.slots seat x.app_there x.slot_there in
      let used = subst (λ o. IsSlot g.is o (terms_at s.ports seat) w.numbering seat (now_at s.ports w.books seat)) x.is_open one in
      (subst (λ r. IsInUse g.is r w.numbering seat (now_at s.ports w.books seat)) plain used).opened

  to_machine_so : (o : Option (List ℕ × RdpHead)) (h : Past) (s : State) (seat : Seat) (time mark : ℕ) (b : Content) (bytes : List ℕ) → parted bytes ≡ o → g.hears b → is_here f.addr (header_at b.header) ≡ true → is_reliable (header_at b.header).flags.0 ≡ true → unwrapped (is_checked (header_at b.header)) b.payload ≡ Some bytes
      → IsFound s.ports.conns (connection_of (header_at b.header)) seat → is_reliable (terms_at s.ports seat).flags ≡ true → Stands g f h s.ports s.out → Quietly h (to_machine o s seat time (after_checksum mark b bytes))
  to_machine_so None h s seat time mark b bytes e hears here rdp un x reliable w = stands_discarded h s why.Malformed (record b { payload = bytes }) w
  to_machine_so (Some read) h s seat time mark b bytes e hears here rdp un x reliable w = λ fresh.
      stands_comes g f h s.ports s.out w w.numbering (handing s.ports seat read.1 (record b { payload = read.0 }) time) (record { more = omega arith; same = λ n lt. refl }) k.grows
      (k.ports.hands w.numbering h.ends w.books s.ports seat read.1 (record b { payload = read.0 }) time x.app_there x.slot_there
      (record { connection = connection_of (header_at b.header); there = x.is_open; reliable = reliable })
      (subst (λ o. g.coming.fed (connection_in o) (machine_at s.ports seat) read.1 b.trace.tag read.0) (sym x.is_open)
      (k.feeds b bytes (machine_at s.ports seat) read hears (record { here = here; reliable = rdp; is_unwrapped = un; is_parted = e }) fresh.0)) w.good)

  to_connection_so : (reliable : Bool) (h : Past) (s : State) (seat : Seat) (time mark : ℕ) (b : Content) (bytes : List ℕ) → is_reliable (header_at b.header).flags.0 ≡ reliable → g.hears b → is_here f.addr (header_at b.header) ≡ true → unwrapped (is_checked (header_at b.header)) b.payload ≡ Some bytes
      → IsFound s.ports.conns (connection_of (header_at b.header)) seat → differs reliable (is_reliable (terms_at s.ports seat).flags) ≡ false → Stands g f h s.ports s.out
      → Quietly h (if reliable then to_machine (parted bytes) s seat time (after_checksum mark b bytes) else leaving s (to_slot seat (record b { payload = bytes })))
  to_connection_so false h s seat time mark b bytes rdp hears here un x same w =
      stands_leaving h s (to_slot seat (record b { payload = bytes })) w (subst (λ a. seat.app < a) w.apps x.app_there, x.slot_there, plain_opened h s w (connection_of (header_at b.header)) seat x same)
  to_connection_so true h s seat time mark b bytes rdp hears here un x same w =
      to_machine_so (parted bytes) h s seat time mark b bytes refl hears here rdp un x (not_false (is_reliable (terms_at s.ports seat).flags) same) w

  at_connection_so : (mixed lacking : Bool) (at : Seat) (h : Past) (s : State) (time mark : ℕ) (b : Content) (bytes : List ℕ) → is_mixed s at (after_checksum mark b bytes) ≡ mixed → Stands g f h s.ports s.out
      → (is_mixed s at (after_checksum mark b bytes) ≡ false → Quietly h (to_connection s at time (after_checksum mark b bytes)))
      → Quietly h (if mixed then discarded s why.Mixed (record b { payload = bytes }) else if lacking then discarded s why.Required (record b { payload = bytes }) else to_connection s at time (after_checksum mark b bytes))
  at_connection_so true lacking at h s time mark b bytes e w rest = stands_discarded h s why.Mixed (record b { payload = bytes }) w
  at_connection_so false true at h s time mark b bytes e w rest = stands_discarded h s why.Required (record b { payload = bytes }) w
  at_connection_so false false at h s time mark b bytes e w rest = rest e

  by_connection_so : (at : Option Seat) (h : Past) (s : State) (time mark : ℕ) (b : Content) (bytes : List ℕ) (next : Arrival → Told) → g.hears b → is_here f.addr (header_at b.header) ≡ true → unwrapped (is_checked (header_at b.header)) b.payload ≡ Some bytes
      → seat_for s (after_checksum mark b bytes) ≡ at → Stands g f h s.ports s.out → Quietly h (next (after_checksum mark b bytes)) → Quietly h (by_connection at s time (after_checksum mark b bytes) >>= next)
  by_connection_so None h s time mark b bytes next hears here un e w rest = rest
  by_connection_so (Some at) h s time mark b bytes next hears here un e w rest =
      at_connection_so (is_mixed s at (after_checksum mark b bytes)) (is_lacking s (after_checksum mark b bytes)) at h s time mark b bytes refl w λ same.
      (to_connection_so (is_reliable (header_at b.header).flags.0) h s at time mark b bytes refl hears here un (found_there s.ports.conns (connection_of (header_at b.header)) at w.good.conns e) same w)

  -- ---- 5. a packet to a bound port
  free_blank : (h : Past) (s : State) (w : Stands g f h s.ports s.out) (seat : Seat) → seat.app < s.ports.conns.apps → seat.slot < SLOTS → slot_at s.ports.conns seat ≡ has.Free → (w.books seat).opened ≡ None
  free_blank h s w seat few low free =
      let vacant = subst (λ o. IsSlot g.is o (terms_at s.ports seat) w.numbering seat (now_at s.ports w.books seat)) free (w.good.slots seat few low) in
      ap (λ (b : Book). b.opened) vacant.0.book

  accepting_so : (o : Option ℕ) (h : Past) (s : State) (app : ℕ) (p : Arrival) → first_free s.ports.conns app ≡ o → app < s.ports.conns.apps → is_reliable p.head.flags.0 ≡ false → Stands g f h s.ports s.out → Quietly h (accepting (option_map (seat app) o) s p)
  accepting_so None h s app p e few plain w = stands_discarded h s why.NoSlot p.buffer w
  accepting_so (Some slot) h s app p e few plain w = λ fresh.
      let free : Seat = seat app slot in
      let there = free_there s.ports.conns app slot e in
      let few_f : app < f.apps = subst (λ a. app < a) w.apps few in
      record {
        numbering = w.numbering;
        books = with_opened free (None, None) w.books;
        good = k.ports.accepts w.numbering h.ends w.books s.ports free (connection_of p.head) p.head.prio (answer_flags p.head) few there.0 there.1 (answer_reliable p.head ∙ plain) w.good;
        tells = tells_noted g.over f.apps w.numbering (event.Opened app slot None None ∷ []) h w.books ((few_f, there.0, free_blank h s w free few there.0 there.1), tt) w.tells;
        apps = w.apps;
        out = (few_f, there.0, ap (λ (b : Book). b.opened) (book_same free _ w.books));
      }

  abbrev IsAsked : Header → Result Invitation Discard → Type 0
  IsAsked x (Err reason) = Unit {0}
  IsAsked x (Ok i) = (has_flag i.head SYN ≡ true) × g.coming.invites (connection_of x) (answer_flags x) i.head i.tag

  asked_with_so : (x : Header) (r : Result Options OptionError) (h : RdpHead) (tag : Option Tag) → has_flag h SYN ≡ true → g.coming.invites (connection_of x) (answer_flags x) h tag → IsAsked x (asked_with r h tag)
  asked_with_so x (Err error) h tag e so = tt
  asked_with_so x (Ok options) h tag e so = (e, so)

  asked_by_so : (syn other : Bool) (b : Content) (bytes : List ℕ) (read : List ℕ × RdpHead) → has_flag read.1 SYN ≡ syn → g.hears b → IsRead f b bytes read
      → IsAsked (header_at b.header) (syn_alone syn other read.0 read.1 b.trace.tag)
  asked_by_so false other b bytes read e hears known = tt
  asked_by_so true true b bytes read e hears known = tt
  asked_by_so true false b bytes read e hears known = asked_with_so (header_at b.header) (judged read.0) read.1 b.trace.tag e (k.asks b bytes read hears known e)

  invitation_so : (o : Option (List ℕ × RdpHead)) (b : Content) (bytes : List ℕ) → parted bytes ≡ o → g.hears b → is_here f.addr (header_at b.header) ≡ true → is_reliable (header_at b.header).flags.0 ≡ true → unwrapped (is_checked (header_at b.header)) b.payload ≡ Some bytes → IsAsked (header_at b.header) (invitation_in o b.trace.tag)
  invitation_so None b bytes q hears here rdp un = tt
  invitation_so (Some read) b bytes q hears here rdp un =
      asked_by_so (has_flag read.1 SYN) (has_flag read.1 ACK || has_flag read.1 RST) b bytes read refl hears (record { here = here; reliable = rdp; is_unwrapped = un; is_parted = q })

  inviting_so : (r : Result Invitation Discard) (o : Option ℕ) (h : Past) (s : State) (app time : ℕ) (p : Arrival) → IsAsked p.head r → first_free s.ports.conns app ≡ o → app < s.ports.conns.apps → is_reliable p.head.flags.0 ≡ true → Stands g f h s.ports s.out
      → Quietly h (inviting r (option_map (seat app) o) (router f s) time p)
  inviting_so (Err reason) o h s app time p so e few reliable w = stands_discarded h s reason p.buffer w
  inviting_so (Ok i) None h s app time p so e few reliable w = stands_discarded h s why.NoSlot p.buffer w
  inviting_so (Ok i) (Some slot) h s app time p so e few reliable w = λ fresh.
      let free : Seat = seat app slot in
      let there = free_there s.ports.conns app slot e in
      let c = invited (flows_of f) i free time (accepted s.ports free (connection_of p.head) p.head.prio (answer_flags p.head)) in
      let done = k.ports.invites w.numbering h.ends w.books s.ports free (connection_of p.head) p.head.prio (answer_flags p.head) i time few there.0 there.1 (answer_reliable p.head ∙ reliable) so.0 so.1 w.good in
      stands_comes g f h s.ports s.out w done.after c done.goes_on k.grows done.comes

  opening_so : (reliable : Bool) (h : Past) (s : State) (app time mark : ℕ) (b : Content) (bytes : List ℕ) → is_reliable (header_at b.header).flags.0 ≡ reliable → g.hears b → is_here f.addr (header_at b.header) ≡ true → unwrapped (is_checked (header_at b.header)) b.payload ≡ Some bytes
      → app < s.ports.conns.apps → Stands g f h s.ports s.out
      → Quietly h (if reliable then inviting (invitation_in (parted bytes) b.trace.tag) (free_seat s.ports.conns app) (router f s) time (after_checksum mark b bytes) else accepting (free_seat s.ports.conns app) s (after_checksum mark b bytes))
  opening_so false h s app time mark b bytes e hears here un few w = accepting_so (first_free s.ports.conns app) h s app (after_checksum mark b bytes) refl few e w
  opening_so true h s app time mark b bytes e hears here un few w =
      inviting_so (invitation_in (parted bytes) b.trace.tag) (first_free s.ports.conns app) h s app time (after_checksum mark b bytes) (invitation_so (parted bytes) b bytes refl hears here e un) refl few e w

  at_socket_so : (lacking : Bool) (h : Past) (s : State) (app time mark : ℕ) (b : Content) (bytes : List ℕ) → Stands g f h s.ports s.out → Quietly h (opening app f s time (after_checksum mark b bytes))
      → Quietly h (if lacking then discarded s why.Required (record b { payload = bytes }) else opening app f s time (after_checksum mark b bytes))
  at_socket_so true h s app time mark b bytes w rest = stands_discarded h s why.Required (record b { payload = bytes }) w
  at_socket_so false h s app time mark b bytes w rest = rest

  by_socket_so : (owner : Option (ℕ × ℕ)) (h : Past) (s : State) (time mark : ℕ) (b : Content) (bytes : List ℕ) (next : Arrival → Told) → owner_of s.ports.bound (header_at b.header).dport ≡ owner → g.hears b → is_here f.addr (header_at b.header) ≡ true
      → unwrapped (is_checked (header_at b.header)) b.payload ≡ Some bytes → Stands g f h s.ports s.out → Quietly h (next (after_checksum mark b bytes)) → Quietly h (by_socket owner f s time (after_checksum mark b bytes) >>= next)
  by_socket_so None h s time mark b bytes next e hears here un w rest = rest
  by_socket_so (Some owner) h s time mark b bytes next e hears here un w rest =
      let few : owner.0 < s.ports.conns.apps = subst (λ o. IfSome o (λ x. x.0 < s.ports.conns.apps)) e (w.good.owners (header_at b.header).dport) in
      at_socket_so (is_lacking s (after_checksum mark b bytes)) h s owner.0 time mark b bytes w
      (opening_so (is_reliable (header_at b.header).flags.0) h s owner.0 time mark b bytes refl hears here un few w)

  -- ---- 6. a request to a service
  by_answer_so : (o : Served) (reply : List ℕ) (h : Past) (s : State) (p : Arrival) → IsMute o → Stands g f h s.ports s.out → Quietly h (by_answer o reply f s p)
  by_answer_so Reply reply h s p mute w = stands_sent h s (reply_in f p.head p.buffer reply) w (k.unreliable (reply_in f p.head p.buffer reply) (reply_untraced f p.head p.buffer reply) (reply_unreliable f p.head p.buffer reply))
  by_answer_so (Silent e) reply h s p mute w = stands_spent h s e p.buffer (order_opens e mute) w
  by_answer_so (Refused error) reply h s p mute w = stands_discarded h s why.Malformed p.buffer w
  by_answer_so NoService reply h s p mute w = stands_discarded h s why.NoSocket p.buffer w

  -- ---- all rules
  pub stands_heard : (h : Past) (s : State) (time mark : ℕ) (b : Content) → g.hears b → Stands g f h s.ports s.out → Quietly h (heard f s time (arrival mark b))
  stands_heard h s time mark b hears w =
      let way = route_of s.routes (header_at b.header).dst in
      for_this_node_so (is_here f.addr (header_at b.header)) (forwarded way s (arrival mark b)) h (arrival mark b) (λ p. heard_here f s time p) (forwarded_so way h s (arrival mark b) hears w) λ here.
      (by_test_so (is_secured (header_at b.header)) (discarded (counting s mark count.AuthErrors 1) why.Refused b) h (arrival mark b) (λ p. by_rest f s time p) (stands_discarded h (counting s mark count.AuthErrors 1) why.Refused b w)
      (by_checksum_so (is_checked (header_at b.header)) (payload_of b.payload) h s (arrival mark b) (λ q. heard_at_port f s time q) refl w (λ bytes un.
      by_connection_so (seat_for s (after_checksum mark b bytes)) h s time mark b bytes (λ p. heard_at_socket f s time p) hears here un refl w
      (by_socket_so (owner_of s.ports.bound (header_at b.header).dport) h s time mark b bytes (λ p. heard_elsewhere f s time p) refl hears here un w
      (by_test_so (is_reliable (header_at b.header).flags.0) (discarded s why.NoSocket (record b { payload = bytes })) h (after_checksum mark b bytes) (λ p. by_service f s time p) (stands_discarded h s why.NoSocket (record b { payload = bytes }) w)
      (let o = answered (header_at b.header).dport bytes (facts_of f s) time in
      by_answer_so o.served o.reply h (with_facts s o.facts) (after_checksum mark b bytes) (answered_mute (header_at b.header).dport bytes time (facts_of f s)) w))))))
