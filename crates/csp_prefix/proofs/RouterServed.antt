-- what comes of an item of an application
use Rattle.std.proofs.Common.{◌≡◌, ◌≢◌, ◌⊎◌, inl, inr, ℕ, ◌<◌, ◌==◌, ◌&&◌, Bool, true, false, Option, None, Some, List, [], ◌∷◌, ◌++◌, refl, sym, ap, ◌∙◌, subst, arith}
use Rattle.std.specs.Prelude.{if◌then◌else◌, is_some, nat_lt}
use Rattle.std.specs.List.{AllByRecursion, flat_map}
use Rattle.std.proofs.lemmas.Bool.{eq-eqb}
use Rattle.std.proofs.lemmas.List.{append-nil}
use Rattle.csp_base.specs.Seat.{seat}
use Rattle.csp_base.specs.declared.seat.Seat.{Seat}
use Rattle.csp_buffer.specs.Content.{Content}
use Rattle.csp_conn.specs.PlainConns.{slot_at}
use Rattle.csp_base.specs.declared.limits.TheConstants.{SLOTS}
use Rattle.csp_conn.specs.declared.slot.Connection.{Connection}
use Rattle.csp_conn.specs.declared.slot.Slot.{Slot}
use Rattle.csp_conn.specs.declared.slot.Slot.TheVariants as has
use Rattle.csp_deck.specs.Carried.{IsUpItem}
use Rattle.csp_log.specs.declared.event.Discard.TheVariants as why
use Rattle.csp_log.specs.declared.event.Event.{Event}
use Rattle.csp_log.specs.declared.event.Event.TheVariants as event
use Rattle.csp_log.specs.declared.note.Note.{Note}
use Rattle.csp_log.specs.declared.note.Note.TheVariants as note
use Rattle.csp_log.specs.declared.places.QueueId.TheVariants as queue
use Rattle.csp_log.specs.declared.places.TheConstants.{UNMARKED}
use Rattle.csp_log.specs.declared.shown.AnswerShown.TheVariants as answer
use Rattle.csp_log.specs.declared.shown.ItemShown.{ItemShown}
use Rattle.csp_log.specs.declared.shown.ItemShown.TheVariants as item
use Rattle.csp_log.specs.declared.shown.OpShown.TheVariants as op
use Rattle.csp_ports.proofs.Public.{none_stalled}
use Rattle.csp_ports.specs.Asking.{bind, close, connect}
use Rattle.csp_ports.specs.Asking.{is_reliable}
use Rattle.csp_ports.specs.Came.{Came}
use Rattle.csp_ports.specs.Packets.{submitting}
use Rattle.csp_ports.specs.PlainPorts.{PlainPorts, machine_at, stalled_at, stalls_of, terms_at}
use Rattle.csp_ports.specs.declared.request.Request.{Request}
use Rattle.csp_ports.specs.declared.terms.Terms.{Terms}
use Rattle.csp_rdp.specs.declared.answers.State.{State as MachineState}
use Rattle.csp_rdp.specs.declared.answers.State.TheVariants as state
use Rattle.csp_record.specs.Connections.{opened_by}
use Rattle.csp_record.specs.Payloads.{is_on, told_on}
use Rattle.csp_record.specs.declared.payloads.Transfer.TheVariants as way
use Rattle.csp_record.proofs.Public.{Ends}
use Rattle.csp_route.specs.Routes.{route_of}
use Rattle.csp_route.specs.declared.row.Row.{Row}
use Rattle.csp_header.specs.Word.{header_at}
use Rattle.csp_socket.specs.Bound.{owner_of}
use Rattle.csp_socket.specs.declared.sockets.TheConstants.{BINDABLE_PORTS}
use Rattle.csp_stack.specs.Readings.{is_checked}
use Rattle.csp_stack.specs.Router.{Facts, State, flows_of, router}
use Rattle.csp_stack.specs.Rules.{addressed, by_slot, header_for, requested, sent, sent_where, sent_on, served}
use Rattle.csp_stack.specs.Told.{Told, discarded, ported}
use Rattle.csp_prefix.specs.Ports.{AreGood, Books, IsInUse, IsSlot, Submits, is_same, now_at, with_sent}
use Rattle.csp_prefix.specs.Routers.{IsUntraced}
use Rattle.csp_prefix.proofs.RouterBooks.{Past, Tells, ends_of, no_openings_of, one_sent, past_after, past_same, tells_sent}
use Rattle.csp_prefix.proofs.RouterEntry.{AreUnsent, none_on, quiet_entry}
use Rattle.csp_prefix.proofs.RouterHeard.{Quietly, protected_trace, stands_discarded, stands_sent, stands_unchanged}
use Rattle.csp_prefix.proofs.RouterStanding.{Aim, IsAim, IsOut, Stands, good_plain, stands_comes}
use Rattle.csp_prefix.proofs.RouterBytes.{reliable_flag}

-- ---- events that tell nothing that was sent
pub unsent_none : AreUnsent []
unsent_none slot None = refl
unsent_none slot (Some payload) = refl

pub unsent_one : (e : Event) → ((slot : ℕ) → is_on way.Sent slot e ≡ false) → AreUnsent (e ∷ [])
unsent_one e none slot None = refl
unsent_one e none slot (Some payload) = rw (none slot) refl

-- ---- the entry of a packet that was sent on a connection
sent_here : (seat a : Seat) (payload : List ℕ) (told : ℕ) (rest : List Event) → AreUnsent rest
    → told_on way.Sent a.slot (event.Sent seat.slot told ∷ rest) (if seat.app == a.app then Some payload else None) ≡ (if is_same seat a then payload ∷ [] else [])
sent_here seat a payload told rest unsent = by_app (seat.app == a.app)
  where
    by_app : (t : Bool) → told_on way.Sent a.slot (event.Sent seat.slot told ∷ rest) (if t then Some payload else None) ≡ (if t && seat.slot == a.slot then payload ∷ [] else [])
    by_app false = refl
    by_app true = ap (λ xs. (if seat.slot == a.slot then payload ∷ [] else []) ++ xs) (unsent a.slot (Some payload)) ∙ append-nil _

pub sent_entry : (seat : Seat) (told : ℕ) (b : Content) (rest : List Event) (h : Past) → AreUnsent rest → ((app : ℕ) (ends : Ends) → flat_map (opened_by app ends) rest ≡ [])
    → one_sent seat b.payload h ≡ past_after (op.Pop (queue.Up seat.app)) (answer.Popped (item.Packet seat.slot b)) (event.Sent seat.slot told ∷ rest) h
sent_entry seat told b rest h unsent none =
    past_same (one_sent seat b.payload h) (past_after (op.Pop (queue.Up seat.app)) (answer.Popped (item.Packet seat.slot b)) (event.Sent seat.slot told ∷ rest) h)
    (λ app. sym (append-nil (h.opened app)) ∙ ap (λ xs. h.opened app ++ xs) (sym (none app (ends_of app h))))
    (λ a o. ap (λ xs. h.sent a o ++ (if h.ends a == o then xs else [])) (sym (sent_here seat a b.payload told rest unsent)))
    (λ a o. sym (append-nil _) ∙ ap (λ xs. h.down a o ++ xs) (none_on (h.ends a == o) [] refl)) (λ a. refl) refl

-- a packet without a trace has none when it is addressed
addressed_untraced : (f : Facts) (c : Connection) (t : Terms) (i : ℕ) (b : Content) → IsUntraced (item.Packet i b) → (addressed f c t b).trace.tag ≡ None
addressed_untraced f c t i b e = ap (λ x. x.tag) (protected_trace (is_checked (header_for f c t)) b) ∙ ap (λ x. x.tag) e

-- and one of a plain connection is not of the reliable transport
addressed_unreliable : (f : Facts) (c : Connection) (t : Terms) (b : Content) → is_reliable t.flags ≡ false → is_reliable (header_at (addressed f c t b).header).flags.0 ≡ false
addressed_unreliable f c t b plain = reliable_flag (header_for f c t) ∙ plain

open_or : (s : MachineState) → (s ≡ state.Open) ⊎ (s ≢ state.Open)
open_or state.Open = inl refl
open_or state.SynSent = inr (λ e. cc)
open_or state.SynRcvd = inr (λ e. cc)
open_or state.CloseWait = inr (λ e. cc)
open_or state.Closed = inr (λ e. cc)

module _ (g : Aim) (f : Facts) (whole : Past) (k : IsAim g f whole) where
  -- what holds of the router holds of it after the turn that popped this item
  abbrev pub Serves : Past → ℕ → ItemShown → Told → Type 0
  Serves h app i t = AllByRecursion g.fresh t.events → Stands g f (past_after (op.Pop (queue.Up app)) (answer.Popped i) t.events h) t.state.ports t.state.out

  quiet_packet : (h : Past) (app mark : ℕ) (b : Content) (t : Told) → AreUnsent t.events → Quietly g f whole k h t → Serves h app (item.Packet mark b) t
  quiet_packet h app mark b t unsent w fresh =
      subst (λ x. Stands g f x t.state.ports t.state.out) (quiet_entry (op.Pop (queue.Up app)) (answer.Popped (item.Packet mark b)) t.events h (record { free = λ a. refl; sent = λ a. unsent a.slot _; down = λ a. refl })) (w fresh)

  quiet_note : (h : Past) (app : ℕ) (n : Note) (t : Told) → Quietly g f whole k h t → Serves h app (item.Note n) t
  quiet_note h app n t w fresh =
      subst (λ x. Stands g f x t.state.ports t.state.out) (quiet_entry (op.Pop (queue.Up app)) (answer.Popped (item.Note n)) t.events h (record { free = λ a. refl; sent = λ a. refl; down = λ a. refl })) (w fresh)

  discarded_unsent : (reason : why.the_data) → AreUnsent (event.Discarded reason ∷ [])
  discarded_unsent reason = unsent_one (event.Discarded reason) (λ s. refl)

  -- ---- a good packet goes out
  record IsSentOff (s : State) (t : Told) : Type 0 where
    ports : t.state.ports ≡ s.ports
    leaves : (books : Books) → IsOut g f.apps books t.state.out
    unsent : AreUnsent t.events
    none : (app : ℕ) (ends : Ends) → flat_map (opened_by app ends) t.events ≡ []

  sent_off : (own : Bool) (row : Option Row) (s : State) (b : Content) → s.out ≡ None → g.good b → IsSentOff s (sent_where own row s b)
  sent_off true row s b empty good = record { ports = refl; leaves = λ books. good; unsent = unsent_none; none = λ app ends. refl }
  sent_off false None s b empty good = record { ports = refl; leaves = λ books. subst (IsOut g f.apps books) (sym empty) tt; unsent = discarded_unsent why.NoRoute; none = λ app ends. refl }
  sent_off false (Some row) s b empty good = record { ports = refl; leaves = λ books. inl good; unsent = unsent_none; none = λ app ends. refl }

  -- ---- a packet for a slot
  by_connection_so : (reliable : Bool) (c : Connection) (h : Past) (s : State) (seat : Seat) (time : ℕ) (b : Content) → slot_at s.ports.conns seat ≡ has.Open c → is_reliable (terms_at s.ports seat).flags ≡ reliable
      → seat.app < s.ports.conns.apps → seat.slot < SLOTS → stalled_at s.ports seat ≡ None → s.out ≡ None → IsUntraced (item.Packet seat.slot b) → Stands g f h s.ports s.out → Serves h seat.app (item.Packet seat.slot b) (if reliable then ported s (submitting s.ports seat b time) else sent_on c (router f s) seat b)
  by_connection_so false c h s seat time b there plain few low free empty untraced w =
      let told : ℕ = (terms_at s.ports seat).ordinal in
      let x : Content = addressed f c (terms_at s.ports seat) b in
      let to : ℕ = (header_at x.header).dst in
      let off = sent_off (to == f.addr) (route_of s.routes to) s x empty (k.unreliable x (addressed_untraced f c (terms_at s.ports seat) seat.slot b untraced) (addressed_unreliable f c (terms_at s.ports seat) b plain)) in
      let t : Told = sent f s x in
      let one = w.good.slots seat few low in
      let used = subst (λ o. IsSlot g.is o (terms_at s.ports seat) w.numbering seat (now_at s.ports w.books seat)) there one in
      let opened = (subst (λ r. IsInUse g.is r w.numbering seat (now_at s.ports w.books seat)) plain used).opened in
      λ fresh. subst (λ y. Stands g f y t.state.ports t.state.out) (sent_entry seat told b t.events h off.unsent off.none) (record {
        numbering = w.numbering;
        books = with_sent seat b.payload w.books;
        good = subst (λ p. AreGood g.is w.numbering h.ends (with_sent seat b.payload w.books) p) (sym off.ports)
            (good_plain g f whole k w.numbering h.ends w.books s.ports seat (record (w.books seat) { sent = (w.books seat).sent ++ b.payload ∷ [] }) opened refl w.good);
        tells = tells_sent g.over f.apps w.numbering h w.books seat b.payload w.tells;
        apps = ap (λ (p : PlainPorts). p.conns.apps) off.ports ∙ w.apps;
        out = off.leaves (with_sent seat b.payload w.books);
      })
  by_connection_so true c h s seat time b there reliable few low free empty untraced w =
      let came : Came = submitting s.ports seat b time in
      let done = k.ports.submits w.numbering h.ends w.books s.ports seat b time few low (record { connection = c; there = there; reliable = reliable }) free w.good in
      by_state came done (open_or (machine_at s.ports seat).state)
    where
      none_out : (books : Books) → IsOut g f.apps books s.out
      none_out books = subst (IsOut g f.apps books) (sym empty) tt

      by_state : (came : Came) → Submits g.is w.numbering h.ends w.books s.ports seat b came → ((machine_at s.ports seat).state ≡ state.Open) ⊎ ((machine_at s.ports seat).state ≢ state.Open)
          → AllByRecursion g.fresh came.events → Stands g f (past_after (op.Pop (queue.Up seat.app)) (answer.Popped (item.Packet seat.slot b)) came.events h) came.ports s.out
      by_state came done (inl is) fresh =
          let now = done.sent is in
          subst (λ es. Stands g f (past_after (op.Pop (queue.Up seat.app)) (answer.Popped (item.Packet seat.slot b)) es h) came.ports s.out) (sym now.0)
          (subst (λ y. Stands g f y came.ports s.out) (sent_entry seat (terms_at s.ports seat).ordinal b [] h unsent_none (λ a ends. refl)) (record {
            numbering = w.numbering;
            books = with_sent seat b.payload w.books;
            good = now.1;
            tells = tells_sent g.over f.apps w.numbering h w.books seat b.payload w.tells;
            apps = done.same ∙ w.apps;
            out = none_out (with_sent seat b.payload w.books);
          }))
      by_state came done (inr is) fresh =
          let now = done.not_sent is in
          subst (λ es. Stands g f (past_after (op.Pop (queue.Up seat.app)) (answer.Popped (item.Packet seat.slot b)) es h) came.ports s.out) (sym now.0)
          (subst (λ y. Stands g f y came.ports s.out)
          (quiet_entry (op.Pop (queue.Up seat.app)) (answer.Popped (item.Packet seat.slot b)) (event.Discarded why.NoConn ∷ []) h (record { free = λ a. refl; sent = λ a. discarded_unsent why.NoConn a.slot _; down = λ a. refl }))
          (record {
            numbering = w.numbering;
            books = w.books;
            good = now.1;
            tells = subst (λ y. Tells g.over f.apps w.numbering y w.books) (sym (no_openings_of h (event.Discarded why.NoConn) (λ a ends. refl))) w.tells;
            apps = done.same ∙ w.apps;
            out = none_out w.books;
          }))

  by_slot_so : (o : Slot) (h : Past) (s : State) (seat : Seat) (time : ℕ) (b : Content) → slot_at s.ports.conns seat ≡ o → seat.app < s.ports.conns.apps → seat.slot < SLOTS → stalled_at s.ports seat ≡ None → s.out ≡ None
      → IsUntraced (item.Packet seat.slot b) → Stands g f h s.ports s.out → Serves h seat.app (item.Packet seat.slot b) (by_slot o (router f s) seat time b)
  by_slot_so has.Free h s seat time b there few low free empty untraced w = quiet_packet h seat.app seat.slot b (discarded s why.NoConn b) (discarded_unsent why.NoConn) (stands_discarded g f whole k h s why.NoConn b w)
  by_slot_so has.Held h s seat time b there few low free empty untraced w = quiet_packet h seat.app seat.slot b (discarded s why.NoConn b) (discarded_unsent why.NoConn) (stands_discarded g f whole k h s why.NoConn b w)
  by_slot_so (has.Open c) h s seat time b there few low free empty untraced w = by_connection_so (is_reliable (terms_at s.ports seat).flags) c h s seat time b there refl few low free empty untraced w

  by_mark_so : (unmarked : Bool) (h : Past) (s : State) (app mark time : ℕ) (b : Content) → (mark == UNMARKED) ≡ unmarked → app < s.ports.conns.apps → IsUpItem (item.Packet mark b) → stalls_of app s.ports.slots ≡ 0 → s.out ≡ None
      → IsUntraced (item.Packet mark b) → g.comes (item.Packet mark b) → Stands g f h s.ports s.out → Serves h app (item.Packet mark b) (if unmarked then sent f s b else by_slot (slot_at s.ports.conns (seat app mark)) (router f s) (seat app mark) time b)
  by_mark_so true h s app mark time b e few up free empty untraced comes w =
      let good = k.unmarked mark b e (ap (λ x. x.tag) untraced) comes in
      let off = sent_off ((header_at b.header).dst == f.addr) (route_of s.routes (header_at b.header).dst) s b empty good in
      quiet_packet h app mark b (sent f s b) off.unsent (stands_sent g f whole k h s b w good)
  by_mark_so false h s app mark time b e few up free empty untraced comes w =
      let marked : mark ≢ UNMARKED = λ is. absurd (let same : (mark == UNMARKED) ≡ true = eq-eqb mark UNMARKED is in cc) in
      by_slot_so (slot_at s.ports.conns (seat app mark)) h s (seat app mark) time b refl few (up marked).0 (none_stalled s.ports (seat app mark) (up marked).0 free) empty untraced w

  -- ---- a request
  requested_so : (n : Note) (h : Past) (s : State) (app time : ℕ) → app < s.ports.conns.apps → IsUpItem (item.Note n) → stalls_of app s.ports.slots ≡ 0 → g.comes (item.Note n) → Stands g f h s.ports s.out → Quietly g f whole k h (requested f s app time n)
  requested_so (note.Bind port need) h s app time few up free comes w =
      stands_unchanged g f whole k h (record s { ports = bind s.ports app port need })
      (record { numbering = w.numbering; books = w.books; good = k.ports.binds w.numbering h.ends w.books s.ports app port need few w.good; tells = w.tells; apps = bind_apps ∙ w.apps; out = w.out })
    where
      either : (b : Bool) (x y : PlainPorts) → x.conns.apps ≡ s.ports.conns.apps → y.conns.apps ≡ s.ports.conns.apps → (if b then x else y).conns.apps ≡ s.ports.conns.apps
      either true x y e q = e
      either false x y e q = q

      bind_apps : (bind s.ports app port need).conns.apps ≡ s.ports.conns.apps
      bind_apps = either (nat_lt port BINDABLE_PORTS) _ _ (either (is_some (owner_of s.ports.bound port)) _ _ refl refl) refl
  requested_so (note.Connect slot dest port prio flags from) h s app time few up free comes w =
      let r : Request = record { seat = seat app slot; dest = dest; port = port; prio = prio; flags = flags; from = from } in
      let done = k.ports.connects w.numbering h.ends w.books s.ports r time few up (k.wishes s.ports r comes) w.good in
      λ fresh. stands_comes g f h s.ports s.out w done.after (connect (flows_of f) s.ports r time) done.goes_on k.grows done.comes
  requested_so (note.Close slot) h s app time few up free comes w =
      λ fresh. stands_comes g f h s.ports s.out w w.numbering (close s.ports (seat app slot) time) (record { more = omega arith; same = λ n lt. refl }) k.grows
      (k.ports.closes w.numbering h.ends w.books s.ports (seat app slot) time few up (none_stalled s.ports (seat app slot) up free) w.good)
  requested_so note.Bound h s app time few up free comes w = stands_unchanged g f whole k h s w
  requested_so (note.Connected slot) h s app time few up free comes w = stands_unchanged g f whole k h s w
  requested_so (note.Refused reason) h s app time few up free comes w = stands_unchanged g f whole k h s w
  requested_so (note.Closed slot) h s app time few up free comes w = stands_unchanged g f whole k h s w
  requested_so (note.Down slot) h s app time few up free comes w = stands_unchanged g f whole k h s w

  pub stands_served : (i : ItemShown) (h : Past) (s : State) (app time : ℕ) → app < s.ports.conns.apps → IsUpItem i → IsUntraced i → g.comes i → stalls_of app s.ports.slots ≡ 0 → s.out ≡ None → Stands g f h s.ports s.out
      → Serves h app i (served f s time app i)
  stands_served (item.Packet mark b) h s app time few up untraced comes free empty w = by_mark_so (mark == UNMARKED) h s app mark time b refl few up free empty untraced comes w
  stands_served (item.Note n) h s app time few up untraced comes free empty w = quiet_note h app n (requested f s app time n) (requested_so n h s app time few up free comes w)
  stands_served (item.Frame frame) h s app time few up untraced comes free empty w = absurd up
