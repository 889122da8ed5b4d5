-- What a step of a node's ports leaves due to an application: the answers that it is owed, and those that are still to come at its slots. No step leaves more
-- but one that the application asked for, which leaves one more at most; and the push of an answer leaves one less.
use Rattle.std.proofs.Common.{◌≡◌, ℕ, zero, suc, ◌+◌, ◌*◌, ◌<◌, ◌≤◌, ◌==◌, Bool, true, false, cond, nat_lt, Option, Some, None, List, [], ◌∷◌, ◌++◌, drop, get_or, take, refl, sym, ap, ◌∙◌, subst, arith}
use Rattle.std.specs.Prelude.{if◌then◌else◌, is_some, slice_set, sum_by, unwrap_or}
use Rattle.std.specs.List.{range_with_len}
use Rattle.std.specs.Option.{option_map}
use Rattle.std.proofs.lemmas.Bool.{eqb-false, eqb-true, ltb-false, ltb-true}
use Rattle.std.proofs.lemmas.List.Sums.{sum_by-cons, sum_by_push}
use Rattle.csp_base.specs.Seat.{seat}
use Rattle.csp_base.specs.declared.seat.Seat.{Seat}
use Rattle.csp_base.specs.declared.priority.Prio.{Prio}
use Rattle.csp_buffer.specs.Content.{Content}
use Rattle.csp_buffer.specs.PlainBuffer.{PlainBuffer}
use Rattle.csp_conn.specs.Opening.{is_refused, own_port_of}
use Rattle.csp_conn.specs.PlainConns.{place_of, seat_of, slot_at, with_slot}
use Rattle.csp_conn.specs.Slots.{is_free}
use Rattle.csp_base.specs.declared.limits.TheConstants.{SLOTS}
use Rattle.csp_conn.specs.declared.slot.Connection.{Connection}
use Rattle.csp_conn.specs.declared.slot.Slot.TheVariants as has
use Rattle.csp_log.specs.declared.note.Note.{Note}
use Rattle.csp_log.specs.declared.note.Note.TheVariants as note
use Rattle.csp_log.specs.declared.note.Why.TheVariants as reason
use Rattle.csp_ports.specs.Asking.{answered, answered_by, asking, bind, close_by, connect, ending_in, freed_by, held_by, is_reliable, joined, linked, plain}
use Rattle.csp_ports.specs.Came.{Came, come}
use Rattle.csp_ports.specs.Kept.{wished, wishes}
use Rattle.csp_ports.specs.Packets.{accepted, admitting_by, handing, invited, submitting_in}
use Rattle.csp_ports.specs.PlainPorts.{PlainPorts, anywhere, fresh, has_machine, machine_at, owing, start_of, terms_at, terms_of, waiting, with_machine_or, with_stalled, with_terms}
use Rattle.csp_ports.specs.Steps.{admitted, changed, closed_by, connected_by, dropped, dropped_in, freed, has_room, reason_of, refused_by, settled, stepped, timed, timed_at, timed_in, went, where_machine}
use Rattle.csp_ports.specs.Tasks.{delivered, told_down}
use Rattle.csp_ports.specs.declared.handing.Invitation.{Invitation}
use Rattle.csp_ports.specs.declared.flows.OwnFlows.{OwnFlows}
use Rattle.csp_ports.specs.declared.owed.Owed.{Owed}
use Rattle.csp_ports.specs.declared.request.Request.{Request}
use Rattle.csp_ports.specs.declared.terms.Terms.{Terms}
use Rattle.csp_ports.specs.declared.terms.Wish.{Wish}
use Rattle.csp_ports.specs.declared.terms.Wish.TheVariants as wish
use Rattle.csp_ports.proofs.Public.{by_dropped, by_settled, terms_listed, terms_of_machine, terms_of_stalled, terms_of_terms, wishes_earlier, wishes_later}
use Rattle.csp_rdp.specs.Changes.{change_between}
use Rattle.csp_rdp.specs.Holding.{rested}
use Rattle.csp_rdp.specs.Jobs as jobs
use Rattle.csp_rdp.specs.Machine.{PlainRdp, accepting, connecting}
use Rattle.csp_rdp.specs.Table.{after_packet}
use Rattle.csp_rdp.specs.declared.answers.Change.{Change}
use Rattle.csp_rdp.specs.declared.answers.Change.TheVariants as change
use Rattle.csp_rdp.specs.declared.answers.State.{State}
use Rattle.csp_rdp.specs.declared.answers.State.TheVariants as state
use Rattle.csp_rdp.specs.declared.answers.Cause.{Cause}
use Rattle.csp_rdp.specs.declared.answers.Cause.TheVariants as machine_why
use Rattle.csp_rdp_header.specs.declared.head.RdpHead.{RdpHead}
use Rattle.csp_socket.specs.Bound.{owner_of}
use Rattle.csp_socket.specs.declared.sockets.TheConstants.{BINDABLE_PORTS}

-- ---- what is due

abbrev pub due : (app : ℕ) → PlainPorts → ℕ
due app p = waiting app p.owed + wishes app (terms_of p)

-- no more is due to any application after than before
abbrev pub NoMore : (before after : PlainPorts) → Type 0
NoMore p q = (a : ℕ) → due a q ≤ due a p

-- but one more at most to this one
abbrev pub OneMore : (app : ℕ) (before after : PlainPorts) → Type 0
OneMore app p q = (a : ℕ) → due a q ≤ due a p + cond (app == a) 1 0

pub stays : (p : PlainPorts) → NoMore p p
stays p a = omega arith

pub both : (p q r : PlainPorts) → NoMore p q → NoMore q r → NoMore p r
both p q r f g a = omega (arith, f a, g a)

none_more : (app : ℕ) (p q : PlainPorts) → NoMore p q → OneMore app p q
none_more app p q f a = omega (arith, f a)

none_then_one : (app : ℕ) (p q r : PlainPorts) → NoMore p q → OneMore app q r → OneMore app p r
none_then_one app p q r f g a = omega (arith, f a, g a)

one_then_none : (app : ℕ) (p q r : PlainPorts) → OneMore app p q → NoMore q r → OneMore app p r
one_then_none app p q r f g a = omega (arith, f a, g a)

-- where the terms and the answers owed are as before
as_due : (p q : PlainPorts) → q.owed ≡ p.owed → terms_of q ≡ terms_of p → NoMore p q
as_due p q owed terms a =
    let one = ap (waiting a) owed in
    let two = ap (wishes a) terms in
    omega (arith, one, two)

-- as after another machine of a slot, or none
pub machines : (p : PlainPorts) (s : Seat) (o : Option PlainRdp) → NoMore p (with_machine_or p s o)
machines p s o = as_due p (with_machine_or p s o) refl (terms_of_machine p s o)

-- ---- another element in a place of a list, and the sum over a stretch of it

-- one that weighs no more
lighter : {X : Type 0} → (f : X → ℕ) (xs : List X) (k s n : ℕ) (v d : X) → f v ≤ f (get_or xs k d)
    → sum_by f (take n (drop s (slice_set xs k v))) ≤ sum_by f (take n (drop s xs))
lighter f [] k s n v d h = omega arith
lighter f (x ∷ xs) zero zero zero v d h = omega arith
lighter f (x ∷ xs) zero zero (suc n) v d h = omega (arith, sum_by-cons f v (take n xs), sum_by-cons f x (take n xs), h)
lighter f (x ∷ xs) zero (suc s) n v d h = omega arith
lighter f (x ∷ xs) (suc k) zero zero v d h = omega arith
lighter f (x ∷ xs) (suc k) zero (suc n) v d h =
    omega (arith, sum_by-cons f x (take n (slice_set xs k v)), sum_by-cons f x (take n xs), lighter f xs k zero n v d h)
lighter f (x ∷ xs) (suc k) (suc s) n v d h = lighter f xs k s n v d h

-- any one, in the stretch
changed_in : {X : Type 0} → (f : X → ℕ) (xs : List X) (k s n : ℕ) (v d : X) → f d ≡ 0 → s ≤ k → k < s + n
    → sum_by f (take n (drop s (slice_set xs k v))) + f (get_or xs k d) ≤ sum_by f (take n (drop s xs)) + f v
changed_in f [] k s n v d e low high = omega (arith, e)
changed_in f (x ∷ xs) zero zero zero v d e low high = absurd (omega (arith, high))
changed_in f (x ∷ xs) zero zero (suc n) v d e low high = omega (arith, sum_by-cons f v (take n xs), sum_by-cons f x (take n xs))
changed_in f (x ∷ xs) zero (suc s) n v d e low high = absurd (omega (arith, low))
changed_in f (x ∷ xs) (suc k) zero zero v d e low high = absurd (omega (arith, high))
changed_in f (x ∷ xs) (suc k) zero (suc n) v d e low high =
    omega (arith, sum_by-cons f x (take n (slice_set xs k v)), sum_by-cons f x (take n xs), changed_in f xs k zero n v d e (omega arith) (omega (arith, high)))
changed_in f (x ∷ xs) (suc k) (suc s) n v d e low high = changed_in f xs k s n v d e (omega (arith, low)) (omega (arith, high))

-- ---- other terms of a slot

abbrev weight : Terms → ℕ
weight t = wished t.wish

few_wished : (w : Wish) → wished w ≤ 1
few_wished wish.Nothing = omega arith
few_wished wish.Connection = omega arith
few_wished wish.End = omega arith
few_wished wish.Ended = omega arith

least : (n : ℕ) → 0 ≤ n
least n = omega arith

alike : (n : ℕ) → n ≤ n
alike n = omega arith

no_heavier : (a : ℕ) (s : Seat) (ts : List Terms) (t : Terms) → weight t ≤ weight (get_or ts (place_of s) fresh)
    → wishes a (slice_set ts (place_of s) t) ≤ wishes a ts
no_heavier a s ts t h = lighter weight ts (place_of s) (place_of (seat a 0)) SLOTS t fresh h

-- what they weighed and weigh counts for the application of the slot alone
moved : (a : ℕ) (s : Seat) (ts : List Terms) (t : Terms) → s.slot < SLOTS
    → wishes a (slice_set ts (place_of s) t) + cond (s.app == a) (weight (get_or ts (place_of s) fresh)) 0
    ≤ wishes a ts + cond (s.app == a) (weight t) 0
moved a s ts t low = by_app (s.app == a) refl
  where
    own : wishes s.app (slice_set ts (place_of s) t) + weight (get_or ts (place_of s) fresh) ≤ wishes s.app ts + weight t
    own = changed_in weight ts (place_of s) (place_of (seat s.app 0)) SLOTS t fresh refl (omega arith) (omega (arith, low))

    by_order : (b : Bool) → nat_lt a s.app ≡ b → (s.app == a) ≡ false → wishes a (slice_set ts (place_of s) t) + 0 ≤ wishes a ts + 0
    by_order true q e = omega (arith, wishes_later s a ts t low (ltb-true a s.app q))
    by_order false q e = omega (arith, wishes_earlier s a ts t low (omega (arith, ltb-false a s.app q, eqb-false s.app a e)))

    by_app : (b : Bool) → (s.app == a) ≡ b
        → wishes a (slice_set ts (place_of s) t) + cond b (weight (get_or ts (place_of s) fresh)) 0 ≤ wishes a ts + cond b (weight t) 0
    by_app true e =
        subst (λ b. wishes b (slice_set ts (place_of s) t) + weight (get_or ts (place_of s) fresh) ≤ wishes b ts + weight t) (eqb-true s.app a e)
        own
    by_app false e = by_order (nat_lt a s.app) refl e

-- so of the terms of a node's slots
lighter_at : (a : ℕ) (p : PlainPorts) (s : Seat) (t : Terms) → weight t ≤ weight (terms_at p s) → wishes a (terms_of (with_terms p s t)) ≤ wishes a (terms_of p)
lighter_at a p s t h =
    subst (λ (ts : List Terms). wishes a ts ≤ wishes a (terms_of p)) (sym (terms_of_terms p s t))
    (no_heavier a s (terms_of p) t (subst (λ (x : Terms). weight t ≤ weight x) (terms_listed p s) h))

moved_at : (a : ℕ) (p : PlainPorts) (s : Seat) (t : Terms) → s.slot < SLOTS
    → wishes a (terms_of (with_terms p s t)) + cond (s.app == a) (weight (terms_at p s)) 0 ≤ wishes a (terms_of p) + cond (s.app == a) (weight t) 0
moved_at a p s t low =
    subst (λ (ts : List Terms). wishes a ts + cond (s.app == a) (weight (terms_at p s)) 0 ≤ wishes a (terms_of p) + cond (s.app == a) (weight t) 0) (sym (terms_of_terms p s t))
    (subst (λ (x : Terms). wishes a (slice_set (terms_of p) (place_of s) t) + cond (s.app == a) (weight x) 0 ≤ wishes a (terms_of p) + cond (s.app == a) (weight t) 0) (sym (terms_listed p s))
    (moved a s (terms_of p) t low))

cond_none : (b : Bool) (n : ℕ) → n ≡ 0 → cond b n 0 ≡ 0
cond_none true n e = e
cond_none false n e = refl

cond_one : (b : Bool) (n : ℕ) → n ≡ 1 → cond b n 0 ≡ cond b 1 0
cond_one true n e = e
cond_one false n e = refl

cond_few : (b : Bool) (n : ℕ) → n ≤ 1 → cond b n 0 ≤ cond b 1 0
cond_few true n h = h
cond_few false n h = omega arith

-- ---- one more answer is owed

waits_more : (a app : ℕ) (os : List Owed) (n : Note) → waiting a (os ++ record { app = app; note = n } ∷ []) ≡ waiting a os + cond (app == a) 1 0
waits_more a app os n = sum_by_push (λ (o : Owed). cond (o.app == a) 1 0) os (record { app = app; note = n })

owes : (p : PlainPorts) (app : ℕ) (n : Note) → OneMore app p (owing p app n)
owes p app n a = omega (arith, waits_more a app p.owed n)

-- other terms at a slot, of which no more is to come; or of which something is; and so with an answer
sets : (p : PlainPorts) (s : Seat) (t : Terms) → weight t ≤ weight (terms_at p s) → NoMore p (with_terms p s t)
sets p s t h a = omega (arith, lighter_at a p s t h)

sets_more : (p : PlainPorts) (s : Seat) (t : Terms) → s.slot < SLOTS → OneMore s.app p (with_terms p s t)
sets_more p s t low a = omega (arith, moved_at a p s t low, cond_few (s.app == a) (weight t) (few_wished t.wish))

owes_and_sets : (p : PlainPorts) (s : Seat) (t : Terms) (n : Note) → weight t ≤ weight (terms_at p s)
    → OneMore s.app p (owing (with_terms p s t) s.app n)
owes_and_sets p s t n h a = omega (arith, waits_more a s.app p.owed n, lighter_at a p s t h)

-- the answer that was to come at the slot is owed
answers_slot : (p : PlainPorts) (s : Seat) (t : Terms) (n : Note) (w : Wish) → s.slot < SLOTS → (terms_at p s).wish ≡ w → wished w ≡ 1 → weight t ≡ 0
    → NoMore p (owing (with_terms p s t) s.app n)
answers_slot p s t n w low is one none a =
    omega (
      arith,
      waits_more a s.app p.owed n,
      moved_at a p s t low,
      cond_none (s.app == a) (weight t) none,
      cond_one (s.app == a) (weight (terms_at p s)) (ap wished is ∙ one),
    )

-- ---- what a change of a connection comes to

-- a slot that is free
frees : (ordinal : ℕ) (s : Seat) (p : PlainPorts) → NoMore p (freed ordinal s p).ports
frees ordinal s p =
    let t : Terms = record (terms_at p s) { wish = wish.Nothing; is_down = false; ordinal = ordinal } in
    let q : PlainPorts = with_terms (record p { conns = with_slot p.conns s has.Free }) s t in
    both p q (freed ordinal s p).ports (sets p s t (least (weight (terms_at p s)))) (machines q s None)

connects_by : (w : Wish) (s : Seat) (p : PlainPorts) → s.slot < SLOTS → (terms_at p s).wish ≡ w → NoMore p (connected_by w s p)
connects_by wish.Connection s p low e =
    answers_slot p s (record (terms_at p s) { wish = wish.Nothing }) (note.Connected s.slot) wish.Connection low e refl refl
connects_by wish.Nothing s p low e = stays p
connects_by wish.End s p low e = stays p
connects_by wish.Ended s p low e = stays p

refuses_by : (w : Wish) (why : Cause) (s : Seat) (p : PlainPorts) → s.slot < SLOTS → (terms_at p s).wish ≡ w
    → NoMore p (refused_by w why s p).ports
refuses_by wish.Connection why s p low e =
    let t : Terms = record (terms_at p s) { wish = wish.Nothing; is_down = false } in
    let n : Note = note.Refused (reason_of why) in
    let q : PlainPorts = with_terms (record p { conns = with_slot p.conns s has.Free }) s t in
    let r : PlainPorts = (refused_by wish.Connection why s p).ports in
    both p (owing q s.app n) r (answers_slot p s t n wish.Connection low e refl refl) (as_due (owing q s.app n) r refl (terms_of_machine q s None))
refuses_by wish.Nothing why s p low e = frees (terms_at p s).ordinal s p
refuses_by wish.End why s p low e = frees (terms_at p s).ordinal s p
refuses_by wish.Ended why s p low e = frees (terms_at p s).ordinal s p

closes_by : (w : Wish) (was_open : Bool) (s : Seat) (p : PlainPorts) → s.slot < SLOTS → (terms_at p s).wish ≡ w
    → NoMore p (closed_by w was_open s p).ports
closes_by wish.End was_open s p low e =
    answers_slot p s (record (terms_at p s) { wish = wish.Ended }) (note.Closed s.slot) wish.End low e refl refl
closes_by wish.Nothing true s p low e = stays p
closes_by wish.Nothing false s p low e = frees (terms_at p s).ordinal s p
closes_by wish.Connection was_open s p low e = stays p
closes_by wish.Ended was_open s p low e = stays p

changes : (c : Change) (s : Seat) (p : PlainPorts) → s.slot < SLOTS → NoMore p (changed c s p).ports
changes change.None s p low = stays p
changes change.Opened s p low = connects_by (terms_at p s).wish s p low refl
changes (change.Refused why) s p low = refuses_by (terms_at p s).wish why s p low refl
changes change.Down s p low = sets p s (record (terms_at p s) { is_down = true }) (alike (weight (terms_at p s)))
changes change.Closed s p low = closes_by (terms_at p s).wish (machine_at p s).was_open s p low refl

-- the machine of a slot makes a step
goes : (before : State) (why : Cause) (s : Seat) (r : PlainRdp) (p : PlainPorts) → s.slot < SLOTS → NoMore p (went before why s r p).ports
goes before why s r p low =
    let q : PlainPorts = (stepped s r p).ports in
    both p q (went before why s r p).ports (machines p s (Some (rested r))) (changes (change_between before r.state why) s q low)

-- where the slot has one
where_goes : (b : Bool) (step : PlainPorts → Came) (p : PlainPorts) → NoMore p (step p).ports → NoMore p (where_machine b step p).ports
where_goes true step p h = h
where_goes false step p h = stays p

-- ---- packets that wait

-- another packet that waits at a slot, or none
waits_else : (p : PlainPorts) (s : Seat) (o : Option PlainBuffer) → NoMore p (with_stalled p s o)
waits_else p s o = as_due p (with_stalled p s o) refl (terms_of_stalled p s o)

settles : (time : ℕ) (s : Seat) (p : PlainPorts) → NoMore p (settled time s p)
settles time s p =
    let q : PlainPorts = with_stalled p s None in
    by_settled (NoMore p) time s p (stays p) (λ b e room. both p q (admitted time s b q) (waits_else p s None) (machines q s (Some (jobs.admitting b time (machine_at q s)))))

drops : (s : Seat) (p : PlainPorts) → NoMore p (dropped s p).ports
drops s p = by_dropped (λ c. NoMore p c.ports) s p (λ opens. stays p) (λ b e shut. waits_else p s None)

-- ---- the timers

times_at : (time : ℕ) (s : Seat) (p : PlainPorts) → s.slot < SLOTS → NoMore p (timed_at time s p).ports
times_at time s p low =
    let r : PlainRdp = machine_at p s in
    where_goes (has_machine p s) (went r.state machine_why.Timeout s (jobs.ticked time r)) p (goes r.state machine_why.Timeout s (jobs.ticked time r) p low)

times_in : (time : ℕ) (ks : List ℕ) (p : PlainPorts) → NoMore p (timed_in time ks p).ports
times_in time [] p = stays p
times_in time (k ∷ ks) p =
    let q : PlainPorts = (timed_at time (seat_of k) p).ports in
    both p q (timed_in time ks q).ports (times_at time (seat_of k) p (omega arith)) (times_in time ks q)

drops_in : (ks : List ℕ) (p : PlainPorts) → NoMore p (dropped_in ks p).ports
drops_in [] p = stays p
drops_in (k ∷ ks) p =
    let q : PlainPorts = (dropped (seat_of k) p).ports in
    both p q (dropped_in ks q).ports (drops (seat_of k) p) (drops_in ks q)

pub times : (time : ℕ) (p : PlainPorts) → NoMore p (timed time p).ports
times time p =
    let q : PlainPorts = (timed_in time (range_with_len 0 (p.conns.apps * SLOTS)) p).ports in
    both p q (dropped_in (range_with_len 0 (q.conns.apps * SLOTS)) q).ports (times_in time (range_with_len 0 (p.conns.apps * SLOTS)) p)
    (drops_in (range_with_len 0 (q.conns.apps * SLOTS)) q)

-- ---- packets

pub accepts : (p : PlainPorts) (s : Seat) (c : Connection) (prio : Prio) (flags : ℕ) → NoMore p (accepted p s c prio flags)
accepts p s c prio flags =
    sets p s (record (terms_at p s) { prio = prio; flags = flags; wish = wish.Nothing; is_down = false }) (least (weight (terms_at p s)))

pub invites : (o : OwnFlows) (p : PlainPorts) (s : Seat) (c : Connection) (prio : Prio) (flags : ℕ) (i : Invitation) (time : ℕ)
    → NoMore p (invited o i s time (accepted p s c prio flags)).ports
invites o p s c prio flags i time =
    let q : PlainPorts = record (accepted p s c prio flags) { made = p.made + 1 } in
    both p q (invited o i s time (accepted p s c prio flags)).ports (accepts p s c prio flags) (machines q s (Some (accepting (start_of o.seed p.made) i.options i.head.seq.0 i.tag o.node p.made time)))

pub hands : (p : PlainPorts) (s : Seat) (h : RdpHead) (b : Content) (time : ℕ) → s.slot < SLOTS → NoMore p (handing p s h b time).ports
hands p s h b time low =
    let r : PlainRdp = machine_at p s in
    let next : PlainRdp = after_packet h b.trace.tag (anywhere b) time r in
    let step : PlainPorts → Came = went r.state machine_why.Reset s next in
    let q : PlainPorts = (where_machine (has_machine p s) step p).ports in
    let d : PlainPorts = (dropped s q).ports in
    both p q (settled time s d) (where_goes (has_machine p s) step p (goes r.state machine_why.Reset s next p low)) (both q d (settled time s d) (drops s q) (settles time s d))

pub delivers : (time : ℕ) (s : Seat) (p : PlainPorts) → s.slot < SLOTS → NoMore p (delivered time s p).ports
delivers time s p low =
    let r : PlainRdp = machine_at p s in
    let q : PlainPorts = (went r.state machine_why.Reset s (jobs.delivering time r) p).ports in
    both p q (dropped s q).ports (goes r.state machine_why.Reset s (jobs.delivering time r) p low) (drops s q)

admits_by : (room : Bool) (p : PlainPorts) (s : Seat) (b : Content) (time : ℕ) → NoMore p (admitting_by room p s b time)
admits_by true p s b time = machines p s (Some (jobs.admitting (anywhere b) time (machine_at p s)))
admits_by false p s b time = waits_else p s (Some (anywhere b))

pub submits_in : (st : State) (p : PlainPorts) (s : Seat) (b : Content) (time : ℕ) → NoMore p (submitting_in st p s b time).ports
submits_in state.Open p s b time = admits_by (has_room (machine_at p s)) p s b time
submits_in state.SynSent p s b time = stays p
submits_in state.SynRcvd p s b time = stays p
submits_in state.CloseWait p s b time = stays p
submits_in state.Closed p s b time = stays p

-- a Down note was pushed
pub tells : (s : Seat) (p : PlainPorts) → NoMore p (told_down s p)
tells s p = sets p s (record (terms_at p s) { is_down = false }) (alike (weight (terms_at p s)))

-- ---- what an application asks

-- what holds of both holds of the one that a test chooses
pub one_of : {X : Type 0} (P : X → Type 0) (b : Bool) (x y : X) → P x → P y → P (if b then x else y)
one_of P true x y one other = one
one_of P false x y one other = other

pub binds : (p : PlainPorts) (app port need : ℕ) → OneMore app p (bind p app port need)
binds p app port need =
    one_of (OneMore app p) (nat_lt port BINDABLE_PORTS) _ _ (one_of (OneMore app p) (is_some (owner_of p.bound port)) _ _ (owes p app (note.Refused reason.InUse)) (owes p app note.Bound))
    (owes p app (note.Refused reason.NotBindable))

joins : (o : OwnFlows) (p : PlainPorts) (r : Request) (own time : ℕ) → r.seat.slot < SLOTS → OneMore r.seat.app p (joined o p r own time).ports
joins o p r own time low =
    let begun : Wish → Terms = λ w. record (terms_at p r.seat) { prio = r.prio; flags = r.flags; wish = w; is_down = false } in
    let q : PlainPorts = record (linked wish.Connection p r own) { made = p.made + 1 } in
    let c : Came = asking o r.seat time (linked wish.Connection p r own) in
    one_of (λ (x : Came). OneMore r.seat.app p x.ports) (is_reliable r.flags) c (plain p r own)
    (one_then_none r.seat.app p q c.ports (sets_more p r.seat (begun wish.Connection) low) (machines q r.seat (Some (connecting (start_of o.seed p.made) o.options o.node p.made time))))
    (owes_and_sets p r.seat (begun wish.Nothing) (note.Connected r.seat.slot) (least (weight (terms_at p r.seat))))

pub connects_to : (o : OwnFlows) (p : PlainPorts) (r : Request) (time : ℕ) → r.seat.slot < SLOTS → OneMore r.seat.app p (connect o p r time).ports
connects_to o p r time low =
    one_of so (is_free (slot_at p.conns r.seat)) _ _
    (one_of so (is_refused p.conns r.dest r.from) _ _ (owes p r.seat.app (note.Refused reason.PortBusy)) (by (own_port_of p.conns r.dest r.from))) (owes p r.seat.app (note.Refused reason.Busy))
  where
    so : Came → Type 0
    so c = OneMore r.seat.app p c.ports

    by : (own : Option ℕ) → so (unwrap_or (option_map (λ own. joined o p r own time) own) (come p))
    by None = none_more r.seat.app p p (stays p)
    by (Some own) = joins o p r own time low

holds_by : (free : Bool) (p : PlainPorts) (s : Seat) → NoMore p (held_by free p s)
holds_by true p s = stays p
holds_by false p s = stays p

ends_in : (st : State) (s : Seat) (p : PlainPorts) → s.slot < SLOTS → OneMore s.app p (ending_in st s p)
ends_in state.Closed s p low =
    owes_and_sets p s (record (terms_at p s) { wish = wish.Ended }) (note.Closed s.slot) (least (weight (terms_at p s)))
ends_in state.SynSent s p low = sets_more p s (record (terms_at p s) { wish = wish.End }) low
ends_in state.SynRcvd s p low = sets_more p s (record (terms_at p s) { wish = wish.End }) low
ends_in state.Open s p low = sets_more p s (record (terms_at p s) { wish = wish.End }) low
ends_in state.CloseWait s p low = sets_more p s (record (terms_at p s) { wish = wish.End }) low

pub ends_by : (closing : Bool) (p : PlainPorts) (seat : Seat) (time : ℕ) → seat.slot < SLOTS → OneMore seat.app p (close_by closing p seat time).ports
ends_by true p seat time low = none_more seat.app p p (stays p)
ends_by false p seat time low =
    let r : PlainRdp = jobs.closing time (machine_at p seat) in
    let q : PlainPorts = held_by (is_free (slot_at p.conns seat)) p seat in
    let s : PlainPorts = (where_machine (has_machine p seat) (stepped seat r) q).ports in
    none_then_one seat.app p s (ending_in r.state seat s)
    (both p q s (holds_by (is_free (slot_at p.conns seat)) p seat) (where_goes (has_machine p seat) (stepped seat r) q (machines q seat (Some (rested r)))))
    (ends_in r.state seat s low)

-- ---- the push of an answer

ended_so : (n : Note) (app : ℕ) (p : PlainPorts) → NoMore p (freed_by n app p).ports
ended_so (note.Closed slot) app p = frees ((terms_at p (seat app slot)).ordinal + 1) (seat app slot) p
ended_so note.Bound app p = stays p
ended_so (note.Connected slot) app p = stays p
ended_so (note.Refused why) app p = stays p
ended_so (note.Down slot) app p = stays p
ended_so (note.Bind port need) app p = stays p
ended_so (note.Connect slot dest port prio flags from) app p = stays p
ended_so (note.Close slot) app p = stays p

pub answers_one : (o : Owed) (os : List Owed) (p : PlainPorts) → p.owed ≡ o ∷ os → (a : ℕ) → due a (answered p).ports + cond (o.app == a) 1 0 ≤ due a p
answers_one o os p e a =
    let rest : due a (answered_by (o ∷ os) p).ports ≤ waiting a os + wishes a (terms_of p) = ended_so o.note o.app (record p { owed = os }) a in
    let first : waiting a p.owed ≡ cond (o.app == a) 1 0 + waiting a os = ap (waiting a) e ∙ sum_by-cons (λ (x : Owed). cond (x.app == a) 1 0) o os in
    let one : due a (answered_by (o ∷ os) p).ports + cond (o.app == a) 1 0 ≤ due a p = omega (arith, rest, first) in
    subst (λ xs. due a (answered_by xs p).ports + cond (o.app == a) 1 0 ≤ due a p) (sym e) one
