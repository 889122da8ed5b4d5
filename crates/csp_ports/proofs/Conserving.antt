-- what comes of each step of ports, and that it neither loses a buffer nor counts further than it may
use Rattle.std.specs.Prelude.{Bool, true, false, None, Option, Some, unwrap_or}
use Rattle.std.specs.List.{range_with_len}
use Rattle.std.specs.Option.{option_to_list}
use Rattle.std.proofs.Common.{◌≡◌, ℕ, zero, suc, ◌+◌, ◌*◌, ◌<◌, ◌≤◌, List, [], ◌∷◌, ◌++◌, refl, arith, ap, sym}
use Rattle.csp_base.specs.declared.seat.Seat.{Seat}
use Rattle.csp_buffer.specs.Content.{Content}
use Rattle.csp_buffer.specs.PlainBuffer.{PlainBuffer}
use Rattle.csp_conn.specs.PlainConns.{place_of, seat_of, with_slot}
use Rattle.csp_base.specs.declared.limits.TheConstants.{SLOTS}
use Rattle.csp_conn.specs.declared.slot.Slot.TheVariants.{Free}
use Rattle.csp_ports.proofs.Counting.{far_at, far_changed, far_closed, far_connected, far_idle, far_stalled, far_terms}
use Rattle.csp_ports.proofs.Flowing.{Flows, far_later, flows_machine, flows_rested, flows_still, flows_then, machine_far, machine_later, machine_whole_or, same_whole, whole_at}
use Rattle.csp_ports.proofs.Settling.{by_dropped, by_settled}
use Rattle.csp_ports.proofs.Slots.{held_terms, machines_of_stalled, machines_of_terms}
use Rattle.csp_ports.proofs.Weighing.{machine_gone, tally, tally_append, tally_none, tally_same, waiting_tallied, weigh, weight}
use Rattle.csp_ports.proofs.Wholes.{admitted_whole, idle_whole, ticked_whole}
use Rattle.csp_ports.specs.Came.{pictures}
use Rattle.csp_ports.specs.Counts.{AreFar}
use Rattle.csp_ports.specs.Keeps.{AreWhole}
use Rattle.csp_ports.specs.PlainPorts.{PlainPorts, has_machine, machine_at, stalled_at, terms_at, with_machine, with_machine_or, with_stalled, with_terms}
use Rattle.csp_ports.specs.Steps.{admitted, changed, closed_by, connected_by, down, dropped, dropped_in, freed, refused_by, settled, timed, timed_at, timed_in, went, where_machine}
use Rattle.csp_ports.specs.declared.terms.Terms.{Terms}
use Rattle.csp_ports.specs.declared.terms.Wish.{Wish}
use Rattle.csp_ports.specs.declared.terms.Wish.TheVariants as wish
use Rattle.csp_rdp.specs.Balance.{IsWhole}
use Rattle.csp_rdp.specs.Changes.{change_between}
use Rattle.csp_rdp.specs.Counts.{IsFar}
use Rattle.csp_rdp.specs.Holding.{rdp_buffers, rdp_numbers, rested, unneeded}
use Rattle.csp_rdp.specs.Jobs.{admitting, ticked}
use Rattle.csp_rdp.specs.Machine.{PlainRdp, idle}
use Rattle.csp_rdp.specs.declared.answers.Change.{Change}
use Rattle.csp_rdp.specs.declared.answers.Change.TheVariants as change
use Rattle.csp_rdp.specs.declared.answers.State.{State}
use Rattle.csp_rdp.specs.declared.answers.Cause.{Cause}
use Rattle.csp_rdp.specs.declared.answers.Cause.TheVariants as machine_why
use Rattle.csp_rdp.proofs.Public.{admitted-balanced, numbers-ticked, far-ticked}

-- ---- steps that count no further

pub no_further : (p q : PlainPorts) → ((n : ℕ) → AreFar n p → AreFar n q) → (n : ℕ) → AreFar n p → AreFar (n + 0) q
no_further p q f n h = far_later n (n + 0) q (omega arith) (f n h)

pub flows_none : (m : ℕ) (p : PlainPorts) → AreWhole p → Flows m p p [] []
flows_none m p h = flows_still m p p refl refl refl (λ n k. far_later n (n + m) p (omega arith) k) h

-- ---- the machine of a slot goes

-- another one that holds nothing takes its place, or none
pub flows_replaced : (p : PlainPorts) (seat : Seat) (m : Option PlainRdp) → IsWhole (unwrap_or m idle) → IsFar 0 (unwrap_or m idle) → rdp_numbers (unwrap_or m idle) ≡ [] → AreWhole p
    → Flows 0 p (with_machine_or p seat m) (pictures (rdp_buffers (machine_at p seat))) []
flows_replaced p seat m whole far empty h = record {
  counts = λ o. omega (arith, machine_gone o p seat m empty, tally_none o);
  far = λ n k. machine_far 0 n p seat m (machine_later 0 (n + 0) (unwrap_or m idle) (omega arith) far) k;
  whole = machine_whole_or p seat m whole h;
}

-- the slot is freed
conns_far : (n : ℕ) (p : PlainPorts) (seat : Seat) → AreFar n p → AreFar n (record p { conns = with_slot p.conns seat Free })
conns_far n p seat h = record { machines = h.machines; made = h.made; ends = h.ends }

flows_freed : (m ordinal : ℕ) (seat : Seat) (p : PlainPorts) → ((n : ℕ) → AreFar n p → ordinal ≤ n + m) → AreWhole p → Flows m p (freed ordinal seat p).ports (freed ordinal seat p).loose []
flows_freed m ordinal seat p one h =
    let free : PlainPorts = record p { conns = with_slot p.conns seat Free } in
    let t : Terms = record (terms_at p seat) { wish = wish.Nothing; is_down = false; ordinal = ordinal } in
    let q : PlainPorts = with_terms free seat t in
    let first : Flows m p q [] [] = flows_still m p q refl (machines_of_terms free seat t) (held_terms free seat t) (λ n k. far_terms (n + m) free seat t (one n k) (conns_far (n + m) p seat (far_later n (n + m) p (omega arith) k))) h in
    flows_then m 0 m p q (with_machine_or q seat None) [] (pictures (rdp_buffers (machine_at q seat))) [] (omega arith) first
    (flows_replaced q seat None idle_whole (far_idle 0) refl first.whole)

flows_freed_same : (seat : Seat) (p : PlainPorts) → AreWhole p → let c = freed (terms_at p seat).ordinal seat p in Flows 0 p c.ports c.loose []
flows_freed_same seat p h = flows_freed 0 (terms_at p seat).ordinal seat p (λ n k. omega (arith, far_at n p seat k)) h

pub flows_freed_next : (seat : Seat) (p : PlainPorts) → AreWhole p → let c = freed ((terms_at p seat).ordinal + 1) seat p in Flows 1 p c.ports c.loose []
flows_freed_next seat p h = flows_freed 1 ((terms_at p seat).ordinal + 1) seat p (λ n k. omega (arith, far_at n p seat k)) h

-- ---- what a change of a connection comes to

flows_connected : (w : Wish) (seat : Seat) (p : PlainPorts) → AreWhole p → Flows 0 p (connected_by w seat p) [] []
flows_connected wish.Connection seat p h = flows_still 0 p (connected_by wish.Connection seat p) refl (machines_of_terms p seat (record (terms_at p seat) { wish = wish.Nothing })) (held_terms p seat (record (terms_at p seat) { wish = wish.Nothing })) (no_further p (connected_by wish.Connection seat p) (λ n k. far_connected n wish.Connection p seat k)) h
flows_connected wish.Nothing seat p h = flows_none 0 p h
flows_connected wish.End seat p h = flows_none 0 p h
flows_connected wish.Ended seat p h = flows_none 0 p h

flows_refused : (w : Wish) (why : Cause) (seat : Seat) (p : PlainPorts) → AreWhole p → Flows 0 p (refused_by w why seat p).ports (refused_by w why seat p).loose []
flows_refused wish.Connection why seat p h =
    let first = flows_freed_same seat p h in
    let c = freed (terms_at p seat).ordinal seat p in
    let q = (refused_by wish.Connection why seat p).ports in
    flows_then 0 0 0 p c.ports q c.loose [] [] (omega arith) first
    (flows_still 0 c.ports q refl refl refl (no_further c.ports q (λ n k. record { machines = k.machines; made = k.made; ends = k.ends })) first.whole)
flows_refused wish.Nothing why seat p h = flows_freed_same seat p h
flows_refused wish.End why seat p h = flows_freed_same seat p h
flows_refused wish.Ended why seat p h = flows_freed_same seat p h

flows_closed : (w : Wish) (was_open : Bool) (seat : Seat) (p : PlainPorts) → AreWhole p → Flows 0 p (closed_by w was_open seat p).ports (closed_by w was_open seat p).loose []
flows_closed wish.End o seat p h = flows_still 0 p (closed_by wish.End o seat p).ports refl (machines_of_terms p seat (record (terms_at p seat) { wish = wish.Ended })) (held_terms p seat (record (terms_at p seat) { wish = wish.Ended })) (no_further p (closed_by wish.End o seat p).ports (λ n k. far_closed n wish.End o p seat k)) h
flows_closed wish.Nothing true seat p h = flows_none 0 p h
flows_closed wish.Nothing false seat p h = flows_freed_same seat p h
flows_closed wish.Connection o seat p h = flows_none 0 p h
flows_closed wish.Ended o seat p h = flows_none 0 p h

pub flows_changed : (ch : Change) (seat : Seat) (p : PlainPorts) → AreWhole p → Flows 0 p (changed ch seat p).ports (changed ch seat p).loose []
flows_changed change.None seat p h = flows_none 0 p h
flows_changed change.Opened seat p h = flows_connected (terms_at p seat).wish seat p h
flows_changed (change.Refused why) seat p h = flows_refused (terms_at p seat).wish why seat p h
flows_changed change.Down seat p h = flows_still 0 p (down seat p) refl (machines_of_terms p seat (record (terms_at p seat) { is_down = true })) (held_terms p seat (record (terms_at p seat) { is_down = true })) (no_further p (down seat p) (λ n k. far_changed n change.Down p seat k)) h
flows_changed change.Closed seat p h = flows_closed (terms_at p seat).wish (machine_at p seat).was_open seat p h

-- a machine made a step, and what it changed; besides, it may hand back what came
pub flows_went : (m : ℕ) (p : PlainPorts) (seat : Seat) (before : State) (why : Cause) (r : PlainRdp) (back : List Content) (came : List ℕ) → place_of seat < 16 → AreWhole p → IsWhole r → ((n : ℕ) → IsFar n (machine_at p seat) → IsFar (n + m) r)
    → ((o : Option ℕ) → weigh o back + tally o (rdp_numbers r) ≡ tally o (rdp_numbers (machine_at p seat)) + tally o came) → Flows m p (went before why seat r p).ports ((back ++ pictures (unneeded r)) ++ (changed (change_between before r.state why) seat (with_machine p seat (rested r))).loose) came
flows_went m p seat before why r back came there h whole far even =
    let q = with_machine p seat (rested r) in
    let ch = change_between before r.state why in
    let first = flows_rested m p seat r back came there h whole far even in
    flows_then m 0 m p q (changed ch seat q).ports (back ++ pictures (unneeded r)) (changed ch seat q).loose came (omega arith) first (flows_changed ch seat q first.whole)

-- ---- packets that wait

-- another, or none, in the place of a slot's
pub flows_stalled : (p : PlainPorts) (seat : Seat) (v : Option PlainBuffer) (loose : List Content) (came : List ℕ) → place_of seat < 16 → AreWhole p
    → ((o : Option ℕ) → weigh o loose + weight o (option_to_list v) ≡ weight o (option_to_list (stalled_at p seat)) + tally o came) → Flows 0 p (with_stalled p seat v) loose came
flows_stalled p seat v loose came there h even = record {
  counts = λ o. omega (arith, waiting_tallied o p seat v (omega (arith, there, h.slots)), even o);
  far = no_further p (with_stalled p seat v) (λ n k. far_stalled n p seat v k);
  whole = same_whole p (with_stalled p seat v) refl (machines_of_stalled p seat v) h;
}

-- one is taken out
taken_even : (o : Option ℕ) (p : PlainPorts) (seat : Seat) (b : PlainBuffer) → stalled_at p seat ≡ Some b → weigh o (b.picture ∷ []) + weight o (option_to_list None) ≡ weight o (option_to_list (stalled_at p seat)) + tally o []
taken_even o p seat b e = ap (λ (w : Option PlainBuffer). weight o (option_to_list w) + tally o []) (sym e)

flows_unstalled : (p : PlainPorts) (seat : Seat) (b : PlainBuffer) → stalled_at p seat ≡ Some b → place_of seat < 16 → AreWhole p → Flows 0 p (with_stalled p seat None) (b.picture ∷ []) []
flows_unstalled p seat b e there h = flows_stalled p seat None (b.picture ∷ []) [] there h (λ o. taken_even o p seat b e)

-- it is discarded where its connection is not open any more
pub flows_dropped : (seat : Seat) (p : PlainPorts) → place_of seat < 16 → AreWhole p → Flows 0 p (dropped seat p).ports (dropped seat p).loose []
flows_dropped seat p there h = by_dropped (λ c. Flows 0 p c.ports c.loose []) seat p (λ opens. flows_none 0 p h) (λ b e shut. flows_unstalled p seat b e there h)

-- a packet is admitted to a window
pub flows_admitted : (p : PlainPorts) (time : ℕ) (seat : Seat) (b : PlainBuffer) → place_of seat < 16 → AreWhole p → Flows 1 p (with_machine p seat (admitting b time (machine_at p seat))) [] (b.picture.number ∷ [])
flows_admitted p time seat b there h =
    let r = machine_at p seat in
    flows_machine 1 p seat (admitting b time r) [] (b.picture.number ∷ []) there h (admitted_whole b time r (whole_at p seat h))
    (λ n far. record { admitted = omega (arith, far.admitted); delivered = omega (arith, far.delivered) })
    (λ o. omega (arith, tally_none o, tally_same o (rdp_numbers (admitting b time r)) (rdp_numbers r ++ b.picture.number ∷ []) (admitted-balanced b time r), tally_append o (rdp_numbers r) (b.picture.number ∷ [])))

-- the packet that waits is, where there is room
flows_unstalled_admitted : (time : ℕ) (seat : Seat) (b : PlainBuffer) (p : PlainPorts) → stalled_at p seat ≡ Some b → place_of seat < 16 → AreWhole p → Flows 1 p (admitted time seat b (with_stalled p seat None)) [] []
flows_unstalled_admitted time seat b p e there h =
    let first = flows_unstalled p seat b e there h in
    let q = with_stalled p seat None in
    let last = flows_admitted q time seat b there first.whole in
    record {
      counts = λ o. omega (arith, first.counts o, last.counts o, tally_none o);
      far = λ n k. last.far n (far_later (n + 0) n q (omega arith) (first.far n k));
      whole = last.whole;
    }

pub flows_settled : (time : ℕ) (seat : Seat) (p : PlainPorts) → place_of seat < 16 → AreWhole p → Flows 1 p (settled time seat p) [] []
flows_settled time seat p there h = by_settled (λ q. Flows 1 p q [] []) time seat p (flows_none 1 p h) (λ b e room. flows_unstalled_admitted time seat b p e there h)

-- ---- the timers

flows_timed_at : (time : ℕ) (seat : Seat) (p : PlainPorts) → place_of seat < 16 → AreWhole p → Flows 0 p (timed_at time seat p).ports (timed_at time seat p).loose []
flows_timed_at time seat p there h = go (has_machine p seat)
  where
    go : (b : Bool) → let c = where_machine b (went (machine_at p seat).state machine_why.Timeout seat (ticked time (machine_at p seat))) p in Flows 0 p c.ports c.loose []
    go true =
        let r = machine_at p seat in
        flows_went 0 p seat r.state machine_why.Timeout (ticked time r) [] [] there h (ticked_whole time r (whole_at p seat h))
        (λ n far. machine_later n (n + 0) (ticked time r) (omega arith) (far-ticked n time r far))
        (λ o. omega (arith, tally_none o, ap (tally o) (numbers-ticked time r)))
    go false = flows_none 0 p h

place_again : (k : ℕ) → k < 16 → place_of (seat_of k) < 16
place_again k h = omega (arith, h)

flows_timed_in : (time a n : ℕ) (p : PlainPorts) → a + n ≤ 16 → AreWhole p → Flows 0 p (timed_in time (range_with_len a n) p).ports (timed_in time (range_with_len a n) p).loose []
flows_timed_in time a zero p few h = flows_none 0 p h
flows_timed_in time a (suc n) p few h =
    let one = timed_at time (seat_of a) p in
    let rest = timed_in time (range_with_len (a + 1) n) one.ports in
    let first = flows_timed_at time (seat_of a) p (place_again a (omega (arith, few))) h in
    flows_then 0 0 0 p one.ports rest.ports one.loose rest.loose [] (omega arith) first (flows_timed_in time (a + 1) n one.ports (omega (arith, few)) first.whole)

flows_dropped_in : (a n : ℕ) (p : PlainPorts) → a + n ≤ 16 → AreWhole p → Flows 0 p (dropped_in (range_with_len a n) p).ports (dropped_in (range_with_len a n) p).loose []
flows_dropped_in a zero p few h = flows_none 0 p h
flows_dropped_in a (suc n) p few h =
    let one = dropped (seat_of a) p in
    let rest = dropped_in (range_with_len (a + 1) n) one.ports in
    let first = flows_dropped (seat_of a) p (place_again a (omega (arith, few))) h in
    flows_then 0 0 0 p one.ports rest.ports one.loose rest.loose [] (omega arith) first (flows_dropped_in (a + 1) n one.ports (omega (arith, few)) first.whole)

pub flows_timed : (time : ℕ) (p : PlainPorts) → AreWhole p → Flows 0 p (timed time p).ports (timed time p).loose []
flows_timed time p h =
    let one = timed_in time (range_with_len 0 (p.conns.apps * SLOTS)) p in
    let rest = dropped_in (range_with_len 0 (one.ports.conns.apps * SLOTS)) one.ports in
    let first = flows_timed_in time 0 (p.conns.apps * SLOTS) p (omega (arith, h.few)) h in
    flows_then 0 0 0 p one.ports rest.ports one.loose rest.loose [] (omega arith) first (flows_dropped_in 0 (one.ports.conns.apps * SLOTS) one.ports (omega (arith, first.whole.few)) first.whole)
