-- what comes of packets, tasks, and what applications ask: that it neither loses a buffer nor counts further than it may
use Rattle.std.specs.Prelude.{Bool, true, false, cond, MatchOption, None, Option, Some, unwrap_or}
use Rattle.std.specs.List.{All}
use Rattle.std.specs.Option.{IsSome, option_map, option_to_list}
use Rattle.std.proofs.Common.{◌≡◌, ℕ, ◌+◌, ◌<◌, ◌≤◌, List, [], ◌∷◌, ◌++◌, length, map, refl, arith, ap, subst, sym, ◌∙◌}
use Rattle.std.proofs.lemmas.List.{append_assoc}
use Rattle.std.proofs.lemmas.List.Elements.{All-cons, All-head, All-tail}
use Rattle.csp_base.specs.Seat.{seat}
use Rattle.csp_base.specs.declared.seat.Seat.{Seat}
use Rattle.csp_base.specs.declared.priority.Prio.{Prio}
use Rattle.csp_buffer.specs.Content.{Content}
use Rattle.csp_buffer.specs.PlainBuffer.{PlainBuffer}
use Rattle.csp_conn.specs.Opening.{gone_on, is_refused, own_port_of}
use Rattle.csp_conn.specs.PlainConns.{PlainConns, place_of, slot_at, with_slot}
use Rattle.csp_conn.specs.Slots.{between, is_free}
use Rattle.csp_conn.specs.declared.slot.Connection.{Connection}
use Rattle.csp_conn.specs.declared.slot.Slot.TheVariants.{Open as Opened}
use Rattle.csp_log.specs.declared.note.Note.{Note}
use Rattle.csp_log.specs.declared.note.Note.TheVariants as note
use Rattle.csp_log.specs.declared.note.Why.{Why}
use Rattle.csp_log.specs.declared.note.Why.TheVariants as why
use Rattle.csp_ports.proofs.Conserving.{flows_admitted, flows_dropped, flows_freed_next, flows_none, flows_replaced, flows_settled, flows_stalled, flows_went, no_further}
use Rattle.csp_ports.proofs.Counting.{far_at, far_terms}
use Rattle.csp_ports.proofs.Flowing.{Flows, far_later, flows_machine, flows_rested, flows_still, flows_then, keeps_from, machine_later, whole_at}
use Rattle.csp_ports.proofs.Holding.{terms-without}
use Rattle.csp_ports.proofs.Slots.{held_terms, machine_none, machine_now, machines_of_terms, taken_machine}
use Rattle.csp_ports.proofs.Weighing.{tally, tally_append, tally_none, tally_same, weigh, weigh_append, weight}
use Rattle.csp_ports.proofs.Wholes.{closed_whole, sent_whole}
use Rattle.csp_ports.specs.Asking.{answered, answered_by, asking, close_by, connect, ending_in, freed_by, held_by, is_reliable, joined, linked, plain, unjoined}
use Rattle.csp_ports.specs.Came.{Came, come, pictures, reporting, then}
use Rattle.csp_ports.specs.Counts.{AreFar}
use Rattle.csp_ports.specs.Held.{emptied, first_out, handed_out, held, slot_buffers, without_held}
use Rattle.csp_ports.specs.Keeps.{AreWhole, Keeps, at_hand}
use Rattle.csp_ports.specs.Packets.{accepted, admitting_by, back_by, handing, handing_event, invited, submitting_in}
use Rattle.csp_ports.specs.PlainPorts.{PlainPorts, PortsAt, anywhere, has_machine, machine_at, machine_in, machines_of, stalled_at, start_of, terms_at, terms_of, with_machine, with_ports_at, with_stalled, with_terms, wishing}
use Rattle.csp_ports.specs.declared.terms.SlotState.{SlotState}
use Rattle.csp_ports.specs.Steps.{changed, dropped, ended, has_room, settled, stepped, went, where_machine}
use Rattle.csp_ports.specs.Tasks.{delivered, kept_again, making, told_down, without_packet}
use Rattle.csp_ports.specs.declared.handing.Invitation.{Invitation}
use Rattle.csp_ports.specs.declared.flows.OwnFlows.{OwnFlows}
use Rattle.csp_ports.specs.declared.owed.Owed.{Owed}
use Rattle.csp_ports.specs.declared.request.Request.{Request}
use Rattle.csp_ports.specs.declared.terms.Terms.{Terms}
use Rattle.csp_ports.specs.declared.terms.Wish.{Wish}
use Rattle.csp_ports.specs.declared.terms.Wish.TheVariants as wish
use Rattle.csp_rdp.specs.Balance.{IsWhole}
use Rattle.csp_rdp.specs.Changes.{change_between}
use Rattle.csp_rdp.specs.Counts.{IsFar}
use Rattle.csp_rdp.specs.Holding.{rdp_buffers, rdp_numbers, rested, unneeded}
use Rattle.csp_rdp.specs.Jobs.{closing, one_more_delivered, delivering, delivery, keeping_again, sent, taken_in, without_delivery}
use Rattle.csp_rdp.specs.Machine.{PlainRdp, accepting, connecting}
use Rattle.csp_rdp.specs.Table.{back_of, after_packet, is_stray, row_of}
use Rattle.csp_rdp.specs.declared.answers.State.{State}
use Rattle.csp_rdp.specs.declared.answers.State.TheVariants.{Closed, SynSent, SynRcvd, Open, CloseWait}
use Rattle.csp_rdp.specs.declared.answers.Cause.TheVariants as machine_why
use Rattle.csp_rdp.specs.declared.jobs.Job.{Job}
use Rattle.csp_rdp_header.specs.declared.head.RdpHead.{RdpHead}
use Rattle.csp_rdp_window.specs.Numbers.{number_in}
use Rattle.csp_rdp_window.specs.Receiving.{confirmed, is_kept}
use Rattle.csp_rdp.proofs.Public.{again-balanced, delivery-balanced, handed-balanced, numbers-closed, numbers-delivered, numbers-sent, missing-taken, whole-again, whole-delivered, whole-handed, whole-taken, far-after, far-closed, far-delivered, far-sent, far-taken, far-taken-out}

-- ---- tasks

pub nothing_there : (o : Option PlainBuffer) → o ≡ None → IsSome o → ⊥
nothing_there None e some = cc
nothing_there (Some b) e some = cc

-- a packet is taken out to be delivered
pub keeps_taken : (p : PlainPorts) (seat : Seat) (b : Content) → place_of seat < 16 → AreWhole p → delivery (machine_at p seat) ≡ Some (anywhere b) → Keeps 0 (at_hand p []) (at_hand (without_packet seat p) (b ∷ [])) []
keeps_taken p seat b there h e =
    let r = machine_at p seat in
    let whole = whole_at p seat h in
    keeps_from 0 p (without_packet seat p) [] (b ∷ []) []
    (flows_machine 0 p seat (without_delivery r) (b ∷ []) [] there h (whole-taken r.state r refl whole) (λ n far. machine_later n (n + 0) (without_delivery r) (omega arith) (far-taken n r.state r far))
    (λ o.
    let even = tally_same o (rdp_numbers (without_delivery r) ++ number_in (delivery r)) (rdp_numbers r) (delivery-balanced r.state r whole) in
    let out = ap (λ (d : Option PlainBuffer). tally o (number_in d)) e in
    omega (arith, tally_none o, even, out, tally_append o (rdp_numbers (without_delivery r)) (number_in (delivery r)))))

taken_same : (s : State) (r : PlainRdp) → ((taken_in s r).state ≡ r.state) × ((taken_in s r).recv.cur ≡ r.recv.cur)
taken_same Open r = (refl, refl)
taken_same SynSent r = (refl, refl)
taken_same SynRcvd r = (refl, refl)
taken_same CloseWait r = (refl, refl)
taken_same Closed r = (refl, refl)

-- the connection is open then, and does not keep it any more
pub now_taken : (p : PlainPorts) (seat : Seat) → place_of seat < 16 → AreWhole p → (machine_at p seat).state ≡ Open
    → ((machine_at (without_packet seat p) seat).state ≡ Open) × (is_kept (machine_at (without_packet seat p) seat).recv ((machine_at (without_packet seat p) seat).recv.cur + 1) ≡ false)
now_taken p seat there h opened =
    let r = machine_at p seat in
    let new : machine_at (without_packet seat p) seat ≡ without_delivery r = machine_now p seat (Some (without_delivery r)) (omega (arith, there, h.slots)) in
    let same = taken_same r.state r in
    subst (λ (q : PlainRdp). (q.state ≡ Open) × (is_kept q.recv (q.recv.cur + 1) ≡ false)) (sym new)
    (same.0 ∙ opened, ap (λ (n : ℕ). is_kept (without_delivery r).recv (n + 1)) same.1 ∙ missing-taken r.state r opened)

-- it is kept again
pub keeps_again : (p : PlainPorts) (seat : Seat) (b : Content) → place_of seat < 16 → AreWhole p → (machine_at p seat).state ≡ Open → is_kept (machine_at p seat).recv ((machine_at p seat).recv.cur + 1) ≡ false → Keeps 0 (at_hand p []) (at_hand (kept_again seat b p) []) (b.number ∷ [])
keeps_again p seat b there h opened none =
    let r = machine_at p seat in
    keeps_from 0 p (kept_again seat b p) [] [] (b.number ∷ [])
    (flows_machine 0 p seat (keeping_again (anywhere b) r) [] (b.number ∷ []) there h (whole-again (anywhere b) r opened none (whole_at p seat h)) (λ n far. record { admitted = omega (arith, far.admitted); delivered = omega (arith, far.delivered) })
    (λ o. omega (arith, tally_none o, tally_same o (rdp_numbers (keeping_again (anywhere b) r)) (rdp_numbers r ++ b.number ∷ []) (again-balanced (anywhere b) r), tally_append o (rdp_numbers r) (b.number ∷ []))))

-- a packet is made
pub keeps_made : (j : Job) (p : PlainPorts) (time : ℕ) (seat : Seat) → place_of seat < 16 → AreWhole p → Keeps 0 (at_hand p []) (at_hand (making j time seat p) []) []
keeps_made j p time seat there h =
    let r = machine_at p seat in
    keeps_from 0 p (making j time seat p) [] [] []
    (flows_machine 0 p seat (sent j time r) [] [] there h (sent_whole j time r (whole_at p seat h)) (λ n far. machine_later n (n + 0) (sent j time r) (omega arith) (far-sent n j time r far))
    (λ o. omega (arith, tally_none o, ap (tally o) (numbers-sent j time r))))

-- where no buffer moves
keeps_same : (m : ℕ) (p q : PlainPorts) → held q ≡ held p → ((n : ℕ) → AreFar n p → AreFar (n + m) q) → Keeps m (at_hand p []) (at_hand q []) []
keeps_same m p q e far = record { numbers = λ k. omega (arith, ap (λ (cs : List Content). weigh (Some k) cs) e); size = omega (arith, ap length e); far = far }

-- a note is pushed, and a plain connection accepted
pub keeps_told : (p : PlainPorts) (seat : Seat) → Keeps 0 (at_hand p []) (at_hand (told_down seat p) []) []
keeps_told p seat =
    let t : Terms = record (terms_at p seat) { is_down = false } in
    keeps_same 0 p (told_down seat p) (held_terms p seat t) (no_further p (told_down seat p) (λ n k. far_terms n p seat t (far_at n p seat k) k))

pub keeps_accepted : (p : PlainPorts) (seat : Seat) (c : Connection) (prio : Prio) (flags : ℕ) → Keeps 0 (at_hand p []) (at_hand (accepted p seat c prio flags) []) []
keeps_accepted p seat c prio flags =
    let taken : PlainPorts = record p { conns = with_slot p.conns seat (Opened c) } in
    let t : Terms = record (terms_at p seat) { prio = prio; flags = flags; wish = wish.Nothing; is_down = false } in
    let q = accepted p seat c prio flags in
    keeps_same 0 p q (held_terms taken seat t) (no_further p q (λ n k. far_terms n taken seat t (far_at n p seat k) (record { machines = k.machines; made = k.made; ends = k.ends })))

-- a packet is delivered
pub flows_delivered : (p : PlainPorts) (time : ℕ) (seat : Seat) → place_of seat < 16 → AreWhole p → (machine_at p seat).state ≡ Open → is_kept (machine_at p seat).recv ((machine_at p seat).recv.cur + 1) ≡ false
    → Flows 1 p (delivered time seat p).ports (delivered time seat p).loose []
flows_delivered p time seat there h opened none =
    let r = machine_at p seat in
    let one = went r.state machine_why.Reset seat (delivering time r) p in
    let first =
    flows_went 1 p seat r.state machine_why.Reset (delivering time r) [] [] there h (whole-delivered time r opened none (whole_at p seat h)) (λ n far. far-delivered n time r far)
    (λ o. omega (arith, tally_none o, ap (tally o) (numbers-delivered r.reset_at time (record r { recv = confirmed r.recv; owed = one_more_delivered time r.owed }))))
    in
    flows_then 1 0 1 p one.ports (dropped seat one.ports).ports one.loose (dropped seat one.ports).loose [] (omega arith) first (flows_dropped seat one.ports there first.whole)

-- ---- packets

back_tally : (o : Option ℕ) (back : Option PlainBuffer) → weigh o (pictures (option_to_list back)) ≡ tally o (number_in back)
back_tally o None = refl
back_tally o (Some b) = refl

-- a packet is lost
flows_lost : (m : ℕ) (p : PlainPorts) (b : Content) → AreWhole p → Flows m p p (b ∷ []) (b.number ∷ [])
flows_lost m p b h = record { counts = λ o. omega arith; far = λ n k. far_later n (n + m) p (omega arith) k; whole = h }

-- what comes of one that is handed to a slot, by whether that has a machine
abbrev handing_by : (has : Bool) → PlainPorts → (seat : Seat) → RdpHead → Content → (time : ℕ) → Came
handing_by has p seat head b time =
    let r = machine_at p seat in
    reporting (handing_event r b.trace.tag)
    (then (back_by (back_of (row_of r head b.payload) (anywhere b)) (is_stray (row_of r head b.payload)) p) (λ p.
    then (where_machine has (went r.state machine_why.Reset seat (after_packet head b.trace.tag (anywhere b) time r)) p) (λ p.
    then (dropped seat p) (λ p.
    come (settled time seat p)))))

handed_by : (has : Bool) (p : PlainPorts) (seat : Seat) (head : RdpHead) (b : Content) (time : ℕ) → has_machine p seat ≡ has → place_of seat < 16 → AreWhole p → Flows 1 p (handing_by has p seat head b time).ports (handing_by has p seat head b time).loose (b.number ∷ [])
-- a slot without a machine has no use for it
handed_by false p seat head b time none there h =
    let r = machine_at p seat in
    let back = pictures (option_to_list (back_of (row_of r head b.payload) (anywhere b))) in
    let is : back ≡ b ∷ [] = ap (λ (q : PlainRdp). pictures (option_to_list (back_of (row_of q head b.payload) (anywhere b)))) (machine_none p seat none) in
    let two = dropped seat p in
    let last = settled time seat two.ports in
    let second = flows_then 0 0 0 p p two.ports (b ∷ []) two.loose (b.number ∷ []) (omega arith) (flows_lost 0 p b h) (flows_dropped seat p there h) in
    let third = flows_then 0 1 1 p two.ports last ((b ∷ []) ++ two.loose) [] (b.number ∷ []) (omega arith) second (flows_settled time seat two.ports there second.whole) in
    subst (λ (cs : List Content). Flows 1 p last (cs ++ (two.loose ++ [])) (b.number ∷ [])) (sym is)
    (subst (λ (cs : List Content). Flows 1 p last cs (b.number ∷ [])) (append_assoc (b ∷ []) two.loose []) third)
handed_by true p seat head b time some there h =
    let r = machine_at p seat in
    let row = row_of r head b.payload in
    let new = after_packet head b.trace.tag (anywhere b) time r in
    let back = pictures (option_to_list (back_of row (anywhere b))) in
    let whole = whole_at p seat h in
    let one = went r.state machine_why.Reset seat new p in
    let q = with_machine p seat (rested new) in
    let also = (changed (change_between r.state new.state machine_why.Reset) seat q).loose in
    let two = dropped seat one.ports in
    let last = settled time seat two.ports in
    let first =
    flows_went 0 p seat r.state machine_why.Reset new back (b.number ∷ []) there h (whole-handed row head b.trace.tag (anywhere b) time r refl whole) (λ n far. machine_later n (n + 0) new (omega arith) (far-after n row head b.trace.tag (anywhere b) time r far))
    (λ o. omega (
      arith,
      tally_same o (rdp_numbers new ++ number_in (back_of row (anywhere b))) (rdp_numbers r ++ b.number ∷ []) (handed-balanced row head b.trace.tag (anywhere b) time r refl whole),
      tally_append o (rdp_numbers new) (number_in (back_of row (anywhere b))),
      tally_append o (rdp_numbers r) (b.number ∷ []),
      back_tally o (back_of row (anywhere b)),
    ))
    in
    let second = flows_then 0 0 0 p one.ports two.ports ((back ++ pictures (unneeded new)) ++ also) two.loose (b.number ∷ []) (omega arith) first (flows_dropped seat one.ports there first.whole) in
    let third = flows_then 0 1 1 p two.ports last (((back ++ pictures (unneeded new)) ++ also) ++ two.loose) [] (b.number ∷ []) (omega arith) second (flows_settled time seat two.ports there second.whole) in
    let same : (((back ++ pictures (unneeded new)) ++ also) ++ two.loose) ++ [] ≡ back ++ ((pictures (unneeded new) ++ also) ++ (two.loose ++ [])) =
    append_assoc ((back ++ pictures (unneeded new)) ++ also) two.loose []
    ∙ (ap (λ (cs : List Content). cs ++ (two.loose ++ [])) (append_assoc back (pictures (unneeded new)) also)
    ∙ append_assoc back (pictures (unneeded new) ++ also) (two.loose ++ []))
    in
    subst (λ (cs : List Content). Flows 1 p last cs (b.number ∷ [])) same third

-- one is handed to a machine
pub flows_handed : (p : PlainPorts) (seat : Seat) (head : RdpHead) (b : Content) (time : ℕ) → place_of seat < 16 → AreWhole p → Flows 1 p (handing p seat head b time).ports (handing p seat head b time).loose (b.number ∷ [])
flows_handed p seat head b time there h = handed_by (has_machine p seat) p seat head b time refl there h

-- one that an application sends
flows_admitting : (room : Bool) (p : PlainPorts) (time : ℕ) (seat : Seat) (b : Content) → place_of seat < 16 → AreWhole p → stalled_at p seat ≡ None → Flows 1 p (admitting_by room p seat b time) [] (b.number ∷ [])
flows_admitting true p time seat b there h none = flows_admitted p time seat (anywhere b) there h
flows_admitting false p time seat b there h none =
    let v : Option PlainBuffer = Some (anywhere b) in
    let one = flows_stalled p seat v [] (b.number ∷ []) there h (λ o. omega (arith, tally_none o, ap (λ (w : Option PlainBuffer). weight o (option_to_list w)) none)) in
    record { counts = one.counts; far = λ n k. far_later (n + 0) (n + 1) (with_stalled p seat v) (omega arith) (one.far n k); whole = one.whole }

pub flows_submitted : (st : State) (p : PlainPorts) (seat : Seat) (b : Content) (time : ℕ) → place_of seat < 16 → AreWhole p → stalled_at p seat ≡ None → Flows 1 p (submitting_in st p seat b time).ports (submitting_in st p seat b time).loose (b.number ∷ [])
flows_submitted Open p seat b time there h none = flows_admitting (has_room (machine_at p seat)) p time seat b there h none
flows_submitted SynSent p seat b time there h none = flows_lost 1 p b h
flows_submitted SynRcvd p seat b time there h none = flows_lost 1 p b h
flows_submitted CloseWait p seat b time there h none = flows_lost 1 p b h
flows_submitted Closed p seat b time there h none = flows_lost 1 p b h

-- ---- connections that begin

connecting_whole : (start node nth time : ℕ) (o : OwnFlows) → IsWhole (connecting start o.options node nth time)
connecting_whole start node nth time o = record { unopened = (refl, refl); ordered = tt }

-- they count one further
linked_far : (n m : ℕ) (p q : PlainPorts) (seat : Seat) (t : Terms) → machines_of q ≡ machines_of p → terms_of q ≡ terms_of (with_terms p seat t) → t.ordinal ≡ (terms_at p seat).ordinal → q.made ≤ p.made + m → AreFar n p → AreFar (n + m) q
linked_far n m p q seat t machines terms ordinal made h =
    let k = far_terms (n + m) p seat t (omega (arith, ordinal, far_at n p seat h)) (far_later n (n + m) p (omega arith) h) in
    record {
      machines = subst (All (IsFar (n + m))) (sym (machines ∙ sym (machines_of_terms p seat t))) k.machines;
      made = omega (arith, made, h.made);
      ends = subst (All (λ t. t.ordinal ≤ n + m)) (sym terms) k.ends;
    }

-- the applications stay
opened_apps : (own : ℕ) (from : Option ℕ) (c : PlainConns) → (gone_on c own from).apps ≡ c.apps
opened_apps own None c = refl
opened_apps own (Some port) c = refl

-- one that an application asks for
flows_joined : (o : OwnFlows) (p : PlainPorts) (r : Request) (own time : ℕ) (reliable : Bool) → AreWhole p
    → let c = cond reliable (asking o r.seat time (linked wish.Connection p r own)) (plain p r own) in Flows 1 p c.ports c.loose []
flows_joined o p r own time false h =
    let q = (plain p r own).ports in
    let t : Terms = record (terms_at p r.seat) { prio = r.prio; flags = r.flags; wish = wish.Nothing; is_down = false } in
    flows_still 1 p q (opened_apps own r.from (with_slot p.conns r.seat (Opened (between r.dest r.port own)))) (machines_of_terms p r.seat t) (held_terms p r.seat t) (λ n k. linked_far n 1 p q r.seat t (machines_of_terms p r.seat t) refl refl (omega arith) k) h
flows_joined o p r own time true h =
    let q : PlainPorts = record (linked wish.Connection p r own) { made = p.made + 1 } in
    let machine = connecting (start_of o.seed p.made) o.options o.node p.made time in
    let t : Terms = record (terms_at p r.seat) { prio = r.prio; flags = r.flags; wish = wish.Connection; is_down = false } in
    let first = flows_still 1 p q (opened_apps own r.from (with_slot p.conns r.seat (Opened (between r.dest r.port own)))) (machines_of_terms p r.seat t) (held_terms p r.seat t) (λ n k. linked_far n 1 p q r.seat t (machines_of_terms p r.seat t) refl refl (omega arith) k) h in
    flows_then 1 0 1 p q (with_machine q r.seat machine) [] (pictures (rdp_buffers (machine_at q r.seat))) [] (omega arith) first
    (flows_replaced q r.seat (Some machine) (connecting_whole (start_of o.seed p.made) o.node p.made time o) (record { admitted = omega arith; delivered = omega arith }) refl first.whole)

flows_unasked : (p : PlainPorts) (r : Request) (reason : Why) → AreWhole p → Flows 1 p (unjoined p r reason).ports [] []
flows_unasked p r reason h = flows_still 1 p (unjoined p r reason).ports refl refl refl (λ n k. let l = far_later n (n + 1) p (omega arith) k in record { machines = l.machines; made = l.made; ends = l.ends }) h

-- by whether the slot is free, and the port that is asked for taken, and which own port it has
flows_connect_by : (o : OwnFlows) (p : PlainPorts) (r : Request) (time : ℕ) (free refused : Bool) (own : Option ℕ) → AreWhole p
    → let c = cond free (cond refused (unjoined p r why.PortBusy) (unwrap_or (option_map (λ own. joined o p r own time) own) (come p))) (unjoined p r why.Busy) in Flows 1 p c.ports c.loose []
flows_connect_by o p r time true true own h = flows_unasked p r why.PortBusy h
flows_connect_by o p r time true false (Some own) h = flows_joined o p r own time (is_reliable r.flags) h
flows_connect_by o p r time true false None h = flows_none 1 p h
flows_connect_by o p r time false refused own h = flows_unasked p r why.Busy h

pub flows_connected : (o : OwnFlows) (p : PlainPorts) (r : Request) (time : ℕ) → AreWhole p → Flows 1 p (connect o p r time).ports (connect o p r time).loose []
flows_connected o p r time h = flows_connect_by o p r time (is_free (slot_at p.conns r.seat)) (is_refused p.conns r.dest r.from) (own_port_of p.conns r.dest r.from) h

-- one that a packet asks for
pub flows_invited : (o : OwnFlows) (p : PlainPorts) (seat : Seat) (c : Connection) (prio : Prio) (flags : ℕ) (i : Invitation) (time : ℕ) → AreWhole p
    → Flows 1 p (invited o i seat time (accepted p seat c prio flags)).ports (invited o i seat time (accepted p seat c prio flags)).loose []
flows_invited o p seat c prio flags i time h =
    let q : PlainPorts = record (accepted p seat c prio flags) { made = p.made + 1 } in
    let machine = accepting (start_of o.seed p.made) i.options i.head.seq.0 i.tag o.node p.made time in
    let t : Terms = record (terms_at p seat) { prio = prio; flags = flags; wish = wish.Nothing; is_down = false } in
    let first = flows_still 1 p q refl (machines_of_terms p seat t) (held_terms p seat t) (λ n k. linked_far n 1 p q seat t (machines_of_terms p seat t) refl refl (omega arith) k) h in
    flows_then 1 0 1 p q (with_machine q seat machine) [] (pictures (rdp_buffers (machine_at q seat))) [] (omega arith) first
    (flows_replaced q seat (Some machine) (record { unopened = (refl, refl); ordered = tt }) (record { admitted = omega arith; delivered = omega arith }) refl first.whole)

-- ---- connections that end

far_wish : (n : ℕ) (p : PlainPorts) (seat : Seat) (w : Wish) → AreFar n p → AreFar n (wishing p seat w)
far_wish n p seat w h = far_terms n p seat (record (terms_at p seat) { wish = w }) (far_at n p seat h) h

flows_ending : (st : State) (seat : Seat) (p : PlainPorts) → AreWhole p → Flows 0 p (ending_in st seat p) [] []
flows_ending Closed seat p h =
    flows_still 0 p (ended seat p) refl (machines_of_terms p seat (record (terms_at p seat) { wish = wish.Ended })) (held_terms p seat (record (terms_at p seat) { wish = wish.Ended })) (no_further p (ended seat p) (λ n k. let w = far_wish n p seat wish.Ended k in record { machines = w.machines; made = w.made; ends = w.ends })) h
flows_ending SynSent seat p h = flows_still 0 p (wishing p seat wish.End) refl (machines_of_terms p seat (record (terms_at p seat) { wish = wish.End })) (held_terms p seat (record (terms_at p seat) { wish = wish.End })) (no_further p (wishing p seat wish.End) (λ n k. far_wish n p seat wish.End k)) h
flows_ending SynRcvd seat p h = flows_still 0 p (wishing p seat wish.End) refl (machines_of_terms p seat (record (terms_at p seat) { wish = wish.End })) (held_terms p seat (record (terms_at p seat) { wish = wish.End })) (no_further p (wishing p seat wish.End) (λ n k. far_wish n p seat wish.End k)) h
flows_ending Open seat p h = flows_still 0 p (wishing p seat wish.End) refl (machines_of_terms p seat (record (terms_at p seat) { wish = wish.End })) (held_terms p seat (record (terms_at p seat) { wish = wish.End })) (no_further p (wishing p seat wish.End) (λ n k. far_wish n p seat wish.End k)) h
flows_ending CloseWait seat p h = flows_still 0 p (wishing p seat wish.End) refl (machines_of_terms p seat (record (terms_at p seat) { wish = wish.End })) (held_terms p seat (record (terms_at p seat) { wish = wish.End })) (no_further p (wishing p seat wish.End) (λ n k. far_wish n p seat wish.End k)) h

-- by its application
flows_held : (free : Bool) (p : PlainPorts) (seat : Seat) → AreWhole p → Flows 0 p (held_by free p seat) [] [] × (machine_at (held_by free p seat) seat ≡ machine_at p seat)
flows_held true p seat h = (flows_still 0 p (held_by true p seat) refl refl refl (no_further p (held_by true p seat) (λ n k. record { machines = k.machines; made = k.made; ends = k.ends })) h, refl)
flows_held false p seat h = (flows_none 0 p h, refl)

-- its machine closes, where it has one
ended_first : (has free : Bool) (p : PlainPorts) (seat : Seat) (time : ℕ) → place_of seat < 16 → AreWhole p → let one = where_machine has (stepped seat (closing time (machine_at p seat))) (held_by free p seat) in Flows 0 p one.ports one.loose []
ended_first false free p seat time there h = (flows_held free p seat h).0
ended_first true free p seat time there h =
    let r = machine_at p seat in
    let new = closing time r in
    let q = held_by free p seat in
    let zero = flows_held free p seat h in
    let first =
    flows_rested 0 q seat new [] [] there zero.0.whole (closed_whole r.state time r (whole_at p seat h))
    (λ n far. machine_later n (n + 0) new (omega arith) (far-closed n r.state time r (subst (IsFar n) zero.1 far)))
    (λ o. omega (arith, tally_none o, ap (tally o) (numbers-closed r.state time r), ap (λ (x : PlainRdp). tally o (rdp_numbers x)) zero.1))
    in
    flows_then 0 0 0 p q (with_machine q seat (rested new)) [] (pictures (unneeded new)) [] (omega arith) zero.0 first

pub flows_ended : (closing_now : Bool) (p : PlainPorts) (seat : Seat) (time : ℕ) → place_of seat < 16 → AreWhole p → Flows 0 p (close_by closing_now p seat time).ports (close_by closing_now p seat time).loose []
flows_ended true p seat time there h = flows_none 0 p h
flows_ended false p seat time there h =
    let new = closing time (machine_at p seat) in
    let one = where_machine (has_machine p seat) (stepped seat new) (held_by (is_free (slot_at p.conns seat)) p seat) in
    let first = ended_first (has_machine p seat) (is_free (slot_at p.conns seat)) p seat time there h in
    flows_then 0 0 0 p one.ports (ending_in new.state seat one.ports) one.loose [] [] (omega arith) first (flows_ending new.state seat one.ports first.whole)

-- by the answer to its close
flows_freed_by : (what : Note) (app : ℕ) (p : PlainPorts) → AreWhole p → Flows 1 p (freed_by what app p).ports (freed_by what app p).loose []
flows_freed_by (note.Closed slot) app p h = flows_freed_next (seat app slot) p h
flows_freed_by note.Bound app p h = flows_none 1 p h
flows_freed_by (note.Connected slot) app p h = flows_none 1 p h
flows_freed_by (note.Refused reason) app p h = flows_none 1 p h
flows_freed_by (note.Down slot) app p h = flows_none 1 p h
flows_freed_by (note.Bind port need) app p h = flows_none 1 p h
flows_freed_by (note.Connect slot dest port prio flags from) app p h = flows_none 1 p h
flows_freed_by (note.Close slot) app p h = flows_none 1 p h

flows_answered_by : (os : List Owed) (p : PlainPorts) → AreWhole p → Flows 1 p (answered_by os p).ports (answered_by os p).loose []
flows_answered_by [] p h = flows_none 1 p h
flows_answered_by (o ∷ os) p h =
    let q : PlainPorts = record p { owed = os } in
    let first = flows_still 0 p q refl refl refl (no_further p q (λ n k. record { machines = k.machines; made = k.made; ends = k.ends })) h in
    let next = freed_by o.note o.app q in
    flows_then 0 1 1 p q next.ports [] next.loose [] (omega arith) first (flows_freed_by o.note o.app q first.whole)

pub flows_answered : (p : PlainPorts) → AreWhole p → Flows 1 p (answered p).ports (answered p).loose []
flows_answered p h = flows_answered_by p.owed p h

-- ---- the end of a run: buffers are taken out

far_out : (n : ℕ) (s : SlotState) (o : Option PlainBuffer) → IsFar n (machine_in s) → IsFar n (machine_in (handed_out o s))
far_out n s (Some b) h = h
far_out n s None h = subst (IsFar n) (sym (taken_machine s)) (far-taken-out n (machine_in s) h)

far_without : (n : ℕ) (ss : List SlotState) → All (IsFar n) (map machine_in ss) → All (IsFar n) (map machine_in (without_held ss))
far_without n [] all = all
far_without n (s ∷ ss) all = go (slot_buffers s) (far_without n ss (All-tail (IsFar n) (machine_in s) (map machine_in ss) all))
  where
    head : IsFar n (machine_in s)
    head = All-head (IsFar n) (machine_in s) (map machine_in ss) all

    go : (bs : List PlainBuffer) → All (IsFar n) (map machine_in (without_held ss)) → All (IsFar n) (map machine_in (first_out bs s ss (without_held ss)))
    go [] rest = All-cons (IsFar n) (machine_in s) (map machine_in (without_held ss)) head rest
    go (b ∷ bs) rest = All-cons (IsFar n) (machine_in (handed_out s.stalled s)) (map machine_in ss) (far_out n s s.stalled head) (All-tail (IsFar n) (machine_in s) (map machine_in ss) all)

far_emptied : (n : ℕ) (p : PlainPorts) → AreFar n p → AreFar n (emptied p)
far_emptied n p h = record { machines = far_without n p.slots h.machines; made = h.made; ends = subst (All (λ t. t.ordinal ≤ n)) (sym (terms-without p.slots)) h.ends }

pub keeps_out : (old new : PortsAt) (b : Content) → held old.ports ≡ b ∷ held new.ports → new ≡ with_ports_at old (emptied old.ports) → Keeps 0 (at_hand old.ports []) (at_hand new.ports (b ∷ [])) []
keeps_out old new b e is = record {
  numbers = λ k. omega (arith, ap (weigh (Some k)) e, weigh_append (Some k) (b ∷ []) (held new.ports));
  size = omega (arith, ap length e);
  far = λ n h. subst (λ (x : PortsAt). AreFar (n + 0) x.ports) (sym is) (far_later n (n + 0) (emptied old.ports) (omega arith) (far_emptied n old.ports h));
}

pub keeps_out_or : (old new : PortsAt) (o : Option PlainBuffer) → MatchOption o ((held old.ports ≡ []) × (new ≡ old)) (λ b. held old.ports ≡ b.picture ∷ held new.ports) → new ≡ with_ports_at old (emptied old.ports)
    → MatchOption o (Keeps 0 (at_hand old.ports []) (at_hand new.ports []) []) (λ b. Keeps 0 (at_hand old.ports []) (at_hand new.ports (b.picture ∷ [])) [])
keeps_out_or old new None h is =
    subst (λ (x : PortsAt). Keeps 0 (at_hand old.ports []) (at_hand x.ports []) []) (sym h.1)
    (record { numbers = λ k. omega arith; size = omega arith; far = λ n k. far_later n (n + 0) old.ports (omega arith) k })
keeps_out_or old new (Some b) h is = keeps_out old new b.picture h is
