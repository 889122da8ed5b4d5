-- The steps of a router's ports: none loses a number of a buffer or makes one.
use Rattle.std.proofs.Common.{◌≡◌, ℕ, ◌+◌, ◌<◌, Bool, true, false, nat_lt, Option, None, Some, List, [], ◌∷◌, ◌++◌, map, refl, sym, ap, ◌∙◌, subst, arith}
use Rattle.std.specs.Prelude.{is_some}
use Rattle.std.specs.List.{All}
use Rattle.std.specs.Option.{option_map}
use Rattle.std.proofs.lemmas.Bool.{ltb-false, ltb-true}
use Rattle.std.proofs.lemmas.List.{get_or_past, length-set}
use Rattle.csp_base.specs.declared.seat.Seat.{Seat}
use Rattle.csp_buffer.specs.Content.{Content}
use Rattle.csp_buffer.specs.PlainBuffer.{PlainBuffer}
use Rattle.csp_conn.specs.PlainConns.{place_of, seat_of}
use Rattle.csp_ports.proofs.Public.{by_dropped, by_settled, flows_none, Flows, flows_machine, flows_then, machine_later, machine_whole, machines_of_terms, whole_at, flows_handed, tally, tally_append, tally_none, tally_same, sent_whole}
use Rattle.csp_ports.specs.Came.{Came, come, reporting, then}
use Rattle.csp_ports.specs.Keeps.{AreWhole}
use Rattle.csp_ports.specs.Packets.{back_by, handing, handing_event}
use Rattle.csp_ports.specs.PlainPorts.{PlainPorts, anywhere, machine_at, machine_in, stalled_at, state_at, untouched, with_terms}
use Rattle.csp_ports.specs.Steps.{dropped, settled, went, where_machine}
use Rattle.csp_ports.specs.Tasks.{kept_again, making, turned, without_packet}
use Rattle.csp_ports.specs.declared.terms.SlotState.{SlotState}
use Rattle.csp_ports.specs.declared.terms.Terms.{Terms}
use Rattle.csp_rdp.proofs.Public.{delivery-balanced, whole-again, whole-taken, far-taken}
use Rattle.csp_rdp.specs.Balance.{IsWhole}
use Rattle.csp_rdp.specs.Holding.{rdp_numbers}
use Rattle.csp_rdp.specs.Jobs.{delivery, delivery_in, keeping_again, sent, without_delivery}
use Rattle.csp_rdp.specs.Machine.{PlainRdp, idle}
use Rattle.csp_rdp.specs.Table.{back_of, after_packet, is_stray, row_of}
use Rattle.csp_rdp.specs.declared.answers.State.{State}
use Rattle.csp_rdp.specs.declared.answers.State.TheVariants.{CloseWait, Closed, Open, SynRcvd, SynSent}
use Rattle.csp_rdp.specs.declared.answers.Cause.TheVariants as machine_why
use Rattle.csp_rdp.specs.declared.jobs.Job.{Job}
use Rattle.csp_rdp_header.specs.declared.head.RdpHead.{RdpHead}
use Rattle.csp_rdp_window.specs.Numbers.{number_in}
use Rattle.csp_rdp_window.specs.Receiving.{is_kept}

-- ports are whole where the buffers are where they were in whole ones
pub still_whole : (p q : PlainPorts) → q.conns.apps ≡ p.conns.apps → q.slots ≡ p.slots → AreWhole p → AreWhole q
still_whole p q a b h = record { few = rw a h.few; slots = rw b h.slots; machines = subst (λ (ss : List SlotState). All IsWhole (map machine_in ss)) (sym b) h.machines }

-- and other terms of a slot leave them there
pub terms_whole : (p : PlainPorts) (s : Seat) (t : Terms) → AreWhole p → AreWhole (with_terms p s t)
terms_whole p s t h = record {
  few = h.few;
  slots = length-set p.slots (place_of s) (record (state_at p s) { terms = t }) ∙ h.slots;
  machines = subst (λ (rs : List PlainRdp). All IsWhole rs) (sym (machines_of_terms p s t)) h.machines;
}

-- ---- a packet that is handed to the machine of any slot

-- what comes of it, by what the machine is, where the slot has one
abbrev handing_to : (has_machine : Bool) → PlainRdp → PlainPorts → Seat → RdpHead → Content → ℕ → Came
handing_to has r p s h b time =
    reporting (handing_event r b.trace.tag)
    (then (back_by (back_of (row_of r h b.payload) (anywhere b)) (is_stray (row_of r h b.payload)) p) (λ p.
    then (where_machine has (went r.state machine_why.Reset s (after_packet h b.trace.tag (anywhere b) time r)) p) (λ p.
    then (dropped s p) (λ p.
    come (settled time s p)))))

-- at a slot that is not there no packet waits
none_dropped : (p : PlainPorts) (seat : Seat) → stalled_at p seat ≡ None → AreWhole p → Flows 0 p (dropped seat p).ports (dropped seat p).loose []
none_dropped p seat none h = by_dropped (λ c. Flows 0 p c.ports c.loose []) seat p (λ opens. flows_none 0 p h) (λ b e shut. absurd (cc (none, e)))

none_settled : (time : ℕ) (p : PlainPorts) (seat : Seat) → stalled_at p seat ≡ None → AreWhole p → Flows 1 p (settled time seat p) [] []
none_settled time p seat none h = by_settled (λ q. Flows 1 p q [] []) time seat p (flows_none 1 p h) (λ b e room. absurd (cc (none, e)))

none_handed : (p : PlainPorts) (b : Content) → AreWhole p → Flows 0 p p (b ∷ []) (b.number ∷ [])
none_handed p b h = let one = flows_none 0 p h in record { counts = λ o. omega arith; far = one.far; whole = h }

-- so it has no use for a packet: that joins the trash
handed_beyond : (p : PlainPorts) (seat : Seat) (h : RdpHead) (b : Content) (time : ℕ) → stalled_at p seat ≡ None → AreWhole p
    → Flows 1 p (handing_to false idle p seat h b time).ports (handing_to false idle p seat h b time).loose (b.number ∷ [])
handed_beyond p seat h b time waits w =
    let two = dropped seat p in
    let first = none_handed p b w in
    let second = none_dropped p seat waits w in
    let both = flows_then 0 0 0 p p two.ports (b ∷ []) two.loose (b.number ∷ []) (omega arith) first second in
    flows_then 0 1 1 p two.ports (settled time seat two.ports) ((b ∷ []) ++ two.loose) [] (b.number ∷ []) (omega arith) both (none_settled time two.ports seat (by_dropped (λ c. stalled_at c.ports seat ≡ None) seat p (λ opens. waits) (λ b e shut. absurd (cc (waits, e)))) second.whole)

pub flows_handing : (p : PlainPorts) (seat : Seat) (h : RdpHead) (b : Content) (time : ℕ) → seat.slot < 4 → AreWhole p → Flows 1 p (handing p seat h b time).ports (handing p seat h b time).loose (b.number ∷ [])
flows_handing p seat h b time low w =
    by (nat_lt seat.app 4) refl
  where
    by : (there : Bool) → nat_lt seat.app 4 ≡ there → Flows 1 p (handing p seat h b time).ports (handing p seat h b time).loose (b.number ∷ [])
    by true e = let few = ltb-true seat.app 4 e in flows_handed p seat h b time (omega (arith, few, low)) w
    by false e =
        let many = ltb-false seat.app 4 e in
        let past : state_at p seat ≡ untouched = get_or_past p.slots (place_of seat) untouched (omega (arith, many, w.slots)) in
        subst (λ (s : SlotState). Flows 1 p (handing_to (is_some s.machine) (machine_in s) p seat h b time).ports (handing_to (is_some s.machine) (machine_in s) p seat h b time).loose (b.number ∷ [])) (sym past)
        (handed_beyond p seat h b time (ap (λ (s : SlotState). s.stalled) past) w)

-- the seat whose connection was found is one of an application's
pub found_low : (o : Option ℕ) (s : Seat) → option_map seat_of o ≡ Some s → s.slot < 4
found_low None s e = absurd cc
found_low (Some place) s e = let same : seat_of place ≡ s = cc in subst (λ (t : Seat). t.slot < 4) same (omega arith)

-- ---- tasks

pub turned_whole : (p : PlainPorts) (s : Seat) → AreWhole p → AreWhole (turned s p)
turned_whole p s h = still_whole p (turned s p) refl refl h

-- a packet is delivered by an open connection alone
pub delivers_open : (r : PlainRdp) (b : PlainBuffer) → delivery r ≡ Some b → r.state ≡ Open
delivers_open r b e = by r.state refl e
  where
    by : (s : State) → r.state ≡ s → delivery_in s r ≡ Some b → r.state ≡ Open
    by Open is e = is
    by SynSent is e = absurd cc
    by SynRcvd is e = absurd cc
    by CloseWait is e = absurd cc
    by Closed is e = absurd cc

-- it is taken out
pub flows_taken : (p : PlainPorts) (s : Seat) (b : PlainBuffer) → place_of s < 16 → AreWhole p → delivery (machine_at p s) ≡ Some b → Flows 0 p (without_packet s p) (b.picture ∷ []) []
flows_taken p s b there h e =
    let r = machine_at p s in
    let whole = whole_at p s h in
    flows_machine 0 p s (without_delivery r) (b.picture ∷ []) [] there h (whole-taken r.state r refl whole) (λ n far. machine_later n (n + 0) (without_delivery r) (omega arith) (far-taken n r.state r far))
    (λ o.
    let even = tally_same o (rdp_numbers (without_delivery r) ++ number_in (delivery r)) (rdp_numbers r) (delivery-balanced r.state r whole) in
    let out = ap (λ (d : Option PlainBuffer). tally o (number_in d)) e in
    omega (arith, tally_none o, even, out, tally_append o (rdp_numbers (without_delivery r)) (number_in (delivery r))))

-- and kept again, where its lane had no room
pub again_whole : (p : PlainPorts) (s : Seat) (b : Content) → AreWhole p → (machine_at p s).state ≡ Open → is_kept (machine_at p s).recv ((machine_at p s).recv.cur + 1) ≡ false → AreWhole (kept_again s b p)
again_whole p s b h opened none =
    machine_whole p s (keeping_again (anywhere b) (machine_at p s)) (whole-again (anywhere b) (machine_at p s) opened none (whole_at p s h)) h

-- a packet is made
pub made_whole : (j : Job) (p : PlainPorts) (time : ℕ) (s : Seat) → AreWhole p → AreWhole (making j time s p)
made_whole j p time s h = machine_whole p s (sent j time (machine_at p s)) (sent_whole j time (machine_at p s) (whole_at p s h)) h
