-- where no timer has anything to do, trying the timers changes nothing
use Rattle.std.specs.Prelude.{◌||◌, ◌&&◌, Bool, false, true, not, is_some, unwrap_or, slice_set, Option, None, Some, get_or}
use Rattle.std.specs.List.{All, list_any, range_with_len}
use Rattle.std.proofs.Common.{◌≡◌, ℕ, zero, suc, ◌+◌, ◌-◌, ◌*◌, ◌<◌, List, [], ◌∷◌, ◌++◌, map, refl, ap, ap₂, subst, sym, ◌∙◌}
use Rattle.std.proofs.lemmas.Bool.{or_parts}
use Rattle.std.proofs.lemmas.List.{set-get_or}
use Rattle.std.proofs.lemmas.List.Elements.{All-head, All-map, All-tail, All-weaker}
use Rattle.csp_base.specs.declared.seat.Seat.{Seat}
use Rattle.csp_buffer.specs.PlainBuffer.{PlainBuffer}
use Rattle.csp_conn.specs.PlainConns.{place_of, seat_of}
use Rattle.csp_base.specs.declared.limits.TheConstants.{SLOTS}
use Rattle.csp_deck.specs.Regions.{nowhere}
use Rattle.csp_ports.proofs.Following.{range_next}
use Rattle.csp_ports.specs.Came.{Came, come, pictures, then}
use Rattle.csp_ports.specs.Kept.{ArePorts, IsKept, plain_ports, ports_at}
use Rattle.csp_ports.specs.PlainPorts.{PlainPorts, PortsAt, has_machine, machine_at, machine_in, machines_of, state_at, untouched, with_machine}
use Rattle.csp_ports.specs.declared.terms.SlotState.{SlotState}
use Rattle.csp_ports.proofs.Holding.{machine-housed}
use Rattle.csp_ports.proofs.Settling.{by_dropped, true_false}
use Rattle.csp_ports.proofs.Slots.{machine_listed, placed_machine, placed_state}
use Rattle.csp_arena.specs.Cells.{RegionName}
use Rattle.csp_ports.specs.Quiet.{any_due, is_due, is_stranded, times_out_at}
use Rattle.csp_ports.specs.Steps.{changed, dropped, dropped_in, stepped, timed, timed_at, timed_in, went, where_machine}
use Rattle.csp_ports.specs.declared.ports.Ports.TheInside.{Inside}
use Rattle.csp_rdp.proofs.Public.{rested-still, placed-unneeded, in_time}
use Rattle.csp_rdp.specs.Changes.{change_between}
use Rattle.csp_rdp.specs.Holding.{unneeded}
use Rattle.csp_rdp.specs.Jobs.{ticked}
use Rattle.csp_rdp.specs.Machine.{PlainRdp, idle}
use Rattle.csp_rdp.specs.Placed.{placed_buffer}
use Rattle.csp_rdp.specs.Timer.{times_out}
use Rattle.csp_rdp.specs.declared.answers.Change.{Change}
use Rattle.csp_rdp.specs.declared.answers.Change.TheVariants as change
use Rattle.csp_rdp.specs.declared.answers.State.{State}
use Rattle.csp_rdp.specs.declared.answers.State.TheVariants.{Closed, SynSent, SynRcvd, Open, CloseWait}
use Rattle.csp_rdp.specs.declared.answers.Cause.{Cause}
use Rattle.csp_rdp.specs.declared.answers.Cause.TheVariants as machine_why

-- ---- one slot

-- a state that stays is no change
stays : (s : State) (why : Cause) → change_between s s why ≡ change.None
stays SynSent why = refl
stays SynRcvd why = refl
stays Open why = refl
stays CloseWait why = refl
stays Closed why = refl

-- a machine at rest that takes its own place is no step
own_machine : (s : SlotState) → is_some s.machine ≡ true → record s { machine = Some (machine_in s) } ≡ s
own_machine s e = go s.machine e
  where
    go : (o : Option PlainRdp) → is_some o ≡ true → ◌≡◌ {A = SlotState} (record s { machine = Some (unwrap_or o idle) }) (record s { machine = o })
    go None e = cc
    go (Some r) e = refl

still : (seat : Seat) (p : PlainPorts) → has_machine p seat ≡ true → unneeded (machine_at p seat) ≡ [] → stepped seat (machine_at p seat) p ≡ come p
still seat p there rest =
    let r = machine_at p seat in
    ap₂ (λ (q : PlainRdp) (us : List PlainBuffer). record { ports = with_machine p seat q; loose = pictures us; events = [] }) (rested-still r rest) rest
    ∙ ap (λ (ss : List SlotState). come (record p { slots = ss })) (ap (slice_set p.slots (place_of seat)) (own_machine (state_at p seat) there) ∙ set-get_or p.slots (place_of seat) untouched)

timed_still : (time : ℕ) (seat : Seat) (p : PlainPorts) → times_out time (machine_at p seat) ≡ false → unneeded (machine_at p seat) ≡ [] → timed_at time seat p ≡ come p
timed_still time seat p late rest = go (has_machine p seat) refl
  where
    go : (b : Bool) → has_machine p seat ≡ b → where_machine b (went (machine_at p seat).state machine_why.Timeout seat (ticked time (machine_at p seat))) p ≡ come p
    go false e = refl
    go true e =
        let r = machine_at p seat in
        ap (λ (q : PlainRdp). went r.state machine_why.Timeout seat q p) (in_time time r late)
        ∙ (ap (λ (c : Came). (then) c (changed (change_between r.state r.state machine_why.Timeout) seat)) (still seat p e rest)
        ∙ ap (λ (x : Change). (then) (come p) (changed x seat)) (stays r.state machine_why.Timeout))

-- ---- several

-- what changes nothing, and then what changes nothing
then_still : (c : Came) (next : PlainPorts → Came) (p : PlainPorts) → c ≡ come p → next p ≡ come p → (then) c next ≡ come p
then_still c next p first second = ap (λ (d : Came). (then) d next) first ∙ ap (λ (d : Came). record { ports = d.ports; loose = [] ++ d.loose; events = [] ++ d.events }) second

rest_at : (ms : List PlainRdp) (k : ℕ) → All (λ r. unneeded r ≡ []) ms → unneeded (get_or ms k idle) ≡ []
rest_at [] k h = refl
rest_at (m ∷ ms) zero h = All-head (λ r. unneeded r ≡ []) m ms h
rest_at (m ∷ ms) (suc k) h = rest_at ms k (All-tail (λ r. unneeded r ≡ []) m ms h)

-- what is done at several places, one after another, changes nothing where it changes nothing at each of them
in_still : (all_at : List ℕ → PlainPorts → Came) (one_at : ℕ → PlainPorts → Came) (p : PlainPorts) (test : ℕ → Bool) → all_at [] p ≡ come p → ((k : ℕ) (ks : List ℕ) → all_at (k ∷ ks) p ≡ (then) (one_at k p) (all_at ks))
    → ((k : ℕ) → test k ≡ false → one_at k p ≡ come p) → (ks : List ℕ) → list_any test ks ≡ false → all_at ks p ≡ come p
in_still all_at one_at p test none more one [] h = none
in_still all_at one_at p test none more one (k ∷ ks) h =
    let parts = or_parts (test k) (list_any test ks) h in
    more k ks ∙ then_still (one_at k p) (all_at ks) p (one k parts.0) (in_still all_at one_at p test none more one ks parts.1)

-- ---- the packets that wait

dropped_still : (p : PlainPorts) (k : ℕ) → is_stranded p k ≡ false → dropped (seat_of k) p ≡ come p
dropped_still p k h =
    by_dropped (λ c. c ≡ come p) (seat_of k) p (λ opens. refl)
    (λ b e shut. absurd (true_false (sym (ap₂ (λ (o : Option PlainBuffer) (s : Bool). is_some o && not s) e shut) ∙ h)))

-- ---- all

-- the next place says no: the rest says what they said with it
pub passed : (test : ℕ → Bool) (a n : ℕ) → a < n → test a ≡ false → list_any test (range_with_len (a + 1) (n - (a + 1))) ≡ list_any test (range_with_len a (n - a))
passed test a n inside fails = sym (ap (list_any test) (range_next a n inside) ∙ ap (λ (b : Bool). b || list_any test (range_with_len (a + 1) (n - (a + 1)))) fails)

pub quiet_still : (time : ℕ) (p : PlainPorts) → All (λ r. unneeded r ≡ []) (machines_of p) → any_due time p ≡ false → timed time p ≡ come p
quiet_still time p rest due =
    let all : List ℕ = range_with_len 0 (p.conns.apps * SLOTS) in
    then_still (timed_in time all p) (λ q. dropped_in (range_with_len 0 (q.conns.apps * SLOTS)) q) p
    (in_still (timed_in time) (λ k. timed_at time (seat_of k)) p (is_due time p) refl (λ k ks. refl)
    (λ k still. timed_still time (seat_of k) p (or_parts (times_out_at time p k) (is_stranded p k) still).0 (subst (λ (r : PlainRdp). unneeded r ≡ []) (sym (machine_listed p (seat_of k))) (rest_at (machines_of p) (place_of (seat_of k)) rest))) all due)
    (in_still dropped_in (λ k. dropped (seat_of k)) p (is_due time p) refl (λ k ks. refl) (λ k still. dropped_still p k (or_parts (times_out_at time p k) (is_stranded p k) still).1) all due)

-- ---- ports hold what they need alone

rest_slot : (name : RegionName) (s : SlotState) → IsKept name s → unneeded (machine_in (placed_state nowhere s)) ≡ []
rest_slot name s h = ap unneeded (placed_machine nowhere s) ∙ (placed-unneeded nowhere (machine_in s) ∙ ap (map (placed_buffer nowhere)) (machine-housed name s h.housed).rested)

rest_in : (p : Inside) → ArePorts p → All (λ r. unneeded r ≡ []) (machines_of (plain_ports p))
rest_in p a =
    All-map (λ r. unneeded r ≡ []) machine_in (map (placed_state nowhere) p.slots.items)
    (All-map (λ (s : SlotState). unneeded (machine_in s) ≡ []) (placed_state nowhere) p.slots.items
    (All-weaker (IsKept p.token.name) (λ (s : SlotState). unneeded (machine_in (placed_state nowhere s)) ≡ []) (rest_slot p.token.name) p.slots.items a.kept))

pub rest_seen : (p : Inside) (at : PortsAt) → ports_at p ≡ at → ArePorts p → All (λ r. unneeded r ≡ []) (machines_of at.ports)
rest_seen p at view a = subst (λ (x : PortsAt). All (λ r. unneeded r ≡ []) (machines_of x.ports)) view (rest_in p a)
