-- what holds of a node's ports goes on to hold when a part of them changes
use Rattle.std.specs.Prelude.{IfSome, None, Option, Some, get_or, is_some, slice_set, unwrap_or}
use Rattle.std.specs.Option.{option_map}
use Rattle.std.proofs.Common.{◌≡◌, ℕ, ◌+◌, ◌<◌, ◌≤◌, List, length, map, arith, ap, refl, subst, sym, ◌∙◌}
use Rattle.std.specs.Vec.{with_item}
use Rattle.std.proofs.lemmas.List.{get_or-map, length-map, length-set, map-set}
use Rattle.std.proofs.lemmas.List.Elements.{All-get_or, All-set}
use Rattle.csp_base.specs.declared.seat.Seat.{Seat}
use Rattle.csp_buffer.specs.PlainBuffer.{PlainBuffer}
use Rattle.csp_conn.specs.PlainConns.{place_of}
use Rattle.csp_ports.proofs.Stalling.{alone_after, none_in, one_in, stalls_at, stalls_of_map, stalls_same}
use Rattle.csp_ports.proofs.Wishing.{weighs_after}
use Rattle.csp_deck.specs.Regions.{nowhere}
use Rattle.csp_ports.specs.Kept.{ArePorts, IsHoused, IsKept, IsWaiting, plain_ports, ports_at, wished, wishes}
use Rattle.csp_ports.specs.PlainPorts.{PortsAt, fresh, has_machine, machine_at, stalls_of, state_at, terms_at, terms_of, untouched, waiting, with_machine, with_machine_or, with_ports_at, with_stalled, with_terms}
use Rattle.csp_ports.specs.declared.terms.SlotState.{SlotState}
use Rattle.csp_ports.proofs.Slots.{placed_state, terms_listed, terms_of_machine, terms_of_stalled, terms_of_terms}
use Rattle.csp_rdp.specs.Machine.{PlainRdp, idle}
use Rattle.csp_rdp.specs.Placed.{placed, placed_buffer}
use Rattle.csp_ports.specs.declared.ports.Ports.TheInside.{Inside}
use Rattle.csp_ports.specs.declared.ports.TheConstants.{ANSWERS}
use Rattle.csp_ports.specs.declared.terms.Terms.{Terms}

-- what is kept of a slot: another in a place, with no more answers still to come, and no more packets that wait, than may be
slot_kept : (p : Inside) (k : ℕ) (s : SlotState) → IsKept p.token.name s → ((app : ℕ) → waiting app p.owed.items + wishes app (terms_of (plain_ports (record p { slots = with_item p.slots k s }))) ≤ ANSWERS)
    → ((app : ℕ) → stalls_of app (slice_set p.slots.items k s) ≤ 1) → ArePorts p → ArePorts (record p { slots = with_item p.slots k s })
slot_kept p k s h due alone a = record {
  few = a.few;
  apps = a.apps;
  room = a.room;
  owners = a.owners;
  owed = a.owed;
  due = due;
  slots = length-set p.slots.items k s ∙ a.slots;
  kept = All-set (IsKept p.token.name) p.slots.items k s h a.kept;
  alone = alone;
}

-- what is kept of the slot in a place
kept_in : (p : Inside) (k : ℕ) (s : SlotState) → k < 16 → ArePorts p → s ≡ get_or p.slots.items k s → IsKept p.token.name s
kept_in p k s there a value = subst (IsKept p.token.name) (sym value) (All-get_or (IsKept p.token.name) p.slots.items k s (omega (arith, there, a.slots)) a.kept)

-- where the packet that waits there stays, or none does, an application has one at most as before
alone_same : (p : Inside) (k : ℕ) (s new : SlotState) → ArePorts p → s ≡ get_or p.slots.items k s → new.stalled ≡ s.stalled → (app : ℕ) → stalls_of app (slice_set p.slots.items k new) ≤ 1
alone_same p k s new a value same app = rw (stalls_same app p.slots.items k new s (same ∙ ap (λ (x : SlotState). x.stalled) value)) (a.alone app)

-- what a place has
pub slot_in : (p : Inside) (seat : Seat) (place : ℕ) (d : SlotState) → place ≡ place_of seat → place < 16 → ArePorts p → placed_state nowhere (get_or p.slots.items place d) ≡ state_at (plain_ports p) seat
slot_in p seat place d e there a = sym (get_or-map (placed_state nowhere) p.slots.items place d untouched (omega (arith, there, a.slots))) ∙ ap (λ (k : ℕ). get_or (map (placed_state nowhere) p.slots.items) k untouched) e

-- another in its place, as contracts see it
slot_set : (p : Inside) (seat : Seat) (place : ℕ) (s : SlotState) → place ≡ place_of seat → ports_at (record p { slots = with_item p.slots place s }) ≡ with_ports_at (ports_at p) (record (plain_ports p) { slots = slice_set (plain_ports p).slots (place_of seat) (placed_state nowhere s) })
slot_set p seat place s e = rw e (ap (λ (ss : List SlotState). with_ports_at (ports_at p) (record (plain_ports p) { slots = ss })) (map-set (placed_state nowhere) p.slots.items (place_of seat) s))

-- there are as many terms as slots
pub seen_terms : (p : Inside) → length (terms_of (plain_ports p)) ≡ length p.slots.items
seen_terms p = length-map (map (placed_state nowhere) p.slots.items) (λ (s : SlotState). s.terms) ∙ length-map p.slots.items (placed_state nowhere)

-- the terms of a slot
pub terms_set : (p : Inside) (seat : Seat) (place : ℕ) (s : SlotState) (t : Terms) → place ≡ place_of seat → place < 16 → ArePorts p → s ≡ get_or p.slots.items place s
    → ports_at (record p { slots = with_item p.slots place (record s { terms = t }) }) ≡ with_ports_at (ports_at p) (with_terms (plain_ports p) seat t)
terms_set p seat place s t e there a value =
    slot_set p seat place (record s { terms = t }) e
    ∙ ap (λ (x : SlotState). with_ports_at (ports_at p) (record (plain_ports p) { slots = slice_set (plain_ports p).slots (place_of seat) (record x { terms = t }) })) (ap (placed_state nowhere) value ∙ slot_in p seat place s e there a)

pub terms_kept : (p : Inside) (seat : Seat) (place : ℕ) (s : SlotState) (t : Terms) → place ≡ place_of seat → seat.slot < 4 → place < 16 → ArePorts p → s ≡ get_or p.slots.items place s
    → (waiting seat.app p.owed.items + wishes seat.app (terms_of (plain_ports p))) + wished t.wish ≤ ANSWERS + wished (terms_at (plain_ports p) seat).wish → ArePorts (record p { slots = with_item p.slots place (record s { terms = t }) })
terms_kept p seat place s t e h there a value more =
    let kept = kept_in p place s there a value in
    slot_kept p place (record s { terms = t }) (record { housed = kept.housed; waits = kept.waits })
    (λ b.
    subst (λ (ts : List Terms). waiting b p.owed.items + wishes b ts ≤ ANSWERS)
    (sym (ap (λ (x : PortsAt). terms_of x.ports) (terms_set p seat place s t e there a value) ∙ terms_of_terms (plain_ports p) seat t))
    (weighs_after (λ t. wished t.wish) ANSWERS seat (terms_of (plain_ports p)) (λ b. waiting b p.owed.items) t fresh h (omega (arith, e, there, a.slots, seen_terms p)) a.due
    (subst (λ (u : Terms). (waiting seat.app p.owed.items + wishes seat.app (terms_of (plain_ports p))) + wished t.wish ≤ ANSWERS + wished u.wish) (terms_listed (plain_ports p) seat) more) b))
    (alone_same p place s (record s { terms = t }) a value refl)
    a

-- the machine of a slot, or none, as contracts see it
pub machine_set : (p : Inside) (seat : Seat) (place : ℕ) (s : SlotState) (o : Option PlainRdp) → place ≡ place_of seat → place < 16 → ArePorts p → s ≡ get_or p.slots.items place s
    → ports_at (record p { slots = with_item p.slots place (record s { machine = o }) }) ≡ with_ports_at (ports_at p) (with_machine_or (plain_ports p) seat (option_map (placed nowhere) o))
machine_set p seat place s o e there a value =
    slot_set p seat place (record s { machine = o }) e
    ∙ ap (λ (x : SlotState). with_ports_at (ports_at p) (record (plain_ports p) { slots = slice_set (plain_ports p).slots (place_of seat) (record x { machine = option_map (placed nowhere) o }) })) (ap (placed_state nowhere) value ∙ slot_in p seat place s e there a)

pub machines_kept : (p : Inside) (seat : Seat) (place : ℕ) (s : SlotState) (o : Option PlainRdp) → place ≡ place_of seat → place < 16 → s ≡ get_or p.slots.items place s → IfSome o (IsHoused p.token.name) → ArePorts p → ArePorts (record p { slots = with_item p.slots place (record s { machine = o }) })
machines_kept p seat place s o e there value h a =
    slot_kept p place (record s { machine = o }) (record { housed = h; waits = (kept_in p place s there a value).waits })
    (λ b.
    subst (λ (ts : List Terms). waiting b p.owed.items + wishes b ts ≤ ANSWERS)
    (sym (ap (λ (x : PortsAt). terms_of x.ports) (machine_set p seat place s o e there a value) ∙ terms_of_machine (plain_ports p) seat (option_map (placed nowhere) o))) (a.due b))
    (alone_same p place s (record s { machine = o }) a value refl)
    a

-- the machine that a place has, as contracts see it
pub machine_in_place : (p : Inside) (at : PortsAt) (seat : Seat) (place : ℕ) (s : SlotState) → ports_at p ≡ at → place ≡ place_of seat → place < 16 → ArePorts p → s ≡ get_or p.slots.items place s → option_map (placed nowhere) s.machine ≡ (state_at at.ports seat).machine
machine_in_place p at seat place s view e there a value =
    ap (λ (x : SlotState). (placed_state nowhere x).machine) value ∙ (ap (λ (x : SlotState). x.machine) (slot_in p seat place s e there a) ∙ ap (λ (x : PortsAt). (state_at x.ports seat).machine) view)

pub machine_seen : (p : Inside) (at : PortsAt) (seat : Seat) (place : ℕ) (s : SlotState) (r : PlainRdp) → ports_at p ≡ at → place ≡ place_of seat → place < 16 → ArePorts p → s ≡ get_or p.slots.items place s → Some r ≡ s.machine → placed nowhere r ≡ machine_at at.ports seat
machine_seen p at seat place s r view e there a value some =
    ap (λ (o : Option PlainRdp). unwrap_or (option_map (placed nowhere) o) idle) some ∙ ap (λ (o : Option PlainRdp). unwrap_or o idle) (machine_in_place p at seat place s view e there a value)

pub machine_there : (p : Inside) (at : PortsAt) (seat : Seat) (place : ℕ) (s : SlotState) (o : Option PlainRdp) → ports_at p ≡ at → place ≡ place_of seat → place < 16 → ArePorts p → s ≡ get_or p.slots.items place s → o ≡ s.machine → is_some o ≡ has_machine at.ports seat
machine_there p at seat place s o view e there a value is =
    ap (λ (m : Option PlainRdp). is_some m) is ∙ (still s.machine ∙ ap (λ (m : Option PlainRdp). is_some m) (machine_in_place p at seat place s view e there a value))
  where
    still : (m : Option PlainRdp) → is_some m ≡ is_some (option_map (placed nowhere) m)
    still None = refl
    still (Some r) = refl

-- and where it has none
pub machine_absent : (p : Inside) (at : PortsAt) (seat : Seat) (place : ℕ) (s : SlotState) → ports_at p ≡ at → place ≡ place_of seat → place < 16 → ArePorts p → s ≡ get_or p.slots.items place s → s.machine ≡ None → machine_at at.ports seat ≡ idle
machine_absent p at seat place s view e there a value none =
    sym (ap (λ (o : Option PlainRdp). unwrap_or (option_map (placed nowhere) o) idle) (sym none) ∙ ap (λ (o : Option PlainRdp). unwrap_or o idle) (machine_in_place p at seat place s view e there a value))

-- it is housed
pub housed_in : (p : Inside) (k : ℕ) (s : SlotState) (r : PlainRdp) → k < 16 → ArePorts p → s ≡ get_or p.slots.items k s → Some r ≡ s.machine → IsHoused p.token.name r
housed_in p k s r there a value some =
    subst (λ (o : Option PlainRdp). IfSome o (IsHoused p.token.name)) (sym some) (kept_in p k s there a value).housed

-- the ports, once it made a step
pub machine_stepped : (p : Inside) (at : PortsAt) (seat : Seat) (place : ℕ) (s : SlotState) (r new : PlainRdp) (step : PlainRdp → PlainRdp) → ports_at p ≡ at → place ≡ place_of seat → place < 16 → ArePorts p → s ≡ get_or p.slots.items place s → Some r ≡ s.machine → placed nowhere new ≡ step (placed nowhere r)
    → ports_at (record p { slots = with_item p.slots place (record s { machine = Some new }) }) ≡ with_ports_at at (with_machine at.ports seat (step (machine_at at.ports seat)))
machine_stepped p at seat place s r new step view e there a value some made =
    machine_set p seat place s (Some new) e there a value
    ∙ (ap (λ (x : PortsAt). with_ports_at x (with_machine x.ports seat (placed nowhere new))) view
    ∙ ap (λ (q : PlainRdp). with_ports_at at (with_machine at.ports seat q)) (made ∙ ap step (machine_seen p at seat place s r view e there a value some)))

-- another packet that waits in a place, or none, as contracts see it
pub stalled_set : (p : Inside) (seat : Seat) (place : ℕ) (s : SlotState) (o : Option PlainBuffer) → place ≡ place_of seat → place < 16 → ArePorts p → s ≡ get_or p.slots.items place s
    → ports_at (record p { slots = with_item p.slots place (record s { stalled = o }) }) ≡ with_ports_at (ports_at p) (with_stalled (plain_ports p) seat (option_map (placed_buffer nowhere) o))
stalled_set p seat place s o e there a value =
    slot_set p seat place (record s { stalled = o }) e
    ∙ ap (λ (x : SlotState). with_ports_at (ports_at p) (record (plain_ports p) { slots = slice_set (plain_ports p).slots (place_of seat) (record x { stalled = option_map (placed_buffer nowhere) o }) })) (ap (placed_state nowhere) value ∙ slot_in p seat place s e there a)

pub stalled_kept : (p : Inside) (seat : Seat) (place : ℕ) (s : SlotState) (o : Option PlainBuffer) → place ≡ place_of seat → seat.slot < 4 → place < 16 → ArePorts p → s ≡ get_or p.slots.items place s → IfSome o (IsWaiting p.token.name)
    → stalls_of seat.app p.slots.items + one_in (record s { stalled = o }) ≤ 1 + one_in s → ArePorts (record p { slots = with_item p.slots place (record s { stalled = o }) })
stalled_kept p seat place s o e h there a value waits fewer =
    slot_kept p place (record s { stalled = o }) (record { housed = (kept_in p place s there a value).housed; waits = waits })
    (λ b.
    subst (λ (ts : List Terms). waiting b p.owed.items + wishes b ts ≤ ANSWERS)
    (sym (ap (λ (x : PortsAt). terms_of x.ports) (stalled_set p seat place s o e there a value) ∙ terms_of_stalled (plain_ports p) seat (option_map (placed_buffer nowhere) o))) (a.due b))
    (λ b.
    subst (λ (k : ℕ). stalls_of b (slice_set p.slots.items k (record s { stalled = o })) ≤ 1) (sym e)
    (alone_after seat p.slots.items (record s { stalled = o }) s h (omega (arith, e, there, a.slots)) a.alone
    (subst (λ (x : SlotState). stalls_of seat.app p.slots.items + one_in (record s { stalled = o }) ≤ 1 + one_in x) (value ∙ ap (λ (k : ℕ). get_or p.slots.items k s) e) fewer) b))
    a

-- where none of an application's waits, none does at its slots
pub none_waits : (p : Inside) (at : PortsAt) (seat : Seat) (place : ℕ) (s : SlotState) → ports_at p ≡ at → place ≡ place_of seat → seat.slot < 4 → place < 16 → ArePorts p → s ≡ get_or p.slots.items place s → stalls_of seat.app at.ports.slots ≡ 0
    → (stalls_of seat.app p.slots.items ≡ 0) × (s.stalled ≡ None)
none_waits p at seat place s view e h there a value none =
    let all = sym (stalls_of_map seat.app nowhere p.slots.items) ∙ (ap (λ (x : PortsAt). stalls_of seat.app x.ports.slots) view ∙ none) in (
      all,
      ap (λ (x : SlotState). x.stalled) value ∙ (ap (λ (k : ℕ). (get_or p.slots.items k s).stalled) e ∙ none_in seat p.slots.items s h (omega (arith, e, there, a.slots)) all),
    )

-- and where one is taken out none is left
pub none_after : (p : Inside) (seat : Seat) (place : ℕ) (s : SlotState) (o : Option PlainBuffer) → o ≡ s.stalled → place ≡ place_of seat → seat.slot < 4 → place < 16 → ArePorts p → s ≡ get_or p.slots.items place s
    → IfSome o (λ b. stalls_of seat.app (map (placed_state nowhere) (slice_set p.slots.items place (record s { stalled = None }))) ≡ 0)
none_after p seat place s None was e h there a value = tt
none_after p seat place s (Some b) was e h there a value =
    let one = ap (λ (x : Option PlainBuffer). one_in (record s { stalled = x })) was ∙ ap one_in (value ∙ ap (λ (k : ℕ). get_or p.slots.items k s) e) in
    stalls_of_map seat.app nowhere (slice_set p.slots.items place (record s { stalled = None }))
    ∙ rw e (omega (arith, one, a.alone seat.app, stalls_at seat p.slots.items (record s { stalled = None }) s h (omega (arith, e, there, a.slots))))
