-- what is kept of slots: their terms, their machines, and the packets that wait
use Rattle.std.specs.Prelude.{false, None, Option, Some, get_or, slice_set, unwrap_or}
use Rattle.std.specs.Option.{is_some, option_map}
use Rattle.std.proofs.Common.{◌≡◌, ℕ, zero, suc, ◌<◌, List, [], ◌∷◌, ◌++◌, length, map, refl, ap, ap₂, sym, ◌∙◌}
use Rattle.std.proofs.lemmas.List.{get_or-set_other, get_or-set_same, map-set}
use Rattle.csp_arena.specs.Cells.{RegionName}
use Rattle.std.specs.List.{flat_map}
use Rattle.std.proofs.lemmas.List.Concat.{flat_map-cons}
use Rattle.csp_base.specs.declared.seat.Seat.{Seat}
use Rattle.csp_buffer.specs.PlainBuffer.{PlainBuffer}
use Rattle.csp_ports.specs.Came.{pictures}
use Rattle.csp_ports.specs.Held.{held, slot_buffers}
use Rattle.csp_conn.specs.PlainConns.{place_of}
use Rattle.csp_ports.specs.PlainPorts.{PlainPorts, fresh, has_machine, machine_at, machine_in, machines_of, stalled_at, state_at, terms_at, terms_of, untouched, with_machine_or, with_stalled, with_terms}
use Rattle.csp_ports.specs.declared.terms.SlotState.{SlotState}
use Rattle.csp_ports.specs.declared.terms.Terms.{Terms}
use Rattle.csp_rdp.specs.Holding.{taken_out}
use Rattle.csp_rdp.specs.Machine.{PlainRdp, idle}
use Rattle.csp_rdp.specs.Placed.{placed, placed_buffer}

-- what is read of an element, and of another in its place that reads the same
get_map : {X Y : Type 0} → (f : X → Y) (xs : List X) (k : ℕ) (d : X) → f (get_or xs k d) ≡ get_or (map f xs) k (f d)
get_map f [] k d = refl
get_map f (x ∷ xs) zero d = refl
get_map f (x ∷ xs) (suc k) d = get_map f xs k d

pub same_map : {X Y : Type 0} → (f : X → Y) (xs : List X) (k : ℕ) (x d : X) → f x ≡ f (get_or xs k d) → map f (slice_set xs k x) ≡ map f xs
same_map f [] k x d e = refl
same_map {X} {Y} f (y ∷ ys) zero x d e = ap (λ (z : Y). z ∷ map f ys) e
same_map {X} {Y} f (y ∷ ys) (suc k) x d e = ap (λ (l : List Y). f y ∷ l) (same_map f ys k x d e)

-- a slot's terms and its machine are those that the lists have in its place
pub terms_listed : (p : PlainPorts) (seat : Seat) → terms_at p seat ≡ get_or (terms_of p) (place_of seat) fresh
terms_listed p seat = get_map (λ (s : SlotState). s.terms) p.slots (place_of seat) untouched

pub machine_listed : (p : PlainPorts) (seat : Seat) → machine_at p seat ≡ get_or (machines_of p) (place_of seat) idle
machine_listed p seat = get_map machine_in p.slots (place_of seat) untouched

-- other terms of a slot leave the machines, and another machine the terms
pub terms_of_terms : (p : PlainPorts) (seat : Seat) (t : Terms) → terms_of (with_terms p seat t) ≡ slice_set (terms_of p) (place_of seat) t
terms_of_terms p seat t = map-set (λ (s : SlotState). s.terms) p.slots (place_of seat) (record (state_at p seat) { terms = t })

pub machines_of_terms : (p : PlainPorts) (seat : Seat) (t : Terms) → machines_of (with_terms p seat t) ≡ machines_of p
machines_of_terms p seat t = same_map machine_in p.slots (place_of seat) (record (state_at p seat) { terms = t }) untouched refl

pub terms_of_machine : (p : PlainPorts) (seat : Seat) (o : Option PlainRdp) → terms_of (with_machine_or p seat o) ≡ terms_of p
terms_of_machine p seat o = same_map (λ (s : SlotState). s.terms) p.slots (place_of seat) (record (state_at p seat) { machine = o }) untouched refl

pub machines_of_machine : (p : PlainPorts) (seat : Seat) (o : Option PlainRdp) → machines_of (with_machine_or p seat o) ≡ slice_set (machines_of p) (place_of seat) (unwrap_or o idle)
machines_of_machine p seat o = map-set machine_in p.slots (place_of seat) (record (state_at p seat) { machine = o })

-- another packet that waits, or none, leaves both
pub terms_of_stalled : (p : PlainPorts) (seat : Seat) (o : Option PlainBuffer) → terms_of (with_stalled p seat o) ≡ terms_of p
terms_of_stalled p seat o = same_map (λ (s : SlotState). s.terms) p.slots (place_of seat) (record (state_at p seat) { stalled = o }) untouched refl

pub machines_of_stalled : (p : PlainPorts) (seat : Seat) (o : Option PlainBuffer) → machines_of (with_stalled p seat o) ≡ machines_of p
machines_of_stalled p seat o = same_map machine_in p.slots (place_of seat) (record (state_at p seat) { stalled = o }) untouched refl

-- what is read of any slot stays where what comes into a place reads the same
read_beside : {X : Type 0} → (f : SlotState → X) (p : PlainPorts) (seat : Seat) (s : SlotState) (other : Seat) → f s ≡ f (state_at p seat) →
    f (get_or (slice_set p.slots (place_of seat) s) (place_of other) untouched) ≡ f (state_at p other)
read_beside {X} f p seat s other e =
    get_map f (slice_set p.slots (place_of seat) s) (place_of other) untouched
    ∙ (ap (λ (l : List X). get_or l (place_of other) (f untouched)) (same_map f p.slots (place_of seat) s untouched e)
    ∙ sym (get_map f p.slots (place_of other) untouched))

pub terms_beside : (p : PlainPorts) (seat : Seat) (o : Option PlainRdp) (other : Seat) → terms_at (with_machine_or p seat o) other ≡ terms_at p other
terms_beside p seat o other = read_beside (λ (s : SlotState). s.terms) p seat (record (state_at p seat) { machine = o }) other refl

pub machine_beside : (p : PlainPorts) (seat : Seat) (t : Terms) (other : Seat) → machine_at (with_terms p seat t) other ≡ machine_at p other
machine_beside p seat t other = read_beside machine_in p seat (record (state_at p seat) { terms = t }) other refl

pub machine_unstalled : (p : PlainPorts) (seat : Seat) (o : Option PlainBuffer) (other : Seat) → machine_at (with_stalled p seat o) other ≡ machine_at p other
machine_unstalled p seat o other = read_beside machine_in p seat (record (state_at p seat) { stalled = o }) other refl

pub stalled_terms : (p : PlainPorts) (seat : Seat) (t : Terms) (other : Seat) → stalled_at (with_terms p seat t) other ≡ stalled_at p other
stalled_terms p seat t other = read_beside (λ (s : SlotState). s.stalled) p seat (record (state_at p seat) { terms = t }) other refl

pub stalled_machine : (p : PlainPorts) (seat : Seat) (o : Option PlainRdp) (other : Seat) → stalled_at (with_machine_or p seat o) other ≡ stalled_at p other
stalled_machine p seat o other = read_beside (λ (s : SlotState). s.stalled) p seat (record (state_at p seat) { machine = o }) other refl

pub stalled_beside : (p : PlainPorts) (seat : Seat) (o : Option PlainBuffer) (other : Seat) → (place_of seat ≡ place_of other → ⊥) → stalled_at (with_stalled p seat o) other ≡ stalled_at p other
stalled_beside p seat o other apart =
    ap (λ (s : SlotState). s.stalled) (get_or-set_other p.slots (place_of seat) (place_of other) (record (state_at p seat) { stalled = o }) untouched (λ same. apart (sym same)))

-- and they are what was put there
pub terms_now : (p : PlainPorts) (seat : Seat) (t : Terms) → place_of seat < length p.slots → terms_at (with_terms p seat t) seat ≡ t
terms_now p seat t there = ap (λ (s : SlotState). s.terms) (get_or-set_same p.slots (place_of seat) (record (state_at p seat) { terms = t }) untouched there)

pub machine_now : (p : PlainPorts) (seat : Seat) (o : Option PlainRdp) → place_of seat < length p.slots → machine_at (with_machine_or p seat o) seat ≡ unwrap_or o idle
machine_now p seat o there = ap machine_in (get_or-set_same p.slots (place_of seat) (record (state_at p seat) { machine = o }) untouched there)

pub stalled_now : (p : PlainPorts) (seat : Seat) (o : Option PlainBuffer) → place_of seat < length p.slots → stalled_at (with_stalled p seat o) seat ≡ o
stalled_now p seat o there = ap (λ (s : SlotState). s.stalled) (get_or-set_same p.slots (place_of seat) (record (state_at p seat) { stalled = o }) untouched there)

-- a slot without a machine has one that is idle
none_idle : (o : Option PlainRdp) → is_some o ≡ false → unwrap_or o idle ≡ idle
none_idle None e = refl
none_idle (Some r) e = cc

pub machine_none : (p : PlainPorts) (seat : Seat) → has_machine p seat ≡ false → machine_at p seat ≡ idle
machine_none p seat e = none_idle (state_at p seat).machine e

-- what is kept of a slot, with its buffers of this region; an idle machine stays as it is
abbrev pub placed_state : RegionName → SlotState → SlotState
placed_state name s = record s { machine = option_map (placed name) s.machine; stalled = option_map (placed_buffer name) s.stalled }

pub placed_machine : (name : RegionName) (s : SlotState) → machine_in (placed_state name s) ≡ placed name (machine_in s)
placed_machine name s = go s.machine
  where
    go : (o : Option PlainRdp) → unwrap_or (option_map (placed name) o) idle ≡ placed name (unwrap_or o idle)
    go None = refl
    go (Some r) = refl

pub placed_machines : (name : RegionName) (ss : List SlotState) → map machine_in (map (placed_state name) ss) ≡ map (placed name) (map machine_in ss)
placed_machines name [] = refl
placed_machines name (s ∷ ss) = ap₂ (λ (r : PlainRdp) (rs : List PlainRdp). r ∷ rs) (placed_machine name s) (placed_machines name ss)

-- the machine of a slot, or none, hands out its first buffer: an idle one stays as it is
pub taken_machine : (s : SlotState) → machine_in (record s { machine = option_map taken_out s.machine }) ≡ taken_out (machine_in s)
taken_machine s = go s.machine
  where
    go : (o : Option PlainRdp) → unwrap_or (option_map taken_out o) idle ≡ taken_out (unwrap_or o idle)
    go None = refl
    go (Some r) = refl

-- another slot in a place that holds the same buffers
same_flat : {X Y : Type 0} → (f : X → List Y) (xs : List X) (k : ℕ) (x d : X) → f x ≡ f (get_or xs k d) → flat_map f (slice_set xs k x) ≡ flat_map f xs
same_flat f [] k x d e = refl
same_flat {X} {Y} f (y ∷ ys) zero x d e = flat_map-cons f x ys ∙ (ap (λ (l : List Y). l ++ flat_map f ys) e ∙ sym (flat_map-cons f y ys))
same_flat {X} {Y} f (y ∷ ys) (suc k) x d e = flat_map-cons f y (slice_set ys k x) ∙ (ap (λ (l : List Y). f y ++ l) (same_flat f ys k x d e) ∙ sym (flat_map-cons f y ys))

pub held_terms : (p : PlainPorts) (seat : Seat) (t : Terms) → held (with_terms p seat t) ≡ held p
held_terms p seat t = ap pictures (same_flat slot_buffers p.slots (place_of seat) (record (state_at p seat) { terms = t }) untouched refl)
