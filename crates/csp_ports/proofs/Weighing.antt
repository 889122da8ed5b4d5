-- buffers are counted: how often one number is among theirs, or how many they are
use Rattle.std.specs.Prelude.{None, Option, Some, get_or, slice_set, sum_by, unwrap_or}
use Rattle.std.specs.List.{flat_map}
use Rattle.std.specs.Option.{option_to_list}
use Rattle.std.proofs.Common.{◌≡◌, ℕ, zero, suc, ◌+◌, ◌<◌, ◌≤◌, List, [], ◌∷◌, ◌++◌, length, map, refl, arith, ap, sym, ◌∙◌}
use Rattle.std.proofs.lemmas.List.{length-append, length-map, map-append}
use Rattle.std.proofs.lemmas.List.Concat.{flat_map-cons}
use Rattle.std.proofs.lemmas.List.Sums.{get_or-le-sum_by, sum_by-cons, sum_by-set}
use Rattle.csp_base.specs.declared.seat.Seat.{Seat}
use Rattle.csp_buffer.specs.Content.{Content}
use Rattle.csp_buffer.specs.PlainBuffer.{PlainBuffer}
use Rattle.csp_conn.specs.PlainConns.{place_of}
use Rattle.csp_deck.specs.Keeping.{numbers_of}
use Rattle.csp_deck.specs.Step.{times}
use Rattle.csp_deck.proofs.Public.{times-append}
use Rattle.csp_ports.proofs.Holding.{pictured}
use Rattle.csp_ports.specs.Came.{pictures}
use Rattle.csp_ports.specs.Held.{held, slot_buffers}
use Rattle.csp_ports.specs.PlainPorts.{PlainPorts, machine_at, machine_in, stalled_at, state_at, untouched, with_machine_or, with_stalled}
use Rattle.csp_ports.specs.declared.terms.SlotState.{SlotState}
use Rattle.csp_rdp.specs.Balance.{Balanced}
use Rattle.csp_rdp.specs.Holding.{rdp_buffers, rdp_numbers, rested, unneeded}
use Rattle.csp_rdp.specs.Machine.{PlainRdp, idle}
use Rattle.csp_rdp.proofs.Public.{parted-balanced, numbers-buffers}

abbrev pub tally : Option ℕ → List ℕ → ℕ
tally (Some k) ns = times k ns
tally None ns = length ns

pub tally_append : (o : Option ℕ) (ms ns : List ℕ) → tally o (ms ++ ns) ≡ tally o ms + tally o ns
tally_append (Some k) ms ns = times-append k ms ns
tally_append None ms ns = length-append ms ns

pub tally_same : (o : Option ℕ) (ms ns : List ℕ) → Balanced ms ns → tally o ms ≡ tally o ns
tally_same (Some k) ms ns h = h.numbers k
tally_same None ms ns h = h.count

pub tally_none : (o : Option ℕ) → tally o [] ≡ 0
tally_none (Some k) = refl
tally_none None = refl

-- of numbers, of what buffers show, and of buffers
abbrev pub weigh : Option ℕ → List Content → ℕ
weigh o cs = tally o (numbers_of cs)

pub weigh_append : (o : Option ℕ) (bs cs : List Content) → weigh o (bs ++ cs) ≡ weigh o bs + weigh o cs
weigh_append o bs cs = ap (tally o) (map-append (λ c. c.number) bs cs) ∙ tally_append o (numbers_of bs) (numbers_of cs)

pub long : (cs : List Content) → length (numbers_of cs) ≡ length cs
long cs = length-map cs (λ c. c.number)

abbrev pub weight : Option ℕ → List PlainBuffer → ℕ
weight o bs = weigh o (pictures bs)

weight_append : (o : Option ℕ) (bs cs : List PlainBuffer) → weight o (bs ++ cs) ≡ weight o bs + weight o cs
weight_append o bs cs = ap (weigh o) (map-append (λ b. b.picture) bs cs) ∙ weigh_append o (pictures bs) (pictures cs)

weight_all : {X : Type 0} (o : Option ℕ) (f : X → List PlainBuffer) (xs : List X) → weight o (flat_map f xs) ≡ sum_by (λ x. weight o (f x)) xs
weight_all o f [] = tally_none o
weight_all o f (x ∷ xs) =
    ap (weight o) (flat_map-cons f x xs)
    ∙ (weight_append o (f x) (flat_map f xs)
    ∙ (ap (λ (n : ℕ). weight o (f x) + n) (weight_all o f xs)
    ∙ sym (sum_by-cons (λ x. weight o (f x)) x xs)))

-- of a machine the numbers are those that its windows hold
pub machine_tally : (o : Option ℕ) (r : PlainRdp) → weight o (rdp_buffers r) ≡ tally o (rdp_numbers r)
machine_tally o r = ap (tally o) (pictured (rdp_buffers r) ∙ sym (numbers-buffers r))

-- of a slot those of the packet that waits are counted besides
slot_weight : (o : Option ℕ) (s : SlotState) → weight o (slot_buffers s) ≡ weight o (option_to_list s.stalled) + tally o (rdp_numbers (machine_in s))
slot_weight o s = weight_append o (option_to_list s.stalled) (rdp_buffers (machine_in s)) ∙ ap (λ (n : ℕ). weight o (option_to_list s.stalled) + n) (machine_tally o (machine_in s))

held_weight : (o : Option ℕ) (p : PlainPorts) → weigh o (held p) ≡ sum_by (λ s. weight o (slot_buffers s)) p.slots
held_weight o p = weight_all o slot_buffers p.slots

-- what is let go and what is left are all that it held
pub parted_tally : (o : Option ℕ) (r : PlainRdp) → weight o (unneeded r) + tally o (rdp_numbers (rested r)) ≡ tally o (rdp_numbers r)
parted_tally o r =
    ap (λ (n : ℕ). n + tally o (rdp_numbers (rested r))) (ap (tally o) (pictured (unneeded r)))
    ∙ (sym (tally_append o (map (λ b. b.picture.number) (unneeded r)) (rdp_numbers (rested r)))
    ∙ tally_same o (map (λ b. b.picture.number) (unneeded r) ++ rdp_numbers (rested r)) (rdp_numbers r) (parted-balanced r))

-- another slot in a place
slot_tallied : (o : Option ℕ) (p : PlainPorts) (seat : Seat) (s : SlotState) → place_of seat < length p.slots → weigh o (held (record p { slots = slice_set p.slots (place_of seat) s })) + weight o (slot_buffers (state_at p seat)) ≡ weigh o (held p) + weight o (slot_buffers s)
slot_tallied o p seat s there =
    omega (arith, held_weight o p, held_weight o (record p { slots = slice_set p.slots (place_of seat) s }), sum_by-set (λ t. weight o (slot_buffers t)) p.slots (place_of seat) s untouched there)

pub machine_tallied : (o : Option ℕ) (p : PlainPorts) (seat : Seat) (m : Option PlainRdp) → place_of seat < length p.slots → weigh o (held (with_machine_or p seat m)) + tally o (rdp_numbers (machine_at p seat)) ≡ weigh o (held p) + tally o (rdp_numbers (unwrap_or m idle))
machine_tallied o p seat m there =
    let s : SlotState = record (state_at p seat) { machine = m } in
    omega (arith, slot_tallied o p seat s there, slot_weight o s, slot_weight o (state_at p seat))

-- and another packet that waits, or none
pub waiting_tallied : (o : Option ℕ) (p : PlainPorts) (seat : Seat) (v : Option PlainBuffer) → place_of seat < length p.slots → weigh o (held (with_stalled p seat v)) + weight o (option_to_list (stalled_at p seat)) ≡ weigh o (held p) + weight o (option_to_list v)
waiting_tallied o p seat v there =
    let s : SlotState = record (state_at p seat) { stalled = v } in
    omega (arith, slot_tallied o p seat s there, slot_weight o s, slot_weight o (state_at p seat))

-- what a machine holds is among what is held
pub machine_among : (o : Option ℕ) (p : PlainPorts) (seat : Seat) → place_of seat < length p.slots → tally o (rdp_numbers (machine_at p seat)) ≤ weigh o (held p)
machine_among o p seat there =
    omega (arith, held_weight o p, slot_weight o (state_at p seat), get_or-le-sum_by (λ s. weight o (slot_buffers s)) p.slots (place_of seat) untouched there)

-- another element in a place; where the place is not there the sum stays if both weigh the same
sum_set : {X : Type 0} (f : X → ℕ) (xs : List X) (i : ℕ) (y d : X) → (get_or xs i d ≡ d → f d ≡ f y) → sum_by f (slice_set xs i y) + f (get_or xs i d) ≡ sum_by f xs + f y
sum_set f [] i y d same = ap (λ (n : ℕ). 0 + n) (same refl)
sum_set f (x ∷ xs) zero y d same = omega (arith, sum_by-cons f y xs, sum_by-cons f x xs)
sum_set f (x ∷ xs) (suc i) y d same = omega (arith, sum_by-cons f x (slice_set xs i y), sum_by-cons f x xs, sum_set f xs i y d same)

-- another machine that holds nothing, or none, in a place that may not be there
pub machine_gone : (o : Option ℕ) (p : PlainPorts) (seat : Seat) (m : Option PlainRdp) → rdp_numbers (unwrap_or m idle) ≡ [] → weigh o (held (with_machine_or p seat m)) + weight o (rdp_buffers (machine_at p seat)) ≡ weigh o (held p)
machine_gone o p seat m empty =
    let s : SlotState = record (state_at p seat) { machine = m } in
    let nothing : tally o (rdp_numbers (unwrap_or m idle)) ≡ tally o [] = ap (tally o) empty in
    omega (
      arith,
      held_weight o p,
      held_weight o (with_machine_or p seat m),
      tally_none o,
      nothing,
      slot_weight o s,
      slot_weight o (state_at p seat),
      machine_tally o (machine_at p seat),
      sum_set (λ t. weight o (slot_buffers t)) p.slots (place_of seat) s untouched
          (λ e. omega (arith, slot_weight o untouched, slot_weight o s, nothing, ap (λ (t : SlotState). weight o (option_to_list t.stalled)) e)),
    )
