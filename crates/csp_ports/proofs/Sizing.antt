-- how many buffers ports hold
use Rattle.std.specs.Prelude.{IfSome, None, Option, Some, get_or, unwrap_or}
use Rattle.std.specs.Option.{option_map, option_to_list}
use Rattle.std.proofs.Common.{◌≡◌, ℕ, ◌+◌, ◌<◌, ◌≤◌, [], length, arith, ap, refl, sym, ◌∙◌}
use Rattle.std.proofs.lemmas.List.{length-map}
use Rattle.csp_conn.specs.PlainConns.{place_of}
use Rattle.csp_ports.specs.Came.{pictures}
use Rattle.csp_ports.specs.Held.{held}
use Rattle.csp_ports.specs.PlainPorts.{PlainPorts, PortsAt, machine_at, machine_in, stalled_at, with_machine_or, with_stalled}
use Rattle.csp_ports.specs.declared.terms.SlotState.{SlotState}
use Rattle.csp_rdp.specs.Holding.{rdp_buffers, rdp_numbers}
use Rattle.csp_rdp.specs.Machine.{PlainRdp, idle}
use Rattle.csp_rdp.specs.Placed.{placed}
use Rattle.csp_arena.specs.Cells.{RegionName}
use Rattle.csp_deck.specs.Keeping.{PlainPile}
use Rattle.csp_deck.specs.Regions.{nowhere}
use Rattle.csp_ports.proofs.Keeping.{machine_in_place, machine_set}
use Rattle.csp_ports.proofs.Slots.{placed_state}
use Rattle.csp_ports.proofs.Weighing.{long, machine_among, machine_tallied, machine_tally, waiting_tallied}
use Rattle.csp_rdp.proofs.Public.{placed-rdp-numbers}
use Rattle.csp_ports.specs.Kept.{ArePorts, IsRoomy, plain_ports, ports_at}
use Rattle.csp_ports.specs.declared.ports.Ports.TheInside.{Inside}
use Rattle.std.specs.Vec.{with_item}
use Rattle.csp_base.specs.declared.seat.Seat.{Seat}

-- another machine in the place of a slot's
machine_size : (p : PlainPorts) (seat : Seat) (m : Option PlainRdp) → place_of seat < length p.slots → length (held (with_machine_or p seat m)) + length (rdp_numbers (machine_at p seat)) ≡ length (held p) + length (rdp_numbers (unwrap_or m idle))
machine_size p seat m there = omega (arith, machine_tallied None p seat m there, long (held p), long (held (with_machine_or p seat m)))

-- what a machine holds is among what is held
machine_part : (p : PlainPorts) (seat : Seat) → place_of seat < length p.slots → length (rdp_numbers (machine_at p seat)) ≤ length (held p)
machine_part p seat there = omega (arith, machine_among None p seat there, long (held p))

-- where buffers lie is not in their number
placed_count : (n : RegionName) (r : PlainRdp) → length (rdp_numbers (placed n r)) ≡ length (rdp_numbers r)
placed_count n r = ap length (placed-rdp-numbers n r)

placed_some : (o : Option PlainRdp) → length (rdp_numbers (unwrap_or (option_map (placed nowhere) o) idle)) ≡ length (rdp_numbers (unwrap_or o idle))
placed_some None = refl
placed_some (Some r) = placed_count nowhere r

-- there are as many slots as contracts see
seen_count : (p : Inside) → ArePorts p → length (plain_ports p).slots ≡ 16
seen_count p a = length-map p.slots.items (placed_state nowhere) ∙ a.slots

-- the machine of a place holds as many as contracts see
old_count : (p : Inside) (seat : Seat) (place : ℕ) (s : SlotState) → place ≡ place_of seat → place < 16 → ArePorts p → s ≡ get_or p.slots.items place s → length (rdp_numbers (machine_in s)) ≡ length (rdp_numbers (machine_at (plain_ports p) seat))
old_count p seat place s e there a value =
    sym (placed_some s.machine) ∙ ap (λ (o : Option PlainRdp). length (rdp_numbers (unwrap_or o idle))) (machine_in_place p (ports_at p) seat place s refl e there a value)

-- what a machine holds is among what is held
pub part_in : (p : Inside) (seat : Seat) (place : ℕ) (s : SlotState) → place ≡ place_of seat → place < 16 → ArePorts p → s ≡ get_or p.slots.items place s → length (rdp_numbers (machine_in s)) ≤ length (held (plain_ports p))
part_in p seat place s e there a value =
    omega (arith, machine_part (plain_ports p) seat (omega (arith, seen_count p a, e, there)), old_count p seat place s e there a value)

pub part_of : (p : Inside) (seat : Seat) (place : ℕ) (s : SlotState) (r : PlainRdp) → place ≡ place_of seat → place < 16 → ArePorts p → s ≡ get_or p.slots.items place s → Some r ≡ s.machine → length (rdp_numbers r) ≤ length (held (plain_ports p))
part_of p seat place s r e there a value some =
    omega (arith, part_in p seat place s e there a value, ap (λ (o : Option PlainRdp). length (rdp_numbers (unwrap_or o idle))) some)

-- another machine in its place, or none
pub size_in : (p : Inside) (seat : Seat) (place : ℕ) (s : SlotState) (o : Option PlainRdp) → place ≡ place_of seat → place < 16 → ArePorts p → s ≡ get_or p.slots.items place s
    → length (held (plain_ports (record p { slots = with_item p.slots place (record s { machine = o }) }))) + length (rdp_numbers (machine_in s)) ≡ length (held (plain_ports p)) + length (rdp_numbers (unwrap_or o idle))
size_in p seat place s o e there a value =
    let set = ap (λ (x : PortsAt). length (held x.ports)) (machine_set p seat place s o e there a value) in
    omega (arith, set, old_count p seat place s e there a value, machine_size (plain_ports p) seat (option_map (placed nowhere) o) (omega (arith, seen_count p a, e, there)), placed_some o)

-- and the trash has room for all that is held then
pub roomy_in : (m n : ℕ) (p : Inside) (seat : Seat) (place : ℕ) (s : SlotState) (o : Option PlainRdp) (before after : PlainPile) → place ≡ place_of seat → place < 16 → ArePorts p → s ≡ get_or p.slots.items place s → IsRoomy m (ports_at p) before → after.region ≡ before.region → after.room ≡ before.room
    → length after.contents + length (rdp_numbers (unwrap_or o idle)) + n ≤ length before.contents + length (rdp_numbers (machine_in s)) + m → IsRoomy n (ports_at (record p { slots = with_item p.slots place (record s { machine = o }) })) after
roomy_in m n p seat place s o before after e there a value h region room more = record {
  region = region ∙ h.region;
  room = omega (arith, h.room, room, more, size_in p seat place s o e there a value);
}

-- a machine that holds nothing, or none
pub none_held : (o : Option PlainRdp) → IfSome o (λ r. rdp_numbers r ≡ []) → length (rdp_numbers (unwrap_or o idle)) ≡ 0
none_held None h = refl
none_held (Some r) h = ap length h

-- all that a machine held has joined
pub joined_count : (r : PlainRdp) → length (pictures (rdp_buffers (placed nowhere r))) ≡ length (rdp_numbers r)
joined_count r = omega (arith, long (pictures (rdp_buffers (placed nowhere r))), machine_tally None (placed nowhere r), placed_count nowhere r)

-- the packet that waits in a place goes
pub stalled_size : (p : PlainPorts) (seat : Seat) → place_of seat < length p.slots → length (held (with_stalled p seat None)) + length (option_to_list (stalled_at p seat)) ≡ length (held p)
stalled_size p seat there =
    omega (
      arith,
      waiting_tallied None p seat None there,
      long (held p),
      long (held (with_stalled p seat None)),
      long (pictures (option_to_list (stalled_at p seat))),
      length-map (option_to_list (stalled_at p seat)) (λ b. b.picture),
    )
