-- the packets that wait for room, counted: at all slots, and at those of an application
use Rattle.std.specs.Prelude.{Bool, None, Option, Some, cond, count_by, false, get_or, is_some, slice_set, true}
use Rattle.std.specs.Option.{option_map, option_to_list}
use Rattle.std.proofs.Common.{◌≡◌, ℕ, ◌+◌, ◌<◌, ◌≤◌, nat_lt, List, [], ◌∷◌, length, map, take, drop, arith, ap, ap₂, refl, sym, ◌∙◌}
use Rattle.std.proofs.lemmas.Bool.{ltb-false, ltb-true}
use Rattle.std.proofs.lemmas.List.{drop-drop, drop-map, drop_all, get_or_past, take-map}
use Rattle.std.proofs.lemmas.List.Sums.{sum_by-cons, sum_by-set, sum_by-take-drop}
use Rattle.csp_arena.specs.Cells.{RegionName}
use Rattle.csp_base.specs.Seat.{seat}
use Rattle.csp_base.specs.declared.limits.TheConstants.{ALL_SLOTS, MAX_APPS, SLOTS}
use Rattle.csp_base.specs.declared.seat.Seat.{Seat}
use Rattle.csp_buffer.specs.PlainBuffer.{PlainBuffer}
use Rattle.csp_conn.specs.PlainConns.{place_of}
use Rattle.csp_ports.proofs.Slots.{placed_state, same_map}
use Rattle.csp_ports.proofs.Wishing.{weighs_after, weighs_at}
use Rattle.csp_ports.specs.PlainPorts.{PlainPorts, has_stalled, stalled_at, stalls, stalls_of, state_at, untouched, with_stalled}
use Rattle.csp_ports.specs.declared.terms.SlotState.{SlotState}
use Rattle.csp_rdp.specs.Placed.{placed_buffer}

-- a packet that waits, or none, as what it counts
abbrev pub one_in : SlotState → ℕ
one_in s = cond (has_stalled s) 1 0

is_none : (o : Option PlainBuffer) → ◌≡◌ {A = ℕ} (cond (is_some o) 1 0) 0 → o ≡ None
is_none None e = refl
is_none (Some b) e = absurd (omega (arith, e))

-- ---- all, from those of the applications

block : (n k : ℕ) (ss : List SlotState) → k ≡ n + 4 → stalls (take 4 (drop n ss)) + stalls (drop k ss) ≡ stalls (drop n ss)
block n k ss e = rw (e, ← drop-drop 4 n ss) (sum_by-take-drop one_in (drop n ss) 4)

-- where no application has more than one that waits, no more wait than there may be applications
pub stalls_few : (ss : List SlotState) → length ss ≡ ALL_SLOTS → ((app : ℕ) → stalls_of app ss ≤ 1) → stalls ss ≤ MAX_APPS
stalls_few ss all one =
    omega (arith, one 0, one 1, one 2, one 3, block 0 4 ss refl, block 4 8 ss refl, block 8 12 ss refl, block 12 16 ss refl, ap stalls (drop_all 16 ss (omega (arith, all))))

-- ---- slots at which the same wait

-- it counts alone whether one waits
counted : (ss : List SlotState) → count_by (λ b. b) (map has_stalled ss) ≡ stalls ss
counted [] = refl
counted (s ∷ ss) = sum_by-cons (λ (b : Bool). cond b 1 0) (has_stalled s) (map has_stalled ss) ∙ (ap (λ (n : ℕ). one_in s + n) (counted ss) ∙ sym (sum_by-cons one_in s ss))

stalls_by : (ss ts : List SlotState) → map has_stalled ss ≡ map has_stalled ts → stalls ss ≡ stalls ts
stalls_by ss ts e = sym (counted ss) ∙ (ap (count_by (λ b. b)) e ∙ counted ts)

stalls_of_by : (app : ℕ) (ss ts : List SlotState) → map has_stalled ss ≡ map has_stalled ts → stalls_of app ss ≡ stalls_of app ts
stalls_of_by app ss ts e =
    let n = place_of (seat app 0) in
    stalls_by (take 4 (drop n ss)) (take 4 (drop n ts)) (sym (mapped n ss) ∙ (ap (λ (bs : List Bool). take 4 (drop n bs)) e ∙ mapped n ts))
  where
    mapped : (n : ℕ) (xs : List SlotState) → take 4 (drop n (map has_stalled xs)) ≡ map has_stalled (take 4 (drop n xs))
    mapped n xs = ap (take 4) (drop-map has_stalled n xs) ∙ take-map has_stalled 4 (drop n xs)

-- wherever the buffers lie
placed_bits : (n : RegionName) (ss : List SlotState) → map has_stalled (map (placed_state n) ss) ≡ map has_stalled ss
placed_bits n [] = refl
placed_bits n (s ∷ ss) = ap₂ (λ (b : Bool) (bs : List Bool). b ∷ bs) (go s.stalled) (placed_bits n ss)
  where
    go : (o : Option PlainBuffer) → is_some (option_map (placed_buffer n) o) ≡ is_some o
    go None = refl
    go (Some b) = refl

pub stalls_map : (n : RegionName) (ss : List SlotState) → stalls (map (placed_state n) ss) ≡ stalls ss
stalls_map n ss = stalls_by (map (placed_state n) ss) ss (placed_bits n ss)

pub stalls_of_map : (app : ℕ) (n : RegionName) (ss : List SlotState) → stalls_of app (map (placed_state n) ss) ≡ stalls_of app ss
stalls_of_map app n ss = stalls_of_by app (map (placed_state n) ss) ss (placed_bits n ss)

-- other terms, or another machine, of a slot
pub stalls_same : (app : ℕ) (ss : List SlotState) (k : ℕ) (s d : SlotState) → s.stalled ≡ (get_or ss k d).stalled → stalls_of app (slice_set ss k s) ≡ stalls_of app ss
stalls_same app ss k s d e = stalls_of_by app (slice_set ss k s) ss (same_map has_stalled ss k s d (ap (λ (o : Option PlainBuffer). is_some o) e))

-- ---- another packet in a place, or none

stalls_set : (ss : List SlotState) (k : ℕ) (s d : SlotState) → k < length ss → stalls (slice_set ss k s) + one_in (get_or ss k d) ≡ stalls ss + one_in s
stalls_set ss k s d there = sum_by-set one_in ss k s d there

pub stalls_at : (at : Seat) (ss : List SlotState) (s d : SlotState) → at.slot < SLOTS → place_of at < length ss → stalls_of at.app (slice_set ss (place_of at) s) + one_in (get_or ss (place_of at) d) ≡ stalls_of at.app ss + one_in s
stalls_at at ss s d h there = weighs_at one_in at ss s d h there

-- then no application has more than one, where the one that it is has none besides
pub alone_after : (at : Seat) (ss : List SlotState) (s d : SlotState) → at.slot < SLOTS → place_of at < length ss → ((app : ℕ) → stalls_of app ss ≤ 1) → stalls_of at.app ss + one_in s ≤ 1 + one_in (get_or ss (place_of at) d) → (app : ℕ) → stalls_of app (slice_set ss (place_of at) s) ≤ 1
alone_after at ss s d h there one more app = omega (arith, weighs_after one_in 1 at ss (λ b. 0) s d h there (λ b. omega (arith, one b)) (omega (arith, more)) app)

-- ---- where none of an application's wait, none does at its slots

pub none_in : (at : Seat) (ss : List SlotState) (d : SlotState) → at.slot < SLOTS → place_of at < length ss → stalls_of at.app ss ≡ 0 → (get_or ss (place_of at) d).stalled ≡ None
none_in at ss d h there none = is_none (get_or ss (place_of at) d).stalled (omega (arith, none, stalls_at at ss untouched d h there))

pub none_stalled : (p : PlainPorts) (seat : Seat) → seat.slot < SLOTS → stalls_of seat.app p.slots ≡ 0 → stalled_at p seat ≡ None
none_stalled p seat h none = go (nat_lt (place_of seat) (length p.slots)) refl
  where
    go : (b : Bool) → nat_lt (place_of seat) (length p.slots) ≡ b → stalled_at p seat ≡ None
    go true e = none_in seat p.slots untouched h (ltb-true (place_of seat) (length p.slots) e) none
    go false e = ap (λ (s : SlotState). s.stalled) (get_or_past p.slots (place_of seat) untouched (ltb-false (place_of seat) (length p.slots) e))

-- ---- a packet is taken out

one_list : (o : Option PlainBuffer) → length (option_to_list o) ≡ cond (is_some o) 1 0
one_list None = refl
one_list (Some b) = refl

pub stalls_less : (p : PlainPorts) (seat : Seat) → place_of seat < length p.slots → stalls (with_stalled p seat None).slots + length (option_to_list (stalled_at p seat)) ≡ stalls p.slots
stalls_less p seat there = omega (arith, one_list (stalled_at p seat), stalls_set p.slots (place_of seat) (record (state_at p seat) { stalled = None }) untouched there)
