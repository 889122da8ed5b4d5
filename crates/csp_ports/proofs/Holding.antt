-- the buffers that ports hold: of each slot the packet that waits, then those of its machine
use Rattle.std.proofs.Common.{◌≡◌, ◌<◌, ◌≤◌, ◌+◌, ◌*◌, ◌||◌, ℕ, zero, suc, Bool, true, false, not, cond, nat_lt, List, [], ◌∷◌, ◌++◌, length, map, take, drop, get_or, replicate, Option, Some, None, MatchOption, IfSome, IsTrue, ◌↔◌, arith, ap, ap₂, sym, ◌∙◌, refl}
use Rattle.std.specs.Prelude.{is_some, unwrap_or}
use Rattle.std.specs.List.{All, filter, flat_map, list_any, slice_set}
use Rattle.std.specs.Option.{option_map, option_to_list}
use Rattle.std.proofs.lemmas.Bool.{lt-ltb, ltb-true, ltb-false}
use Rattle.std.proofs.lemmas.Grind.{flat_map-append}
use Rattle.std.proofs.lemmas.List.{length-append, length-map, map-append}
use Rattle.std.proofs.lemmas.List.Concat.{flat_map-cons}
use Rattle.std.proofs.lemmas.List.Elements.{All-cons, All-head, All-tail}
use Rattle.std.proofs.lemmas.List.Sums.{sum_by-cons}
use Rattle.csp_arena.specs.Cells.{RegionName}
use Rattle.csp_buffer.specs.PlainBuffer.{PlainBuffer}
use Rattle.csp_base.specs.declared.limits.TheConstants.{MAX_APPS, ALL_SLOTS}
use Rattle.csp_deck.specs.Keeping.{numbers_of}
use Rattle.csp_deck.specs.Regions.{nowhere}
use Rattle.csp_deck.specs.Step.{times}
use Rattle.csp_deck.proofs.Public.{times-append}
use Rattle.csp_ports.specs.Came.{pictures}
use Rattle.csp_ports.specs.Held.{first_out, handed_out, held, slot_buffers, without_held}
use Rattle.csp_ports.specs.Kept.{IsHoused, IsKept, IsWaiting, wished, wishes}
use Rattle.csp_ports.specs.PlainPorts.{PortsAt, fresh, has_stalled, machine_in, stalls}
use Rattle.csp_ports.specs.declared.terms.SlotState.{SlotState}
use Rattle.csp_ports.proofs.Letting.{pictures_placed}
use Rattle.csp_ports.proofs.Wishing.{weighs_none}
use Rattle.csp_ports.proofs.Slots.{placed_machine, placed_state}
use Rattle.csp_ports.specs.declared.held.TheConstants.{MAX_HELD}
use Rattle.csp_rdp.specs.Holding.{loose_buffers, rdp_buffers, rdp_numbers, taken_out, taken_out_of, unneeded, useless_buffers}
use Rattle.csp_rdp.specs.Machine.{PlainRdp, idle}
use Rattle.csp_rdp.specs.Placed.{placed, placed_buffer}
use Rattle.csp_rdp.specs.Regions.{AreIn}
use Rattle.csp_rdp.specs.declared.answers.State.{State}
use Rattle.csp_rdp.specs.declared.answers.State.TheVariants.{Closed, SynSent, SynRcvd, Open, CloseWait}
use Rattle.csp_rdp.proofs.Public.{whole-out, numbers-buffers, placed-buffers, placed-out, in-buffers, in-taken-out}
use Rattle.csp_rdp_window.specs.Receiving.{Kept, PlainRecv, recv_numbers, without_first as kept_without}
use Rattle.csp_rdp_window.specs.Sending.{is_loose, send_numbers}
use Rattle.csp_rdp_window.specs.declared.pending.Pending.{Pending}
use Rattle.csp_rdp_window.specs.declared.receive.TheConstants.{RECEIVE_PLACES}
use Rattle.csp_rdp_window.specs.declared.send.TheConstants.{SEND_PLACES}
use Rattle.csp_rdp_window.proofs.Public.{set-item, take-all, take-item, whole-item}
use Rattle.csp_socket.specs.Bound.{Bound, bound_none, owner_of}
use Rattle.csp_socket.specs.declared.sockets.TheConstants.{BINDABLE_PORTS}

-- ---- the buffers that are held, and those in which they are seen

-- those of a slot are seen in another region
slot-placed : (n : RegionName) (s : SlotState) → slot_buffers (placed_state n s) ≡ map (placed_buffer n) (slot_buffers s)
slot-placed n s =
    ap₂ (λ bs cs. bs ++ cs) (waits s.stalled) (ap rdp_buffers (placed_machine n s) ∙ placed-buffers n (machine_in s))
    ∙ sym (map-append (placed_buffer n) (option_to_list s.stalled) (rdp_buffers (machine_in s)))
  where
    waits : (o : Option PlainBuffer) → option_to_list (option_map (placed_buffer n) o) ≡ map (placed_buffer n) (option_to_list o)
    waits None = refl
    waits (Some b) = refl

-- and so are those of all
slots-placed : (n : RegionName) (ss : List SlotState) → flat_map slot_buffers (map (placed_state n) ss) ≡ map (placed_buffer n) (flat_map slot_buffers ss)
slots-placed n [] = refl
slots-placed n (s ∷ ss) =
    flat_map-cons slot_buffers (placed_state n s) (map (placed_state n) ss)
    ∙ ap₂ (λ bs cs. bs ++ cs) (slot-placed n s) (slots-placed n ss)
    ∙ sym (ap (map (placed_buffer n)) (flat_map-cons slot_buffers s ss) ∙ map-append (placed_buffer n) (slot_buffers s) (flat_map slot_buffers ss))

pub held-seen : (ss : List SlotState) → pictures (flat_map slot_buffers (map (placed_state nowhere) ss)) ≡ pictures (flat_map slot_buffers ss)
held-seen ss = ap pictures (slots-placed nowhere ss) ∙ pictures_placed nowhere (flat_map slot_buffers ss)

-- ---- the slots, one by one

pub nil-left : {A : Type 0} (xs ys : List A) → xs ++ ys ≡ [] → xs ≡ []
nil-left [] ys none = refl
nil-left (x ∷ xs) ys none = cc

pub nil-right : {A : Type 0} (xs ys : List A) → xs ++ ys ≡ [] → ys ≡ []
nil-right [] ys none = none
nil-right (x ∷ xs) ys none = cc

-- a slot that has handed out its first buffer
abbrev pub emptied_slot : SlotState → SlotState
emptied_slot s = handed_out s.stalled s

-- slots round one of them
around : (front back : List SlotState) (r : SlotState) → flat_map slot_buffers front ≡ [] →
    flat_map slot_buffers (front ++ r ∷ back) ≡ slot_buffers r ++ flat_map slot_buffers back
around front back r none = flat_map-append slot_buffers front (r ∷ back) ∙ ap (λ l. l ++ flat_map slot_buffers (r ∷ back)) none ∙ flat_map-cons slot_buffers r back

without-around : (front back : List SlotState) (r : SlotState) (b : PlainBuffer) (bs : List PlainBuffer) → flat_map slot_buffers front ≡ [] → slot_buffers r ≡ b ∷ bs →
    without_held (front ++ r ∷ back) ≡ front ++ emptied_slot r ∷ back
without-around [] back r b bs none some = ap (λ l. first_out l r back (without_held back)) some
without-around (f ∷ front) back r b bs none some =
    let all = sym (flat_map-cons slot_buffers f front) ∙ none in
    ap (λ l. first_out l f (front ++ r ∷ back) (without_held (front ++ r ∷ back))) (nil-left (slot_buffers f) (flat_map slot_buffers front) all)
    ∙ ap (λ l. f ∷ l) (without-around front back r b bs (nil-right (slot_buffers f) (flat_map slot_buffers front) all) some)

-- none so far, and this one hands out its first
pub slot-taken : (rs : List SlotState) (i : ℕ) (r after : SlotState) (b : PlainBuffer) → i < length rs → r ≡ get_or rs i r → flat_map slot_buffers (take i rs) ≡ [] →
    slot_buffers r ≡ b ∷ slot_buffers after → after ≡ emptied_slot r →
    (flat_map slot_buffers rs ≡ b ∷ flat_map slot_buffers (slice_set rs i after)) × (slice_set rs i after ≡ without_held rs)
slot-taken rs i r after b h e none some is =
    let front = take i rs in
    let back = drop (suc i) rs in
    let whole = whole-item rs i r h e in
    let set = set-item rs i after h in (
      ap (flat_map slot_buffers) whole ∙ around front back r none ∙ ap (λ l. l ++ flat_map slot_buffers back) some
          ∙ ap (λ l. b ∷ l) (sym (ap (flat_map slot_buffers) set ∙ around front back after none)),
      set ∙ ap (λ x. front ++ x ∷ back) is ∙ sym (ap without_held whole ∙ without-around front back r b (slot_buffers after) none some),
    )

-- none so far, and this one hands out none
pub slot-passed : (rs : List SlotState) (i : ℕ) (r : SlotState) → i < length rs → r ≡ get_or rs i r → flat_map slot_buffers (take i rs) ≡ [] →
    slot_buffers r ≡ [] → flat_map slot_buffers (take (i + 1) rs) ≡ []
slot-passed rs i r h e none empty =
    ap (flat_map slot_buffers) (take-item rs i r h e) ∙ around (take i rs) [] r none ∙ ap (λ l. l ++ []) empty

pub slots-whole : (rs : List SlotState) (i : ℕ) → length rs ≤ i → i ≤ length rs → flat_map slot_buffers (take i rs) ≡ [] → flat_map slot_buffers rs ≡ []
slots-whole rs i a b none = ap (flat_map slot_buffers) (sym (take-all rs i a b)) ∙ none

-- the last slot holds none where none does, and no other does
pub last-empty : (all front : List SlotState) (r : SlotState) → flat_map slot_buffers all ≡ [] → all ≡ front ++ r ∷ [] → (slot_buffers r ≡ []) × (flat_map slot_buffers front ≡ [])
last-empty all front r none is =
    let parts = sym (ap (flat_map slot_buffers) is ∙ flat_map-append slot_buffers front (r ∷ [])) ∙ none in
    let last = sym (flat_map-cons slot_buffers r []) ∙ nil-right (flat_map slot_buffers front) (flat_map slot_buffers (r ∷ [])) parts in
    (nil-left (slot_buffers r) [] last, nil-left (flat_map slot_buffers front) (flat_map slot_buffers (r ∷ [])) parts)

-- ---- of the region, and as few as before

-- where no slot holds a buffer nothing is taken out
without-none : (rs : List SlotState) → flat_map slot_buffers rs ≡ [] → without_held rs ≡ rs
without-none [] none = refl
without-none (r ∷ rs) none =
    let all = sym (flat_map-cons slot_buffers r rs) ∙ none in
    ap (λ l. first_out l r rs (without_held rs)) (nil-left (slot_buffers r) (flat_map slot_buffers rs) all)
    ∙ ap (λ l. r ∷ l) (without-none rs (nil-right (slot_buffers r) (flat_map slot_buffers rs) all))

-- what taking the first buffer out of slots says
abbrev pub Takes : List SlotState → List SlotState → Option PlainBuffer → Type 0
Takes rs after o = MatchOption o ((flat_map slot_buffers rs ≡ []) × (after ≡ rs)) (λ b. (flat_map slot_buffers rs ≡ b ∷ flat_map slot_buffers after) × (after ≡ without_held rs))

pub taken-without : (rs after : List SlotState) (o : Option PlainBuffer) → Takes rs after o → after ≡ without_held rs
taken-without rs after None takes = takes.1 ∙ sym (without-none rs takes.0)
taken-without rs after (Some b) takes = takes.1

in-first : (name : RegionName) (bs cs : List PlainBuffer) (b : PlainBuffer) (ds : List PlainBuffer) → AreIn name bs → bs ++ cs ≡ b ∷ ds → (cs ≡ b ∷ ds → b.region ≡ name) → b.region ≡ name
in-first name [] cs b ds all first rest = rest first
in-first name (x ∷ bs) cs b ds all first rest = let same : x ≡ b = cc in sym (ap (λ y. y.region) same) ∙ all.0

-- where a slot has a machine, that is housed
abbrev pub AreHoused : RegionName → SlotState → Type 0
AreHoused name s = IfSome s.machine (IsHoused name)

pub idle-housed : (name : RegionName) → IsHoused name idle
idle-housed name = record { region = record { sending = tt; kept = tt }; whole = record { unopened = tt; ordered = tt }; rested = refl; few = omega arith }

pub machine-housed : (name : RegionName) (s : SlotState) → AreHoused name s → IsHoused name (machine_in s)
machine-housed name s h = go s.machine h
  where
    go : (o : Option PlainRdp) → IfSome o (IsHoused name) → IsHoused name (unwrap_or o idle)
    go None h = idle-housed name
    go (Some r) h = h

-- what a slot holds is of the region
kept-in : (name : RegionName) (s : SlotState) → IsKept name s → AreIn name (slot_buffers s)
kept-in name s h = go s.stalled h.waits
  where
    all : AreIn name (rdp_buffers (machine_in s))
    all = in-buffers name (machine_in s) (machine-housed name s h.housed).region

    go : (o : Option PlainBuffer) → IfSome o (IsWaiting name) → AreIn name (option_to_list o ++ rdp_buffers (machine_in s))
    go None w = all
    go (Some b) w = (w.region, all)

kept-first : (name : RegionName) (rs : List SlotState) (b : PlainBuffer) (bs : List PlainBuffer) → All (IsKept name) rs → flat_map slot_buffers rs ≡ b ∷ bs → b.region ≡ name
kept-first name [] b bs all first = cc
kept-first name (r ∷ rs) b bs all first =
    in-first name (slot_buffers r) (flat_map slot_buffers rs) b bs (kept-in name r (All-head (IsKept name) r rs all)) (sym (flat_map-cons slot_buffers r rs) ∙ first)
    (λ e. kept-first name rs b bs (All-tail (IsKept name) r rs all) e)

-- the first buffer that is seen is that of the first of a slot; where there is none nothing changes
pub taken-seen : (rs after : List SlotState) (o : Option PlainBuffer) (old new : PortsAt) → Takes rs after o → held old.ports ≡ pictures (flat_map slot_buffers rs) → held new.ports ≡ pictures (flat_map slot_buffers after) → (after ≡ rs → new ≡ old) →
    MatchOption o ((held old.ports ≡ []) × (new ≡ old)) (λ b. held old.ports ≡ b.picture ∷ held new.ports)
taken-seen rs after None old new takes before behind unchanged = (before ∙ ap pictures takes.0, unchanged takes.1)
taken-seen rs after (Some b) old new takes before behind unchanged = before ∙ ap pictures takes.0 ∙ ap (λ l. b.picture ∷ l) (sym behind)

-- slots without their first buffer, seen in another region
out-placed : (n : RegionName) (s : SlotState) (o : Option PlainBuffer) → handed_out (option_map (placed_buffer n) o) (placed_state n s) ≡ placed_state n (handed_out o s)
out-placed n s (Some b) = refl
out-placed n s None = ap (λ (m : Option PlainRdp). record (placed_state n s) { machine = m }) (same s.machine)
  where
    same : (o : Option PlainRdp) → option_map taken_out (option_map (placed n) o) ≡ option_map (placed n) (option_map taken_out o)
    same None = refl
    same (Some r) = ap Some (placed-out n r.send.packets r)

pub placed-without : (n : RegionName) (ss : List SlotState) → without_held (map (placed_state n) ss) ≡ map (placed_state n) (without_held ss)
placed-without n [] = refl
placed-without n (s ∷ ss) = ap (λ l. first_out l (placed_state n s) (map (placed_state n) ss) (without_held (map (placed_state n) ss))) (slot-placed n s) ∙ go (slot_buffers s) (placed-without n ss)
  where
    go : (bs : List PlainBuffer) → without_held (map (placed_state n) ss) ≡ map (placed_state n) (without_held ss) →
        first_out (map (placed_buffer n) bs) (placed_state n s) (map (placed_state n) ss) (without_held (map (placed_state n) ss)) ≡ map (placed_state n) (first_out bs s ss (without_held ss))
    go [] rest = ap (λ l. placed_state n s ∷ l) rest
    go (b ∷ bs) rest = ap (λ x. x ∷ map (placed_state n) ss) (out-placed n s s.stalled)

pub taken-region : (name : RegionName) (rs after : List SlotState) (o : Option PlainBuffer) → All (IsKept name) rs → Takes rs after o → IfSome o (λ b. b.region ≡ name)
taken-region name rs after None all takes = tt
taken-region name rs after (Some b) all takes = kept-first name rs b (flat_map slot_buffers after) all takes.0

-- a machine that needs all that it holds does so without its first buffer
loose-tail : (p : Pending) (ps : List Pending) → map (λ q. q.buffer) (filter is_loose (p ∷ ps)) ≡ [] → map (λ q. q.buffer) (filter is_loose ps) ≡ []
loose-tail p ps none = go p.needed none
  where
    go : (b : Bool) → map (λ q. q.buffer) (cond (not b) (p ∷ filter is_loose ps) (filter is_loose ps)) ≡ [] → map (λ q. q.buffer) (filter is_loose ps) ≡ []
    go true e = e
    go false e = cc

kept-out : (ks : List Kept) → map (λ k. k.buffer) ks ≡ [] → map (λ k. k.buffer) (kept_without ks) ≡ []
kept-out [] none = refl
kept-out (k ∷ ks) none = cc

useless-out : (s : State) (w : PlainRecv) → useless_buffers s w ≡ [] → useless_buffers s (record w { kept = kept_without w.kept }) ≡ []
useless-out Open w none = refl
useless-out Closed w none = kept-out w.kept none
useless-out SynSent w none = kept-out w.kept none
useless-out SynRcvd w none = kept-out w.kept none
useless-out CloseWait w none = kept-out w.kept none

rested-out : (ps : List Pending) (r : PlainRdp) → r.send.packets ≡ ps → unneeded r ≡ [] → unneeded (taken_out_of ps r) ≡ []
rested-out [] r is rested =
    ap (λ l. l ++ useless_buffers r.state (record r.recv { kept = kept_without r.recv.kept })) (nil-left (loose_buffers r.send) (useless_buffers r.state r.recv) rested)
    ∙ useless-out r.state r.recv (nil-right (loose_buffers r.send) (useless_buffers r.state r.recv) rested)
rested-out (p ∷ ps) r is rested =
    let loose = sym (ap (λ l. map (λ q. q.buffer) (filter is_loose l)) is) ∙ nil-left (loose_buffers r.send) (useless_buffers r.state r.recv) rested in
    ap (λ l. l ++ useless_buffers r.state r.recv) (loose-tail p ps loose) ∙ nil-right (loose_buffers r.send) (useless_buffers r.state r.recv) rested

-- and holds no more than before
kept-fewer : (ks : List Kept) → length (kept_without ks) ≤ length ks
kept-fewer [] = omega arith
kept-fewer (k ∷ ks) = omega arith

held-count : (r : PlainRdp) → length (rdp_numbers r) ≡ length r.send.packets + length r.recv.kept
held-count r =
    length-append (send_numbers r.send) (recv_numbers r.recv)
    ∙ ap₂ (λ m n. m + n) (length-map r.send.packets (λ p. p.buffer.picture.number)) (length-map r.recv.kept (λ k. k.buffer.picture.number))

fewer-out : (ps : List Pending) (r : PlainRdp) → r.send.packets ≡ ps → length (rdp_numbers (taken_out_of ps r)) ≤ length (rdp_numbers r)
fewer-out [] r is =
    let before = held-count r in
    let after = held-count (taken_out_of [] r) in
    let fewer = kept-fewer r.recv.kept in
    omega (arith, before, after, fewer)
fewer-out (p ∷ ps) r is =
    let before = held-count r in
    let after = held-count (taken_out_of (p ∷ ps) r) in
    let one : length r.send.packets ≡ suc (length ps) = ap length is in
    omega (arith, before, after, one)

housed-out : (name : RegionName) (r : PlainRdp) → IsHoused name r → IsHoused name (taken_out r)
housed-out name r housed =
    let few = housed.few in
    let fewer = fewer-out r.send.packets r refl in
    record {
      region = in-taken-out name r housed.region;
      whole = whole-out r.send.packets r housed.whole;
      rested = rested-out r.send.packets r refl housed.rested;
      few = omega (arith, few, fewer);
    }

slot-out : (name : RegionName) (s : SlotState) → IsKept name s → IsKept name (emptied_slot s)
slot-out name s h = waits s.stalled
  where
    machine : (o : Option PlainRdp) → IfSome o (IsHoused name) → IfSome (option_map taken_out o) (IsHoused name)
    machine None h = tt
    machine (Some r) h = housed-out name r h

    waits : (o : Option PlainBuffer) → IsKept name (handed_out o s)
    waits (Some b) = record { housed = h.housed; waits = tt }
    waits None = record { housed = machine s.machine h.housed; waits = h.waits }

pub slots-without : (name : RegionName) (ss : List SlotState) → All (IsKept name) ss → (All (IsKept name) (without_held ss)) × (length (without_held ss) ≡ length ss)
slots-without name [] all = (all, refl)
slots-without name (s ∷ ss) all =
    go (slot_buffers s) (All-head (IsKept name) s ss all) (All-tail (IsKept name) s ss all) (slots-without name ss (All-tail (IsKept name) s ss all))
  where
    go : (bs : List PlainBuffer) → IsKept name s → All (IsKept name) ss → (All (IsKept name) (without_held ss)) × (length (without_held ss) ≡ length ss) →
        (All (IsKept name) (first_out bs s ss (without_held ss))) × (length (first_out bs s ss (without_held ss)) ≡ suc (length ss))
    go [] head tail rest = (All-cons (IsKept name) s (without_held ss) head rest.0, ap suc rest.1)
    go (b ∷ bs) head tail rest = (All-cons (IsKept name) (emptied_slot s) ss (slot-out name s head) tail, refl)

-- no more packets wait than before
stalls-out : (s : SlotState) → cond (has_stalled (emptied_slot s)) 1 0 ≤ cond (has_stalled s) 1 0
stalls-out s = go s.stalled refl
  where
    go : (o : Option PlainBuffer) → s.stalled ≡ o → cond (has_stalled (handed_out o s)) 1 0 ≤ cond (is_some o) 1 0
    go (Some b) is = omega arith
    go None is = rw is (omega arith)

pub stalls-without : (n k : ℕ) (ss : List SlotState) → stalls (take n (drop k (without_held ss))) ≤ stalls (take n (drop k ss))
stalls-without n k [] = omega arith
stalls-without n k (s ∷ ss) = go (λ m j. stalls-without m j ss) n k (slot_buffers s)
  where
    bit : SlotState → ℕ
    bit t = cond (has_stalled t) 1 0

    go : ((m j : ℕ) → stalls (take m (drop j (without_held ss))) ≤ stalls (take m (drop j ss))) → (n k : ℕ) (bs : List PlainBuffer) → stalls (take n (drop k (first_out bs s ss (without_held ss)))) ≤ stalls (take n (drop k (s ∷ ss)))
    go rest zero zero bs = omega arith
    go rest (suc n) zero [] = omega (arith, sum_by-cons bit s (take n (without_held ss)), sum_by-cons bit s (take n ss), rest n 0)
    go rest (suc n) zero (b ∷ bs) = omega (arith, sum_by-cons bit (emptied_slot s) (take n ss), sum_by-cons bit s (take n ss), stalls-out s)
    go rest n (suc k) [] = rest n k
    go rest n (suc k) (b ∷ bs) = omega arith

-- the answers to come for slots that have handed out a buffer
terms-out : (s : SlotState) (o : Option PlainBuffer) → (handed_out o s).terms ≡ s.terms
terms-out s (Some b) = refl
terms-out s None = refl

pub terms-without : (ss : List SlotState) → map (λ s. s.terms) (without_held ss) ≡ map (λ s. s.terms) ss
terms-without [] = refl
terms-without (s ∷ ss) = go (slot_buffers s) (terms-without ss)
  where
    go : (bs : List PlainBuffer) → map (λ s. s.terms) (without_held ss) ≡ map (λ s. s.terms) ss → map (λ s. s.terms) (first_out bs s ss (without_held ss)) ≡ s.terms ∷ map (λ s. s.terms) ss
    go [] rest = ap (λ l. s.terms ∷ l) rest
    go (b ∷ bs) rest = ap (λ t. t ∷ map (λ s. s.terms) ss) (terms-out s s.stalled)

pub terms-placed : (ss : List SlotState) → map (λ s. s.terms) (map (placed_state nowhere) ss) ≡ map (λ s. s.terms) ss
terms-placed [] = refl
terms-placed (s ∷ ss) = ap (λ l. s.terms ∷ l) (terms-placed ss)

-- ---- the numbers of what is held

pub pictured : (bs : List PlainBuffer) → numbers_of (pictures bs) ≡ map (λ b. b.picture.number) bs
pictured [] = refl
pictured (b ∷ bs) = ap (λ l. b.picture.number ∷ l) (pictured bs)

pub held-times : (k : ℕ) (ss : List SlotState) → times k (numbers_of (pictures (flat_map slot_buffers (map (placed_state nowhere) ss)))) ≡ times k (map (λ b. b.picture.number) (flat_map slot_buffers ss))
held-times k ss = ap (times k) (ap numbers_of (held-seen ss) ∙ pictured (flat_map slot_buffers ss))

either : (m n : ℕ) (rest : Bool) → rest ≡ nat_lt 0 n → (nat_lt 0 m || rest) ≡ nat_lt 0 (m + n)
either zero n rest e = let same : 0 + n ≡ n = omega arith in e ∙ sym (ap (nat_lt 0) same)
either (suc m) n rest e = ap (λ b. b || rest) (lt-ltb 0 (suc m) (omega arith)) ∙ sym (lt-ltb 0 (suc m + n) (omega arith))

pub slots-any : (k : ℕ) (rs : List SlotState) → list_any (λ r. nat_lt 0 (times k (map (λ b. b.picture.number) (slot_buffers r)))) rs ≡ nat_lt 0 (times k (map (λ b. b.picture.number) (flat_map slot_buffers rs)))
slots-any k [] = refl
slots-any k (r ∷ rs) =
    let parts = ap (map (λ b. b.picture.number)) (flat_map-cons slot_buffers r rs) ∙ map-append (λ b. b.picture.number) (slot_buffers r) (flat_map slot_buffers rs) in
    either (times k (map (λ b. b.picture.number) (slot_buffers r))) (times k (map (λ b. b.picture.number) (flat_map slot_buffers rs))) (list_any (λ r. nat_lt 0 (times k (map (λ b. b.picture.number) (slot_buffers r)))) rs) (slots-any k rs)
    ∙ sym (ap (nat_lt 0) (ap (times k) parts ∙ times-append k (map (λ b. b.picture.number) (slot_buffers r)) (map (λ b. b.picture.number) (flat_map slot_buffers rs))))

-- a buffer is held where a slot holds it
pub held-by : (n all : ℕ) (t : Bool) → t ≡ nat_lt 0 n → all ≡ n → IsTrue t ↔ (0 < all)
held-by n all true is sum = let some = ltb-true 0 n (sym is) in (λ _. omega (arith, some, sum), λ _. refl)
held-by n all false is sum = let no = ltb-false 0 n (sym is) in (λ f. cc, λ some. absurd (omega (arith, no, sum, some)))

-- ---- there are not many

-- none is seen only where none is held
from-none : {X Y : Type 0} (f : X → Y) (xs : List X) → map f xs ≡ [] → xs ≡ []
from-none f [] none = refl
from-none f (x ∷ xs) none = cc

pub nothing-held : (ss : List SlotState) → pictures (flat_map slot_buffers (map (placed_state nowhere) ss)) ≡ [] → flat_map slot_buffers ss ≡ []
nothing-held ss none = from-none (λ b. b.picture) (flat_map slot_buffers ss) (sym (held-seen ss) ∙ none)

-- besides the packet that waits a slot holds as many buffers as its machine's windows have places at most
slot-few : (name : RegionName) (s : SlotState) → IsKept name s → length (slot_buffers s) ≤ cond (has_stalled s) 1 0 + (SEND_PLACES + RECEIVE_PLACES)
slot-few name s h =
    let housed = machine-housed name s h.housed in
    omega (arith, length-append (option_to_list s.stalled) (rdp_buffers (machine_in s)), waits s.stalled, housed.few, ap length (numbers-buffers (machine_in s)), length-map (rdp_buffers (machine_in s)) (λ b. b.picture.number))
  where
    waits : (o : Option PlainBuffer) → length (option_to_list o) ≡ cond (is_some o) 1 0
    waits None = refl
    waits (Some b) = refl

slots-few : (name : RegionName) (rs : List SlotState) → All (IsKept name) rs → length (flat_map slot_buffers rs) ≤ stalls rs + (SEND_PLACES + RECEIVE_PLACES) * length rs
slots-few name [] all = omega arith
slots-few name (r ∷ rs) all =
    omega (
      arith,
      ap length (flat_map-cons slot_buffers r rs),
      length-append (slot_buffers r) (flat_map slot_buffers rs),
      sum_by-cons (λ s. cond (has_stalled s) 1 0) r rs,
      slot-few name r (All-head (IsKept name) r rs all),
      slots-few name rs (All-tail (IsKept name) r rs all),
    )

pub held-few : (name : RegionName) (rs : List SlotState) → length rs ≡ ALL_SLOTS → All (IsKept name) rs → stalls rs ≤ MAX_APPS → length (pictures (flat_map slot_buffers (map (placed_state nowhere) rs))) ≤ MAX_HELD
held-few name rs slots all few =
    omega (arith, ap length (held-seen rs), length-map (flat_map slot_buffers rs) (λ b. b.picture), slots-few name rs all, slots, few)

-- ---- ports that are opened

-- no slot waits for an answer
pub wishes-none : (n app : ℕ) → wishes app (replicate n fresh) ≡ 0
wishes-none n app = weighs_none (λ t. wished t.wish) n app fresh refl

blank : {A : Type 0} (n i : ℕ) (a : A) → get_or (replicate n a) i a ≡ a
blank zero i a = refl
blank (suc n) zero a = refl
blank (suc n) (suc i) a = blank n i a

-- no port is bound
pub none-bound : (bound : Bound) (port apps : ℕ) → bound ≡ bound_none → IfSome (owner_of bound port) (λ o. o.0 < apps)
none-bound bound port apps none = go (owner_of bound port) (ap (λ b. owner_of b port) none ∙ blank BINDABLE_PORTS port None)
  where
    go : (owner : Option (ℕ × ℕ)) → owner ≡ None → IfSome owner (λ o. o.0 < apps)
    go None e = tt
    go (Some o) e = cc
