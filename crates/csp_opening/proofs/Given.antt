-- Small facts about the lists that are counted and filled.
use Rattle.std.proofs.Common.{◌≡◌, ◌+◌, ◌*◌, ◌==◌, ◌<◌, ◌≤◌, ℕ, zero, suc, Bool, true, false, true≢false, List, [], ◌∷◌, ◌++◌, Some, length, take, get_or, refl, sym, ap, ◌∙◌, subst, arith}
use Rattle.std.specs.Global.{Vec}
use Rattle.std.specs.Prelude.{IsSome, IsSomeAnd, slice_get, slice_set, if◌then◌else◌, vec_len, vec_capacity}
use Rattle.std.specs.List.{AllByRecursion, sum_by}
use Rattle.std.proofs.lemmas.Bool.{eq-eqb, eqb-true}
use Rattle.std.proofs.lemmas.List.{append-nil, append_assoc}
use Rattle.std.proofs.lemmas.List.Sums.{sum_by-cons}
use Rattle.std.proofs.lemmas.Option.{same_Some, slice_get_read}
use Rattle.csp_ends.specs.Ends.{PlainNodeQueues, PlainSide}
use Rattle.csp_opening.specs.Handed.{AreHanded, HaveRoom, ends_among, ends_of, list_at, room_at}
use Rattle.csp_opening.specs.Parted.{AreLeadsOf, IsLeadOf, IsOpening, after_app, after_iface, changed, leads_past, others}
use Rattle.csp_opening.specs.Whole.{queue_count}
use Rattle.csp_opening.specs.declared.homes.Lead.{Lead}
use Rattle.csp_log.specs.declared.who.Who.{Who}
use Rattle.csp_log.specs.declared.who.Who.TheVariants as who
use Rattle.csp_topology.specs.declared.wire.Wire.{Wire}

two_ends : (p : ℕ) (w : Wire) → ends_of p w ≤ 2
two_ends p w = by (w.from.party == p) (w.to.party == p) where
  by : (a b : Bool) → (if a then 1 else 0) + (if b then 1 else 0) ≤ 2
  by true true = omega arith
  by true false = omega arith
  by false true = omega arith
  by false false = omega arith

-- a party has no more than two ends of each lane
pub few_ends : (p : ℕ) (ws : List Wire) → ends_among p ws ≤ 2 * length ws
few_ends p [] = omega arith
few_ends p (w ∷ ws) = let a = sum_by-cons (ends_of p) w ws in let b = two_ends p w in let c = few_ends p ws in omega (arith, a, b, c)

-- and so of those of all nodes
pub few_ends_at : (p k : ℕ) (wires : List (Vec Wire)) → AllByRecursion (λ (ws : Vec Wire). length ws.items < 256) wires → sum_by (λ (ws : Vec Wire). ends_among p ws.items) (take k wires) ≤ 512 * k
few_ends_at p zero wires few = omega arith
few_ends_at p (suc k) [] few = omega arith
few_ends_at p (suc k) (ws ∷ wires) few =
    let a = sum_by-cons (λ (v : Vec Wire). ends_among p v.items) ws (take k wires) in
    let b = few_ends p ws.items in
    let c = few.0 in
    let d = few_ends_at p k wires few.1 in
    omega (arith, a, b, c, d)

pub few_queues : (k : ℕ) (wires : List (Vec Wire)) → AllByRecursion (λ (ws : Vec Wire). length ws.items < 256) wires → queue_count (take k wires) ≤ 260 * k
few_queues zero wires few = omega arith
few_queues (suc k) [] few = omega arith
few_queues (suc k) (ws ∷ wires) few =
    let a = sum_by-cons (λ (v : Vec Wire). length v.items + 4) ws (take k wires) in
    let c = few.0 in
    let d = few_queues k wires few.1 in
    omega (arith, a, c, d)

-- what a changed list has at a place
pub list_same : (sides : List (Vec PlainSide)) (k : ℕ) (v : Vec PlainSide) → k < length sides → list_at (slice_set sides k v) k ≡ v.items
list_same [] k v low = absurd (omega (arith, low))
list_same (x ∷ sides) zero v low = refl
list_same (x ∷ sides) (suc k) v low = list_same sides k v (omega (arith, low))

pub list_other : (sides : List (Vec PlainSide)) (k p : ℕ) (v : Vec PlainSide) → (k ≡ p → ⊥) → list_at (slice_set sides k v) p ≡ list_at sides p
list_other [] k p v apart = refl
list_other (x ∷ sides) zero zero v apart = absurd (apart refl)
list_other (x ∷ sides) zero (suc p) v apart = refl
list_other (x ∷ sides) (suc k) zero v apart = refl
list_other (x ∷ sides) (suc k) (suc p) v apart = list_other sides k p v (λ e. apart (ap suc e))

pub room_same : (sides : List (Vec PlainSide)) (k : ℕ) (v : Vec PlainSide) → k < length sides → room_at (slice_set sides k v) k ≡ vec_capacity v
room_same [] k v low = absurd (omega (arith, low))
room_same (x ∷ sides) zero v low = refl
room_same (x ∷ sides) (suc k) v low = room_same sides k v (omega (arith, low))

pub room_other : (sides : List (Vec PlainSide)) (k p : ℕ) (v : Vec PlainSide) → (k ≡ p → ⊥) → room_at (slice_set sides k v) p ≡ room_at sides p
room_other [] k p v apart = refl
room_other (x ∷ sides) zero zero v apart = absurd (apart refl)
room_other (x ∷ sides) zero (suc p) v apart = refl
room_other (x ∷ sides) (suc k) zero v apart = refl
room_other (x ∷ sides) (suc k) (suc p) v apart = room_other sides k p v (λ e. apart (ap suc e))

pub list_there : (sides : List (Vec PlainSide)) (k : ℕ) (v : Vec PlainSide) → slice_get sides k ≡ Some v → list_at sides k ≡ v.items
list_there [] k v e = absurd cc
list_there (x ∷ sides) zero v e = ap (λ (z : Vec PlainSide). z.items) (same_Some x v e)
list_there (x ∷ sides) (suc k) v e = list_there sides k v e

pub room_there : (sides : List (Vec PlainSide)) (k : ℕ) (v : Vec PlainSide) → slice_get sides k ≡ Some v → room_at sides k ≡ vec_capacity v
room_there [] k v e = absurd cc
room_there (x ∷ sides) zero v e = ap (λ (z : Vec PlainSide). vec_capacity z) (same_Some x v e)
room_there (x ∷ sides) (suc k) v e = room_there sides k v e

-- the places of passes
pub low_of : (leads : List Lead) (k : ℕ) → IsSome (slice_get leads k) → k < length leads
low_of [] k e = absurd cc
low_of (l ∷ leads) zero e = omega arith
low_of (l ∷ leads) (suc k) e = let r = low_of leads k e in omega (arith, r)

pub low_and : (leads : List Lead) (k : ℕ) (P : Lead → Type 0) → IsSomeAnd (slice_get leads k) P → k < length leads
low_and [] k P e = absurd e
low_and (l ∷ leads) zero P e = omega arith
low_and (l ∷ leads) (suc k) P e = let r = low_and leads k P e in omega (arith, r)

pub leads_long : (qs : List PlainNodeQueues) (leads : List Lead) → AreLeadsOf qs leads → length qs ≡ length leads
leads_long [] [] h = refl
leads_long (q ∷ qs) (l ∷ leads) h = ap suc (leads_long qs leads h.1)
leads_long [] (l ∷ leads) h = absurd h
leads_long (q ∷ qs) [] h = absurd h

pub lead_is : (qs : List PlainNodeQueues) (leads : List Lead) (k : ℕ) (q : PlainNodeQueues) (l : Lead) → AreLeadsOf qs leads → slice_get qs k ≡ Some q → slice_get leads k ≡ Some l → IsLeadOf q l
lead_is (x ∷ qs) (y ∷ leads) zero q l h e f = subst (λ z. IsLeadOf z l) (same_Some x q e) (subst (IsLeadOf x) (same_Some y l f) h.0)
lead_is (x ∷ qs) (y ∷ leads) (suc k) q l h e f = lead_is qs leads k q l h.1 e f
lead_is [] leads k q l h e f = absurd cc
lead_is (x ∷ qs) [] k q l h e f = absurd cc

pub change_is : (f : Lead → Lead) (k : ℕ) (leads : List Lead) (l : Lead) → slice_get leads k ≡ Some l → slice_set leads k (f l) ≡ changed k f leads
change_is f k [] l e = absurd cc
change_is f zero (y ∷ leads) l e = ap (λ z. f z ∷ leads) (sym (same_Some y l e))
change_is f (suc k) (y ∷ leads) l e = ap (λ ls. y ∷ ls) (change_is f k leads l e)

pub leads_stay : (f : Lead → Lead) → ((q : PlainNodeQueues) (l : Lead) → IsLeadOf q l → IsLeadOf q (f l)) → (k : ℕ) (qs : List PlainNodeQueues) (leads : List Lead) → AreLeadsOf qs leads → AreLeadsOf qs (changed k f leads)
leads_stay f stays k [] [] h = tt
leads_stay f stays zero (q ∷ qs) (l ∷ leads) h = (stays q l h.0, h.1)
leads_stay f stays (suc k) (q ∷ qs) (l ∷ leads) h = (h.0, leads_stay f stays k qs leads h.1)
leads_stay f stays k [] (l ∷ leads) h = absurd h
leads_stay f stays k (q ∷ qs) [] h = absurd h

pub app_stays : (q : PlainNodeQueues) (l : Lead) → IsLeadOf q l → IsLeadOf q (after_app l)
app_stays q l h = record { pool = h.pool; opens = h.opens; inbox = h.inbox; reads = h.reads }

pub iface_stays : (number : ℕ) (q : PlainNodeQueues) (l : Lead) → IsLeadOf q l → IsLeadOf q (after_iface number l)
iface_stays number q l h = record { pool = h.pool; opens = h.opens; inbox = record { inbox = h.inbox.inbox; room = h.inbox.room }; reads = h.reads }

-- the passes of a node that has queues
pub record AreRead (qs : List PlainNodeQueues) (leads : List Lead) (node : ℕ) (l : Lead) : Type 0 where
  pub of_it : AreLeadsOf qs leads
  pub low : node < length qs
  pub there : slice_get leads node ≡ Some l

-- what is read at its place is there
read_at : {X : Type 0} (xs : List X) (k place : ℕ) (x : X) → k ≡ place → place < length xs → x ≡ get_or xs k x → slice_get xs place ≡ Some x
read_at xs k place x e low is = ap (slice_get xs) (sym e) ∙ slice_get_read xs (length xs) k x refl (omega (arith, e, low)) is

pub are_read : (qs : List PlainNodeQueues) (leads : List Lead) (k node : ℕ) (l : Lead) → AreLeadsOf qs leads → node < length leads → k ≡ node → l ≡ get_or leads k l → AreRead qs leads node l
are_read qs leads k node l h low e is = record { of_it = h; low = (let long = leads_long qs leads h in omega (arith, low, long)); there = read_at leads k node l e low is }

-- its queues are those of the passes
pub read_of : (qs inside : List PlainNodeQueues) (leads : List Lead) (k node : ℕ) (q : PlainNodeQueues) (l : Lead) → AreRead qs leads node l → inside ≡ qs → k ≡ node → q ≡ get_or inside k q → IsLeadOf q l
read_of qs inside leads k node q l h seen e is =
    lead_is qs leads node q l h.of_it (ap (λ (ns : List PlainNodeQueues). slice_get ns node) (sym seen) ∙ read_at inside k node q e (subst (λ (ns : List PlainNodeQueues). node < length ns) (sym seen) h.low) is) h.there

-- what is left of them is still of it
pub left_of : (f : Lead → Lead) → ((q : PlainNodeQueues) (l : Lead) → IsLeadOf q l → IsLeadOf q (f l)) → (qs : List PlainNodeQueues) (leads : List Lead) (k node : ℕ) (l m : Lead) → AreRead qs leads node l → k ≡ node → m ≡ f l
    → (slice_set leads k m ≡ changed node f leads) × AreLeadsOf qs (slice_set leads k m)
left_of f stays qs leads k node l m h e left =
    let same : slice_set leads k m ≡ changed node f leads = (λ i. slice_set leads (e i) (left i)) ∙ change_is f node leads l h.there in
    (same, subst (AreLeadsOf qs) (sym same) (leads_stay f stays node qs leads h.of_it))

-- the first pass is one that opened, and so are the others
pub opening_past : (leads : List Lead) (w : Who) → AllByRecursion IsOpening leads → AllByRecursion IsOpening (leads_past leads w)
opening_past leads (who.Router n) h = by leads h where
  by : (ls : List Lead) → AllByRecursion IsOpening ls → AllByRecursion IsOpening (others ls)
  by [] h = tt
  by (l ∷ ls) h = h.1
opening_past leads (who.Bridge n) h = by leads h where
  by : (ls : List Lead) → AllByRecursion IsOpening ls → AllByRecursion IsOpening (others ls)
  by [] h = tt
  by (l ∷ ls) h = h.1
opening_past leads (who.Iface n k) h = h
opening_past leads (who.App n k) h = h
opening_past leads (who.Link k) h = h

set_long : (sides : List (Vec PlainSide)) (k : ℕ) (v : Vec PlainSide) → length (slice_set sides k v) ≡ length sides
set_long [] k v = refl
set_long (x ∷ sides) zero v = refl
set_long (x ∷ sides) (suc k) v = ap suc (set_long sides k v)

-- one end handed to the party at a place
handed_one : (sides : List (Vec PlainSide)) (a : ℕ) (v w : Vec PlainSide) (x : PlainSide) → a < length sides → slice_get sides a ≡ Some v → w.items ≡ v.items ++ x ∷ [] → vec_capacity w ≡ vec_capacity v
    → AreHanded sides (λ p. if a == p then x ∷ [] else []) (slice_set sides a w)
handed_one sides a v w x low at items cap = record {
  count = set_long sides a w;
  lists = λ p here. list p (a == p) refl;
  rooms = λ p here. room p (a == p) refl;
} where
  list : (p : ℕ) (b : Bool) → (a == p) ≡ b → list_at (slice_set sides a w) p ≡ list_at sides p ++ (if b then x ∷ [] else [])
  list p true e =
      ap (list_at (slice_set sides a w)) (sym (eqb-true a p e)) ∙ list_same sides a w low ∙ items ∙ ap (λ l. l ++ x ∷ []) (sym (list_there sides a v at)) ∙ ap (λ k. list_at sides k ++ x ∷ []) (eqb-true a p e)
  list p false e = list_other sides a p w (λ same. true≢false (sym (eq-eqb a p same) ∙ e)) ∙ sym (append-nil (list_at sides p))

  room : (p : ℕ) (b : Bool) → (a == p) ≡ b → room_at (slice_set sides a w) p ≡ room_at sides p
  room p true e = ap (room_at (slice_set sides a w)) (sym (eqb-true a p e)) ∙ room_same sides a w low ∙ cap ∙ sym (room_there sides a v at) ∙ ap (room_at sides) (eqb-true a p e)
  room p false e = room_other sides a p w (λ same. true≢false (sym (eq-eqb a p same) ∙ e))

-- and another after it
pub handed_two : (sides first second : List (Vec PlainSide)) (one two : ℕ → List PlainSide) → AreHanded sides one first → AreHanded first two second → AreHanded sides (λ p. one p ++ two p) second
handed_two sides first second one two a b = record {
  count = b.count ∙ a.count;
  lists = λ p low. b.lists p (let c = a.count in omega (arith, low, c)) ∙ ap (λ l. l ++ two p) (a.lists p low) ∙ append_assoc (list_at sides p) (one p) (two p);
  rooms = λ p low. b.rooms p (let c = a.count in omega (arith, low, c)) ∙ a.rooms p low;
}

-- there is room for it
room_one : (sides : List (Vec PlainSide)) (a : ℕ) (v : Vec PlainSide) (x : PlainSide) → a < length sides → slice_get sides a ≡ Some v → HaveRoom sides (λ p. length (if a == p then x ∷ [] else [])) → vec_len v < vec_capacity v
room_one sides a v x low at room =
    let all = room a low in
    let one = ap (λ b. length (if b then x ∷ [] else [])) (eq-eqb a a refl) in
    let list = ap (λ (l : List PlainSide). length l) (list_there sides a v at) in
    let space = room_there sides a v at in
    let ok = v.ok.0 in
    omega (arith, all, one, list, space, ok)

-- so it is for the party that was read at a place
pub room_read : (sides : List (Vec PlainSide)) (k a : ℕ) (v : Vec PlainSide) (x : PlainSide) → k ≡ a → a < length sides → v ≡ get_or sides k v → HaveRoom sides (λ p. length (if a == p then x ∷ [] else [])) → vec_len v < vec_capacity v
room_read sides k a v x e low is = room_one sides a v x low (read_at sides k a v e low is)

pub handed_read : (sides : List (Vec PlainSide)) (k a : ℕ) (v w : Vec PlainSide) (x : PlainSide) → k ≡ a → a < length sides → v ≡ get_or sides k v → w.items ≡ v.items ++ x ∷ [] → vec_capacity w ≡ vec_capacity v
    → AreHanded sides (λ p. if a == p then x ∷ [] else []) (slice_set sides k w)
handed_read sides k a v w x e low is items cap =
    subst (λ j. AreHanded sides (λ p. if a == p then x ∷ [] else []) (slice_set sides j w)) (sym e) (handed_one sides a v w x low (read_at sides k a v e low is) items cap)

-- a list of empty lists, with one more
pub list_pushed : (sides : List (Vec PlainSide)) (v : Vec PlainSide) → v.items ≡ [] → ((p : ℕ) → list_at sides p ≡ []) → (p : ℕ) → list_at (sides ++ v ∷ []) p ≡ []
list_pushed [] v none blank zero = none
list_pushed [] v none blank (suc p) = refl
list_pushed (x ∷ sides) v none blank zero = blank 0
list_pushed (x ∷ sides) v none blank (suc p) = list_pushed sides v none (λ k. blank (suc k)) p

pub room_pushed : (sides : List (Vec PlainSide)) (v : Vec PlainSide) (p : ℕ) (least : ℕ) → (p < length sides → least ≤ room_at sides p) → (p ≡ length sides → least ≤ vec_capacity v) → p < length sides + 1 → least ≤ room_at (sides ++ v ∷ []) p
room_pushed [] v zero least before here low = here refl
room_pushed [] v (suc p) least before here low = absurd (omega (arith, low))
room_pushed (x ∷ sides) v zero least before here low = before (omega arith)
room_pushed (x ∷ sides) v (suc p) least before here low =
    room_pushed sides v p least (λ l. before (omega (arith, l))) (λ e. here (ap suc e)) (omega (arith, low))
