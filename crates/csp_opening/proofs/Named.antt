-- The ends that a party is handed are those that the scene gives it.
use Rattle.std.proofs.Common.{◌≡◌, ◌+◌, ◌==◌, ◌&&◌, ℕ, Bool, true, false, List, [], ◌∷◌, ◌++◌, Some, length, map, refl, sym, ap, ◌∙◌, arith}
use Rattle.std.specs.Prelude.{slice_get, if◌then◌else◌}
use Rattle.std.specs.List.{AllZip}
use Rattle.std.proofs.lemmas.Bool.{eq-eqb, eqb-true}
use Rattle.std.proofs.lemmas.List.{map-append}
use Rattle.std.proofs.lemmas.Option.{same_Some}
use Rattle.csp_arena.specs.Cells.{RegionName}
use Rattle.csp_lane.specs.Ends as lane
use Rattle.csp_opening.specs.Handed.{getting, handed_among, handed_from, handed_of, putting}
use Rattle.csp_opening.specs.Opened.{pair_of, pairs_on}
use Rattle.csp_opening.specs.declared.lanes.Pair.{Pair}
use Rattle.csp_log.specs.Who.{is_who}
use Rattle.csp_log.specs.declared.who.Who.{Who}
use Rattle.csp_log.specs.declared.who.Who.TheVariants as who
use Rattle.csp_standing.proofs.Public.{same_who}
use Rattle.csp_standing.specs.Network.{name_of, sides_among, sides_at, sides_from}
use Rattle.csp_topology.specs.Lanes.{PlainLane}
use Rattle.csp_topology.specs.declared.wire.Wire.{Wire}

pub both_true : (a b : Bool) → (a && b) ≡ true → (a ≡ true) × (b ≡ true)
both_true true b e = (refl, e)
both_true false b e = absurd cc

-- a name tells the party
pub who_is : (v w : Who) → is_who v w ≡ true → v ≡ w
who_is (who.Router n) (who.Router m) e = ap who.Router (sym (eqb-true m n e))
who_is (who.Bridge n) (who.Bridge m) e = ap who.Bridge (sym (eqb-true m n e))
who_is (who.Iface n k) (who.Iface m j) e =
    let b = both_true (m == n) (j == k) e in
    λ i. who.Iface (sym (eqb-true m n b.0) i) (sym (eqb-true j k b.1) i)
who_is (who.App n k) (who.App m j) e =
    let b = both_true (m == n) (j == k) e in
    λ i. who.App (sym (eqb-true m n b.0) i) (sym (eqb-true j k b.1) i)
who_is (who.Link k) (who.Link j) e = ap who.Link (sym (eqb-true j k e))
who_is (who.Router n) (who.Bridge m) e = absurd cc
who_is (who.Router n) (who.Iface m j) e = absurd cc
who_is (who.Router n) (who.App m j) e = absurd cc
who_is (who.Router n) (who.Link j) e = absurd cc
who_is (who.Bridge n) (who.Router m) e = absurd cc
who_is (who.Bridge n) (who.Iface m j) e = absurd cc
who_is (who.Bridge n) (who.App m j) e = absurd cc
who_is (who.Bridge n) (who.Link j) e = absurd cc
who_is (who.Iface n k) (who.Router m) e = absurd cc
who_is (who.Iface n k) (who.Bridge m) e = absurd cc
who_is (who.Iface n k) (who.App m j) e = absurd cc
who_is (who.Iface n k) (who.Link j) e = absurd cc
who_is (who.App n k) (who.Router m) e = absurd cc
who_is (who.App n k) (who.Bridge m) e = absurd cc
who_is (who.App n k) (who.Iface m j) e = absurd cc
who_is (who.App n k) (who.Link j) e = absurd cc
who_is (who.Link k) (who.Router m) e = absurd cc
who_is (who.Link k) (who.Bridge m) e = absurd cc
who_is (who.Link k) (who.Iface m j) e = absurd cc
who_is (who.Link k) (who.App m j) e = absurd cc

-- two Booleans that imply each other
same_bool : (a b : Bool) → (a ≡ true → b ≡ true) → (b ≡ true → a ≡ true) → a ≡ b
same_bool true true f g = refl
same_bool false false f g = refl
same_bool true false f g = sym (f refl)
same_bool false true f g = g refl

-- no two of these have one name
abbrev pub NamedApart : List Who → Type 0
NamedApart ws = (i j : ℕ) (w : Who) → slice_get ws i ≡ Some w → slice_get ws j ≡ Some w → i ≡ j

-- a wire's end is that of the party at a place just where it has its name
end_is : (ws : List Who) → NamedApart ws → (p : ℕ) (v w : Who) (k : ℕ) → slice_get ws p ≡ Some v → slice_get ws k ≡ Some w → (k == p) ≡ is_who v w
end_is ws apart p v w k at there = same_bool (k == p) (is_who v w)
    (λ e. let same = same_Some v w (sym at ∙ ap (slice_get ws) (sym (eqb-true k p e)) ∙ there) in ap (is_who v) (sym same) ∙ same_who v)
    (λ e. eq-eqb k p (apart k p w there (at ∙ ap Some (who_is v w e))))

-- whom the wires name: a wire with the ends of a lane
pub record IsNamedIn (ws : List Who) (l : PlainLane) (w : Wire) : Type 0 where
  pub carries : w.carries ≡ l.carries
  pub from : slice_get ws w.from.party ≡ Some l.from.who
  pub from_queue : w.from.queue ≡ l.from.queue
  pub to : slice_get ws w.to.party ≡ Some l.to.who
  pub to_queue : w.to.queue ≡ l.to.queue

named_of : (ws : List Who) → NamedApart ws → (p : ℕ) (v : Who) → slice_get ws p ≡ Some v → (node place : ℕ) (l : PlainLane) (w : Wire) (region : RegionName) (x : lane.PlainLane) → IsNamedIn ws l w
    → map name_of (handed_of p node place (pair_of region w x)) ≡ sides_at v node place l
named_of ws apart p v at node place l w region x is =
    map-append name_of (if w.from.party == p then putting node place (pair_of region w x) ∷ [] else []) (if w.to.party == p then getting node place (pair_of region w x) ∷ [] else [])
    ∙ (λ i. first (w.from.party == p) i ++ second (w.to.party == p) i)
    ∙ (λ i. (if end_is ws apart p v l.from.who w.from.party at is.from i then record { queue = is.from_queue i; node = node; lane = place; puts = true; carries = is.carries i } ∷ [] else [])
    ++ (if end_is ws apart p v l.to.who w.to.party at is.to i then record { queue = is.to_queue i; node = node; lane = place; puts = false; carries = is.carries i } ∷ [] else [])) where
      first : (b : Bool) → map name_of (if b then putting node place (pair_of region w x) ∷ [] else []) ≡ (if b then record { queue = w.from.queue; node = node; lane = place; puts = true; carries = w.carries } ∷ [] else [])
      first true = refl
      first false = refl

      second : (b : Bool) → map name_of (if b then getting node place (pair_of region w x) ∷ [] else []) ≡ (if b then record { queue = w.to.queue; node = node; lane = place; puts = false; carries = w.carries } ∷ [] else [])
      second true = refl
      second false = refl

named_among : (ws : List Who) → NamedApart ws → (p : ℕ) (v : Who) → slice_get ws p ≡ Some v → (node place : ℕ) (ls : List PlainLane) (wires : List Wire) (region : RegionName) (xs : List lane.PlainLane)
    → AllZip (IsNamedIn ws) ls wires → length xs ≡ length wires → map name_of (handed_among p node place (pairs_on region wires xs)) ≡ sides_among v node place ls
named_among ws apart p v at node place [] [] region xs h long = refl
named_among ws apart p v at node place (l ∷ ls) (w ∷ wires) region (x ∷ xs) h long =
    map-append name_of (handed_of p node place (pair_of region w x)) (handed_among p node (place + 1) (pairs_on region wires xs))
    ∙ (λ i. named_of ws apart p v at node place l w region x h.0 i ++ named_among ws apart p v at node (place + 1) ls wires region xs h.1 (omega (arith, long)) i)
named_among ws apart p v at node place [] (w ∷ wires) region xs h long = absurd h
named_among ws apart p v at node place (l ∷ ls) [] region xs h long = absurd h
named_among ws apart p v at node place (l ∷ ls) (w ∷ wires) region [] h long = absurd (omega (arith, long))

-- the pairs of a row of lanes: those of its wires
pub record IsPairRow (ws : List Who) (row : List PlainLane) (pairs : List Pair) : Type 0 where
  pub region : RegionName
  pub wires : List Wire
  pub lanes : List lane.PlainLane
  pub is : pairs ≡ pairs_on region wires lanes
  pub named : AllZip (IsNamedIn ws) row wires
  pub long : length lanes ≡ length wires

pub named_from : (ws : List Who) → NamedApart ws → (p : ℕ) (v : Who) → slice_get ws p ≡ Some v → (node : ℕ) (rows : List (List PlainLane)) (pairs : List (List Pair)) → AllZip (IsPairRow ws) rows pairs
    → map name_of (handed_from p node pairs) ≡ sides_from v node rows
named_from ws apart p v at node [] [] h = refl
named_from ws apart p v at node (row ∷ rows) (x ∷ pairs) h =
    map-append name_of (handed_among p node 0 x) (handed_from p (node + 1) pairs)
    ∙ (λ i. one i ++ named_from ws apart p v at (node + 1) rows pairs h.1 i) where
      one : map name_of (handed_among p node 0 x) ≡ sides_among v node 0 row
      one = ap (λ ps. map name_of (handed_among p node 0 ps)) h.0.is ∙ named_among ws apart p v at node 0 row h.0.wires h.0.region h.0.lanes h.0.named h.0.long
named_from ws apart p v at node [] (x ∷ pairs) h = absurd h
named_from ws apart p v at node (row ∷ rows) [] h = absurd h
