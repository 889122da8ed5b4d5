-- No two ends that a party is handed are of one lane and one way.
use Rattle.std.proofs.Common.{◌≡◌, ◌+◌, ◌≤◌, ◌==◌, ℕ, zero, suc, Bool, true, false, true≢false, List, [], ◌∷◌, ◌++◌, Some, refl, sym, ap, subst, arith}
use Rattle.std.specs.Prelude.{⊤, slice_get, if◌then◌else◌}
use Rattle.std.specs.List.{AllByRecursion}
use Rattle.std.proofs.lemmas.Option.{same_Some}
use Rattle.csp_ends.specs.Ends.{PlainSide}
use Rattle.csp_opening.specs.Handed.{getting, handed_among, handed_from, handed_of, putting}
use Rattle.csp_opening.specs.declared.lanes.Pair.{Pair}
use Rattle.csp_scene.proofs.Public.{AllByRecursion-append}
use Rattle.csp_standing.proofs.Public.{all_at}

-- two ends are of one lane and one way
pub record SameSpot (s t : PlainSide) : Type 0 where
  pub node : s.node ≡ t.node
  pub lane : s.lane ≡ t.lane
  pub puts : s.puts ≡ t.puts

-- this one is unlike those
abbrev Unlike : List PlainSide → PlainSide → Type 0
Unlike sides s = AllByRecursion (λ (t : PlainSide). SameSpot s t → ⊥) sides

-- each is unlike all that come after it
abbrev Spread : List PlainSide → Type 0
Spread [] = ⊤
Spread (s ∷ sides) = Unlike sides s × Spread sides

spread_append : (xs ys : List PlainSide) → Spread xs → Spread ys → AllByRecursion (Unlike ys) xs → Spread (xs ++ ys)
spread_append [] ys a b cross = b
spread_append (x ∷ xs) ys a b cross = (AllByRecursion-append (λ (t : PlainSide). SameSpot x t → ⊥) xs ys a.0 cross.0, spread_append xs ys a.1 b cross.1)

crossing : (A B : PlainSide → Type 0) → ((s t : PlainSide) → A s → B t → SameSpot s t → ⊥) → (xs ys : List PlainSide) → AllByRecursion A xs → AllByRecursion B ys → AllByRecursion (Unlike ys) xs
crossing A B clash [] ys a b = tt
crossing A B clash (x ∷ xs) ys a b = (one ys b, crossing A B clash xs ys a.1 b) where
  one : (zs : List PlainSide) → AllByRecursion B zs → Unlike zs x
  one [] h = tt
  one (z ∷ zs) h = (clash x z a.0 h.0, one zs h.1)

-- what holds of both ends of a pair holds of those that are handed
of_one : (P : PlainSide → Type 0) (p node lane : ℕ) (x : Pair) → P (putting node lane x) → P (getting node lane x) → AllByRecursion P (handed_of p node lane x)
of_one P p node lane x a b = by (x.wire.from.party == p) (x.wire.to.party == p) where
  by : (c d : Bool) → AllByRecursion P ((if c then putting node lane x ∷ [] else []) ++ (if d then getting node lane x ∷ [] else []))
  by true true = (a, (b, tt))
  by true false = (a, tt)
  by false true = (b, tt)
  by false false = tt

lanes_low : (p node lane : ℕ) (xs : List Pair) → AllByRecursion (λ (t : PlainSide). lane ≤ t.lane) (handed_among p node lane xs)
lanes_low p node lane [] = tt
lanes_low p node lane (x ∷ xs) =
    AllByRecursion-append (λ (t : PlainSide). lane ≤ t.lane) (handed_of p node lane x) (handed_among p node (lane + 1) xs)
    (of_one (λ (t : PlainSide). lane ≤ t.lane) p node lane x (omega arith) (omega arith))
    (weaker (handed_among p node (lane + 1) xs) (lanes_low p node (lane + 1) xs)) where
      weaker : (ys : List PlainSide) → AllByRecursion (λ (t : PlainSide). lane + 1 ≤ t.lane) ys → AllByRecursion (λ (t : PlainSide). lane ≤ t.lane) ys
      weaker [] h = tt
      weaker (y ∷ ys) h = (let low = h.0 in omega (arith, low), weaker ys h.1)

nodes_are : (p node lane : ℕ) (xs : List Pair) → AllByRecursion (λ (t : PlainSide). t.node ≡ node) (handed_among p node lane xs)
nodes_are p node lane [] = tt
nodes_are p node lane (x ∷ xs) =
    AllByRecursion-append (λ (t : PlainSide). t.node ≡ node) (handed_of p node lane x) (handed_among p node (lane + 1) xs) (of_one (λ (t : PlainSide). t.node ≡ node) p node lane x refl refl) (nodes_are p node (lane + 1) xs)

nodes_low : (p node : ℕ) (pairs : List (List Pair)) → AllByRecursion (λ (t : PlainSide). node ≤ t.node) (handed_from p node pairs)
nodes_low p node [] = tt
nodes_low p node (xs ∷ pairs) =
    AllByRecursion-append (λ (t : PlainSide). node ≤ t.node) (handed_among p node 0 xs) (handed_from p (node + 1) pairs)
    (same (handed_among p node 0 xs) (nodes_are p node 0 xs))
    (weaker (handed_from p (node + 1) pairs) (nodes_low p (node + 1) pairs)) where
      same : (ys : List PlainSide) → AllByRecursion (λ (t : PlainSide). t.node ≡ node) ys → AllByRecursion (λ (t : PlainSide). node ≤ t.node) ys
      same [] h = tt
      same (y ∷ ys) h = (let is = h.0 in omega (arith, is), same ys h.1)

      weaker : (ys : List PlainSide) → AllByRecursion (λ (t : PlainSide). node + 1 ≤ t.node) ys → AllByRecursion (λ (t : PlainSide). node ≤ t.node) ys
      weaker [] h = tt
      weaker (y ∷ ys) h = (let low = h.0 in omega (arith, low), weaker ys h.1)

spread_of : (p node lane : ℕ) (x : Pair) → Spread (handed_of p node lane x)
spread_of p node lane x = by (x.wire.from.party == p) (x.wire.to.party == p) where
  by : (c d : Bool) → Spread ((if c then putting node lane x ∷ [] else []) ++ (if d then getting node lane x ∷ [] else []))
  by true true = ((λ same. true≢false same.puts, tt), (tt, tt))
  by true false = (tt, tt)
  by false true = (tt, tt)
  by false false = tt

spread_among : (p node lane : ℕ) (xs : List Pair) → Spread (handed_among p node lane xs)
spread_among p node lane [] = tt
spread_among p node lane (x ∷ xs) =
    spread_append (handed_of p node lane x) (handed_among p node (lane + 1) xs) (spread_of p node lane x) (spread_among p node (lane + 1) xs)
    (crossing (λ (s : PlainSide). s.lane ≡ lane) (λ (t : PlainSide). lane + 1 ≤ t.lane) (λ s t a b same. (let e = same.lane in omega (arith, a, b, e)))
    (handed_of p node lane x) (handed_among p node (lane + 1) xs) (of_one (λ (s : PlainSide). s.lane ≡ lane) p node lane x refl refl) (lanes_low p node (lane + 1) xs))

spread_from : (p node : ℕ) (pairs : List (List Pair)) → Spread (handed_from p node pairs)
spread_from p node [] = tt
spread_from p node (xs ∷ pairs) =
    spread_append (handed_among p node 0 xs) (handed_from p (node + 1) pairs) (spread_among p node 0 xs) (spread_from p (node + 1) pairs)
    (crossing (λ (s : PlainSide). s.node ≡ node) (λ (t : PlainSide). node + 1 ≤ t.node) (λ s t a b same. (let e = same.node in omega (arith, a, b, e)))
    (handed_among p node 0 xs) (handed_from p (node + 1) pairs) (nodes_are p node 0 xs) (nodes_low p (node + 1) pairs))

turned : (s t : PlainSide) → SameSpot s t → SameSpot t s
turned s t h = record { node = sym h.node; lane = sym h.lane; puts = sym h.puts }

one_place : (sides : List PlainSide) → Spread sides → (a b : ℕ) (s t : PlainSide) → slice_get sides a ≡ Some s → slice_get sides b ≡ Some t → SameSpot s t → a ≡ b
one_place [] h a b s t e f same = absurd cc
one_place (x ∷ sides) h zero zero s t e f same = refl
one_place (x ∷ sides) h zero (suc b) s t e f same = absurd (all_at (λ (z : PlainSide). SameSpot x z → ⊥) sides b t h.0 f (subst (λ z. SameSpot z t) (sym (same_Some x s e)) same))
one_place (x ∷ sides) h (suc a) zero s t e f same = absurd (all_at (λ (z : PlainSide). SameSpot x z → ⊥) sides a s h.0 e (subst (λ z. SameSpot z s) (sym (same_Some x t f)) (turned s t same)))
one_place (x ∷ sides) h (suc a) (suc b) s t e f same = ap suc (one_place sides h.1 a b s t e f same)

pub handed_apart : (p : ℕ) (pairs : List (List Pair)) (a b : ℕ) (s t : PlainSide) → slice_get (handed_from p 0 pairs) a ≡ Some s → slice_get (handed_from p 0 pairs) b ≡ Some t → SameSpot s t → a ≡ b
handed_apart p pairs a b s t e f same = one_place (handed_from p 0 pairs) (spread_from p 0 pairs) a b s t e f same
