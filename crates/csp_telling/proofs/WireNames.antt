-- The ends of a party are called as the lanes of its scene have it.
use Rattle.std.proofs.Common.{◌≡◌, ◌+◌, ◌⊎◌, inl, inr, ℕ, zero, suc, Bool, true, false, true≢false, List, [], ◌∷◌, ◌++◌, Some, map, refl, sym, ap, ◌∙◌, subst, arith, slice_get}
use Rattle.std.specs.Option.{option_and_then, option_map}
use Rattle.std.specs.Prelude.{if◌then◌else◌}
use Rattle.std.proofs.lemmas.Option.{same_Some, slice_get-map}
use Rattle.csp_consistent.proofs.Public.{who_is}
use Rattle.csp_ends.specs.Ends.{PlainSide}
use Rattle.csp_log.specs.Who.{is_who}
use Rattle.csp_log.specs.declared.who.Who.{Who}
use Rattle.csp_scene.specs.Scene.{PlainScene}
use Rattle.csp_standing.proofs.Public.{IsIn, getting_end, putting_end}
use Rattle.csp_standing.specs.Network.{SideName, name_of, sides_among, sides_at, sides_from, sides_of}
use Rattle.csp_topology.specs.Lanes.{PlainLane}
use Rattle.csp_topology.specs.Wires.{wire_at, wires_of}

-- an element of two lists, one after the other, is one of the first or of the second
in_both : {X : Type 0} (xs ys : List X) (k : ℕ) (x : X) → slice_get (xs ++ ys) k ≡ Some x → IsIn xs x ⊎ IsIn ys x
in_both [] ys k x e = inr (record { place = k; at = e })
in_both (z ∷ xs) ys zero x e = inl (record { place = 0; at = e })
in_both (z ∷ xs) ys (suc k) x e = later (in_both xs ys k x e) where
  later : IsIn xs x ⊎ IsIn ys x → IsIn (z ∷ xs) x ⊎ IsIn ys x
  later (inl i) = inl (record { place = suc i.place; at = i.at })
  later (inr i) = inr i

one_if : {X : Type 0} (b : Bool) (x y : X) (k : ℕ) → slice_get (if b then x ∷ [] else []) k ≡ Some y → (b ≡ true) × (x ≡ y)
one_if true x y zero e = (refl, same_Some x y e)
one_if true x y (suc k) e = absurd cc
one_if false x y k e = absurd cc

-- a name is that of the end of a lane that this party uses
pub record IsEndOf (w : Who) (l : PlainLane) (name : SideName) : Type 0 where
  pub from : name.puts ≡ true → (l.from.who ≡ w) × (l.from.queue ≡ name.queue)
  pub to : name.puts ≡ false → (l.to.who ≡ w) × (l.to.queue ≡ name.queue)

-- and the lane is here
pub record IsHere (w : Who) (node place : ℕ) (l : PlainLane) (name : SideName) : Type 0 where
  pub node_is : name.node ≡ node
  pub lane_is : name.lane ≡ place
  pub end : IsEndOf w l name

at_from : (w : Who) (node place : ℕ) (l : PlainLane) (name : SideName) → is_who w l.from.who ≡ true → putting_end node place l ≡ name → IsHere w node place l name
at_from w node place l name its e = record {
  node_is = ap (λ (m : SideName). m.node) (sym e);
  lane_is = ap (λ (m : SideName). m.lane) (sym e);
  end = record { from = λ way. (sym (who_is w l.from.who its), ap (λ (m : SideName). m.queue) e); to = λ way. absurd (true≢false (ap (λ (m : SideName). m.puts) e ∙ way)) };
}

at_to : (w : Who) (node place : ℕ) (l : PlainLane) (name : SideName) → is_who w l.to.who ≡ true → getting_end node place l ≡ name → IsHere w node place l name
at_to w node place l name its e = record {
  node_is = ap (λ (m : SideName). m.node) (sym e);
  lane_is = ap (λ (m : SideName). m.lane) (sym e);
  end = record { from = λ way. absurd (true≢false (sym way ∙ ap (λ (m : SideName). m.puts) (sym e))); to = λ way. (sym (who_is w l.to.who its), ap (λ (m : SideName). m.queue) e) };
}

at_lane : (w : Who) (node place : ℕ) (l : PlainLane) (name : SideName) → IsIn (sides_at w node place l) name → IsHere w node place l name
at_lane w node place l name i = by (in_both (if is_who w l.from.who then putting_end node place l ∷ [] else []) (if is_who w l.to.who then getting_end node place l ∷ [] else []) i.place name i.at) where
  by : IsIn (if is_who w l.from.who then putting_end node place l ∷ [] else []) name ⊎ IsIn (if is_who w l.to.who then getting_end node place l ∷ [] else []) name → IsHere w node place l name
  by (inl j) = let r = one_if (is_who w l.from.who) (putting_end node place l) name j.place j.at in at_from w node place l name r.0 r.1
  by (inr j) = let r = one_if (is_who w l.to.who) (getting_end node place l) name j.place j.at in at_to w node place l name r.0 r.1

-- among the lanes of a node, from this place on
record IsAmong (w : Who) (node base : ℕ) (ls : List PlainLane) (name : SideName) : Type 0 where
  pub at : ℕ
  pub wire : PlainLane
  pub there : slice_get ls at ≡ Some wire
  pub here : IsHere w node (base + at) wire name

among : (w : Who) (node base : ℕ) (ls : List PlainLane) (name : SideName) → IsIn (sides_among w node base ls) name → IsAmong w node base ls name
among w node base [] name i = let e = i.at in absurd cc
among w node base (l ∷ ls) name i =
    by (λ j. among w node (base + 1) ls name j) (in_both (sides_at w node base l) (sides_among w node (base + 1) ls) i.place name i.at)
  where
    by : (IsIn (sides_among w node (base + 1) ls) name → IsAmong w node (base + 1) ls name) → IsIn (sides_at w node base l) name ⊎ IsIn (sides_among w node (base + 1) ls) name → IsAmong w node base (l ∷ ls) name
    by rest (inl j) = record { at = 0; wire = l; there = refl; here = subst (λ m. IsHere w node m l name) (omega arith) (at_lane w node base l name j) }
    by rest (inr j) = let r = rest j in record { at = suc r.at; wire = r.wire; there = r.there; here = subst (λ m. IsHere w node m r.wire name) (omega arith) r.here }

-- among those of all nodes, from this node on
record IsOn (w : Who) (base : ℕ) (wires : List (List PlainLane)) (name : SideName) : Type 0 where
  pub at : ℕ
  pub node_is : name.node ≡ base + at
  pub lanes : List PlainLane
  pub there : slice_get wires at ≡ Some lanes
  pub wire : PlainLane
  pub here : slice_get lanes name.lane ≡ Some wire
  pub end : IsEndOf w wire name

on : (w : Who) (base : ℕ) (wires : List (List PlainLane)) (name : SideName) → IsIn (sides_from w base wires) name → IsOn w base wires name
on w base [] name i = let e = i.at in absurd cc
on w base (ls ∷ wires) name i =
    by (λ j. on w (base + 1) wires name j) (in_both (sides_among w base 0 ls) (sides_from w (base + 1) wires) i.place name i.at)
  where
    by : (IsIn (sides_from w (base + 1) wires) name → IsOn w (base + 1) wires name) → IsIn (sides_among w base 0 ls) name ⊎ IsIn (sides_from w (base + 1) wires) name → IsOn w base (ls ∷ wires) name
    by rest (inl j) =
        let r = among w base 0 ls name j in
        let place : name.lane ≡ r.at = r.here.lane_is ∙ omega arith in
        record { at = 0; node_is = r.here.node_is ∙ omega arith; lanes = ls; there = refl; wire = r.wire; here = ap (slice_get ls) place ∙ r.there; end = r.here.end }
    by rest (inr j) =
        let r = rest j in
        record { at = suc r.at; node_is = r.node_is ∙ omega arith; lanes = r.lanes; there = r.there; wire = r.wire; here = r.here; end = r.end }

-- the lane of an end that a party has
pub record HasWire (scene : PlainScene) (w : Who) (name : SideName) : Type 0 where
  pub wire : PlainLane
  pub at : wire_at scene name.node name.lane ≡ Some wire
  pub end : IsEndOf w wire name

pub wire_named : (scene : PlainScene) (w : Who) (sides : List PlainSide) (k : ℕ) (x : PlainSide) → map name_of sides ≡ sides_of scene w → slice_get sides k ≡ Some x → HasWire scene w (name_of x)
wire_named scene w sides k x same at =
    let named : slice_get (sides_of scene w) k ≡ Some (name_of x) = ap (λ ns. slice_get ns k) (sym same) ∙ slice_get-map name_of sides k ∙ ap (option_map name_of) at in
    let r = on w 0 (wires_of scene) (name_of x) (record { place = k; at = named }) in
    let there : slice_get (wires_of scene) x.node ≡ Some r.lanes = ap (slice_get (wires_of scene)) (r.node_is ∙ omega arith) ∙ r.there in
    record { wire = r.wire; at = ap (option_and_then (λ ls. slice_get ls x.lane)) there ∙ r.here; end = r.end }
