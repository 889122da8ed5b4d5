-- The lane of an end that a party has.
use Rattle.std.proofs.Common.{◌≡◌, ◌⊎◌, inl, inr, ◌+◌, ℕ, zero, suc, Bool, true, false, List, [], ◌∷◌, ◌++◌, Some, refl, sym, ap, ◌∙◌, subst, arith}
use Rattle.std.specs.Prelude.{if◌then◌else◌, slice_get}
use Rattle.std.specs.Option.{option_and_then}
use Rattle.std.proofs.lemmas.Option.{same_Some}
use Rattle.csp_consistent.proofs.Public.{who_is}
use Rattle.csp_log.specs.Who.{is_who}
use Rattle.csp_log.specs.declared.who.Who.{Who}
use Rattle.csp_scene.specs.Scene.{PlainScene}
use Rattle.csp_standing.proofs.Public.{IsIn, getting_end, putting_end}
use Rattle.csp_standing.specs.Network.{SideName, sides_among, sides_at, sides_from, sides_of}
use Rattle.csp_topology.specs.Lanes.{PlainLane}
use Rattle.csp_topology.specs.Wired.{Side, end_on, getting, putting}
use Rattle.csp_topology.specs.Wires.{wire_at, wires_of}

-- what is among two lists is among one of them
in_two : {X : Type 0} (xs ys : List X) (k : ℕ) (z : X) → slice_get (xs ++ ys) k ≡ Some z → IsIn xs z ⊎ IsIn ys z
in_two [] ys k z e = inr (record { place = k; at = e })
in_two (x ∷ xs) ys zero z e = inl (record { place = 0; at = e })
in_two {X = X} (x ∷ xs) ys (suc k) z e = by (in_two xs ys k z e) where
  by : IsIn xs z ⊎ IsIn ys z → IsIn (x ∷ xs) z ⊎ IsIn ys z
  by (inl i) = inl (record { place = suc i.place; at = i.at })
  by (inr i) = inr i

in_none : {X : Type 0} (z : X) (k : ℕ) → slice_get [] k ≡ Some z → ⊥
in_none z k e = absurd cc

in_one : {X : Type 0} (x z : X) (k : ℕ) → slice_get (x ∷ []) k ≡ Some z → x ≡ z
in_one x z zero e = same_Some x z e
in_one x z (suc k) e = absurd (in_none z k e)

-- the side of a lane that puts, and the other
abbrev pub side_by : Bool → Side
side_by true = putting
side_by false = getting

-- a party calls an end of a lane by this name
pub record IsNameOf (w : Who) (name : SideName) (l : PlainLane) : Type 0 where
  pub who : (end_on (side_by name.puts) l).who ≡ w
  pub queue : (end_on (side_by name.puts) l).queue ≡ name.queue
  pub carries : name.carries ≡ l.carries

-- of one lane
record IsOne (w : Who) (node place : ℕ) (l : PlainLane) (name : SideName) : Type 0 where
  node_is : name.node ≡ node
  lane_is : name.lane ≡ place
  its : IsNameOf w name l

one_of : (w : Who) (node place : ℕ) (l : PlainLane) (name : SideName) → IsIn (sides_at w node place l) name → IsOne w node place l name
one_of w node place l name i =
    by (in_two (if is_who w l.from.who then putting_end node place l ∷ [] else []) (if is_who w l.to.who then getting_end node place l ∷ [] else []) i.place name i.at)
  where
    from : (b : Bool) → is_who w l.from.who ≡ b → IsIn (if b then putting_end node place l ∷ [] else []) name → IsOne w node place l name
    from true e j = subst (IsOne w node place l) (in_one (putting_end node place l) name j.place j.at) (record { node_is = refl; lane_is = refl; its = record { who = sym (who_is w l.from.who e); queue = refl; carries = refl } })
    from false e j = absurd (in_none name j.place j.at)

    to : (b : Bool) → is_who w l.to.who ≡ b → IsIn (if b then getting_end node place l ∷ [] else []) name → IsOne w node place l name
    to true e j = subst (IsOne w node place l) (in_one (getting_end node place l) name j.place j.at) (record { node_is = refl; lane_is = refl; its = record { who = sym (who_is w l.to.who e); queue = refl; carries = refl } })
    to false e j = absurd (in_none name j.place j.at)

    by : IsIn (if is_who w l.from.who then putting_end node place l ∷ [] else []) name ⊎ IsIn (if is_who w l.to.who then getting_end node place l ∷ [] else []) name → IsOne w node place l name
    by (inl j) = from (is_who w l.from.who) refl j
    by (inr j) = to (is_who w l.to.who) refl j

-- of one of these lanes of a node, from this place on
record IsAmong (w : Who) (node first : ℕ) (ls : List PlainLane) (name : SideName) : Type 0 where
  place : ℕ
  lane : PlainLane
  at : slice_get ls place ≡ Some lane
  its : IsOne w node (first + place) lane name

among_of : (w : Who) (node first : ℕ) (ls : List PlainLane) (name : SideName) → IsIn (sides_among w node first ls) name → IsAmong w node first ls name
among_of w node first [] name i = absurd (in_none name i.place i.at)
among_of w node first (l ∷ ls) name i =
    by (in_two (sides_at w node first l) (sides_among w node (first + 1) ls) i.place name i.at) (among_of w node (first + 1) ls name)
  where
    by : IsIn (sides_at w node first l) name ⊎ IsIn (sides_among w node (first + 1) ls) name → (IsIn (sides_among w node (first + 1) ls) name → IsAmong w node (first + 1) ls name) → IsAmong w node first (l ∷ ls) name
    by (inl j) later = record { place = 0; lane = l; at = refl; its = subst (λ n. IsOne w node n l name) (omega arith) (one_of w node first l name j) }
    by (inr j) later =
        let r = later j in
        record { place = suc r.place; lane = r.lane; at = r.at; its = subst (λ n. IsOne w node n r.lane name) (omega arith) r.its }

-- of one of those of all nodes, from this node on
record IsFrom (w : Who) (first : ℕ) (wires : List (List PlainLane)) (name : SideName) : Type 0 where
  place : ℕ
  lane : PlainLane
  node_is : name.node ≡ first + place
  at : option_and_then (λ ls. slice_get ls name.lane) (slice_get wires place) ≡ Some lane
  its : IsNameOf w name lane

from_of : (w : Who) (first : ℕ) (wires : List (List PlainLane)) (name : SideName) → IsIn (sides_from w first wires) name → IsFrom w first wires name
from_of w first [] name i = absurd (in_none name i.place i.at)
from_of w first (ls ∷ wires) name i =
    by (in_two (sides_among w first 0 ls) (sides_from w (first + 1) wires) i.place name i.at) (from_of w (first + 1) wires name)
  where
    by : IsIn (sides_among w first 0 ls) name ⊎ IsIn (sides_from w (first + 1) wires) name → (IsIn (sides_from w (first + 1) wires) name → IsFrom w (first + 1) wires name) → IsFrom w first (ls ∷ wires) name
    by (inl j) later =
        let a = among_of w first 0 ls name j in
        let here : name.lane ≡ a.place = a.its.lane_is ∙ omega arith in
        record { place = 0; lane = a.lane; node_is = a.its.node_is ∙ omega arith; at = ap (slice_get ls) here ∙ a.at; its = a.its.its }
    by (inr j) later =
        let r = later j in
        record { place = suc r.place; lane = r.lane; node_is = r.node_is ∙ omega arith; at = r.at; its = r.its }

-- the lane of a name
pub record HasWire (scene : PlainScene) (w : Who) (name : SideName) : Type 0 where
  pub lane : PlainLane
  pub at : wire_at scene name.node name.lane ≡ Some lane
  pub its : IsNameOf w name lane

pub wire_of : (scene : PlainScene) (w : Who) (k : ℕ) (name : SideName) → slice_get (sides_of scene w) k ≡ Some name → HasWire scene w name
wire_of scene w k name e =
    let r = from_of w 0 (wires_of scene) name (record { place = k; at = e }) in
    let here : name.node ≡ r.place = r.node_is ∙ omega arith in
    record { lane = r.lane; at = ap (λ n. wire_at scene n name.lane) here ∙ r.at; its = r.its }
