-- The lanes that a topology has are those of its scene, and their parties stand where they say.
use Rattle.std.proofs.Common.{◌≡◌, ℕ, zero, suc, ◌+◌, Option, Some, None, IsSomeAnd, List, [], ◌∷◌, length, map, slice_get, ap, refl, sym, subst, ◌∙◌, arith, inl, inr}
use Rattle.std.specs.Option.{option_and_then}
use Rattle.std.specs.Prelude.{◌⊎◌}
use Rattle.std.proofs.lemmas.Option.{same_Some}
use Rattle.csp_log.specs.Who.{node_of}
use Rattle.csp_log.specs.declared.who.Who.{Who}
use Rattle.csp_log.specs.declared.who.Who.TheVariants as who
use Rattle.csp_scene.specs.Links.{links_at}
use Rattle.csp_scene.specs.Scene.{PlainLink, PlainNode, PlainScene}
use Rattle.csp_topology.proofs.Ends.{all_join, all_stay}
use Rattle.csp_topology.proofs.Joints.{ArePlaced}
use Rattle.csp_topology.proofs.PartyLemmas.{node_count}
use Rattle.csp_topology.proofs.PartyPlaces.{begins, ends, party_at, place_of, stands_so, start}
use Rattle.csp_topology.proofs.Places.{get-made, made-from}
use Rattle.csp_topology.proofs.WirePlaces.{is_here, room_named, wire_there, wires_here}
use Rattle.csp_topology.specs.Lanes.{PlainEnd, PlainLane}
use Rattle.csp_topology.specs.Parties.{PlainOpening, parties_of}
use Rattle.csp_topology.specs.Wired as wired
use Rattle.csp_topology.specs.Wired.{Stands}
use Rattle.csp_topology.specs.Wires.{wire_at, wires_at}
use Rattle.csp_topology.specs.Wiring.{AreWires, IsWireOf, place_by, wire_by, wired_at, wired_from}
use Rattle.csp_topology.specs.declared.wire.Spots.{Spots}
use Rattle.csp_topology.specs.declared.wire.Wire.{Wire}

-- ---- where the parties of a node begin

abbrev first_of : ℕ → ℕ → List PlainNode → List PlainLink → ℕ → ℕ
first_of place first [] links k = first
first_of place first (n ∷ nodes) links zero = first
first_of place first (n ∷ nodes) links (suc k) = first_of (place + 1) (first + 1 + length (links_at place links) + length n.apps) nodes links k

first_start : (place first : ℕ) (nodes : List PlainNode) (links : List PlainLink) (k : ℕ) → first_of place first nodes links k ≡ first + start place nodes links k
first_start place first [] links k = omega arith
first_start place first (n ∷ nodes) links zero = omega arith
first_start place first (n ∷ nodes) links (suc k) =
    let rest = first_start (place + 1) (first + 1 + length (links_at place links) + length n.apps) nodes links k in
    let size = node_count place n (links_at place links) in
    omega (arith, rest, size)

abbrev spots_for : ℕ → ℕ → ℕ → List PlainLink → Spots
spots_for first place last links = record { first = first; ifaces = length (links_at place links); links = last }

-- the lanes of a node
wired_in : (place first last : ℕ) (nodes : List PlainNode) (links : List PlainLink) (k m : ℕ) (n : PlainNode) → slice_get nodes k ≡ Some n → m ≡ place + k
    → slice_get (wired_from place first last nodes links) k ≡ Some (map (wire_by (spots_for (first_of place first nodes links k) m last links)) (wires_at m n links))
wired_in place first last [] links k m n there at = absurd cc
wired_in place first last (x ∷ nodes) links zero m n there at =
    let here : place ≡ m = omega (arith, at) in
    ap (λ (y : PlainNode). Some (map (wire_by (spots_for first place last links)) (wires_at place y links))) (same_Some x n there)
    ∙ ap (λ (p : ℕ). Some (map (wire_by (spots_for first p last links)) (wires_at p n links))) here
wired_in place first last (x ∷ nodes) links (suc k) m n there at = wired_in (place + 1) (first + 1 + length (links_at place links) + length x.apps) last nodes links k m n there (omega (arith, at))

wired_node : (place first last : ℕ) (nodes : List PlainNode) (links : List PlainLink) (k : ℕ) (ws : List Wire) → slice_get (wired_from place first last nodes links) k ≡ Some ws → (n : PlainNode) × (slice_get nodes k ≡ Some n)
wired_node place first last [] links k ws e = absurd cc
wired_node place first last (x ∷ nodes) links zero ws e = (x, refl)
wired_node place first last (x ∷ nodes) links (suc k) ws e = wired_node (place + 1) (first + 1 + length (links_at place links) + length x.apps) last nodes links k ws e

wired_count : (place first last : ℕ) (nodes : List PlainNode) (links : List PlainLink) → length (wired_from place first last nodes links) ≡ length nodes
wired_count place first last [] links = refl
wired_count place first last (x ∷ nodes) links = ap suc (wired_count (place + 1) (first + 1 + length (links_at place links) + length x.apps) last nodes links)

-- ---- of a scene

abbrev spots_of : PlainScene → ℕ → Spots
spots_of scene node = spots_for (first_of 0 0 scene.nodes scene.links node) node (ends scene) scene.links

abbrev pub all_wired : PlainScene → List (List Wire)
all_wired scene = wired_from 0 0 (ends scene) scene.nodes scene.links

place_same : (scene : PlainScene) (node : ℕ) (w : Who) → (node_of w ≡ Some node) ⊎ ((k : ℕ) × (w ≡ who.Link k)) → place_by (spots_of scene node) w ≡ place_of scene w
place_same scene node (who.Router m) (inl home) = first_start 0 0 scene.nodes scene.links node ∙ begin ∙ ap (begins scene) (sym (same_Some m node home)) where
  begin : 0 + start 0 scene.nodes scene.links node ≡ begins scene node
  begin = omega arith
place_same scene node (who.Bridge m) (inl home) = first_start 0 0 scene.nodes scene.links node ∙ begin ∙ ap (begins scene) (sym (same_Some m node home)) where
  begin : 0 + start 0 scene.nodes scene.links node ≡ begins scene node
  begin = omega arith
place_same scene node (who.Iface m k) (inl home) =
    let first = first_start 0 0 scene.nodes scene.links node in
    let here : first_of 0 0 scene.nodes scene.links node + 1 + k ≡ begins scene node + suc k = omega (arith, first) in
    here ∙ ap (λ (x : ℕ). begins scene x + suc k) (sym (same_Some m node home))
place_same scene node (who.App m k) (inl home) =
    let first = first_start 0 0 scene.nodes scene.links node in
    let here : first_of 0 0 scene.nodes scene.links node + 1 + length (links_at node scene.links) + k ≡ begins scene node + suc (length (links_at node scene.links) + k) = omega (arith, first) in
    here ∙ ap (λ (x : ℕ). begins scene x + suc (length (links_at x scene.links) + k)) (sym (same_Some m node home))
place_same scene node (who.Link k) home = refl
place_same scene node (who.Router m) (inr (k, e)) = absurd cc
place_same scene node (who.Bridge m) (inr (k, e)) = absurd cc
place_same scene node (who.Iface m i) (inr (k, e)) = absurd cc
place_same scene node (who.App m i) (inr (k, e)) = absurd cc

named_there : (scene : PlainScene) (w : Who) → Stands scene w → slice_get (map (λ (o : PlainOpening). o.who) (parties_of scene)) (place_of scene w) ≡ Some w
named_there scene w s =
    ap (slice_get (map (λ (o : PlainOpening). o.who) (parties_of scene))) (ap (place_of scene) (sym s.named) ∙ sym (stands_so scene s.place s.party (party_at scene s.place s.party s.at)))
    ∙ get-made (λ (o : PlainOpening). o.who) (parties_of scene) s.place s.party s.at
    ∙ ap (λ (x : Who). Some x) s.named

of_end : (node : ℕ) (l : PlainLane) (e : PlainEnd) → wired.IsEndOf node l e → (node_of e.who ≡ Some node) ⊎ ((k : ℕ) × (e.who ≡ who.Link k))
of_end node l e (inl own) = inl own.home
of_end node l e (inr link) = inr (link.number, link.link)

wire_fits : (scene : PlainScene) → ArePlaced scene → (node k : ℕ) (l : PlainLane) → wire_at scene node k ≡ Some l → IsWireOf scene l (wire_by (spots_of scene node) l)
wire_fits scene are node k l e =
    let joins = all_join scene are node k l e in
    let stays = all_stay scene are node k l e in
    let named : List Who = map (λ (o : PlainOpening). o.who) (parties_of scene) in
    record {
      named = refl;
      carries = refl;
      room = room_named scene node k l e;
      from = record { party = ap (slice_get named) (place_same scene node l.from.who (of_end node l l.from stays.from)) ∙ named_there scene l.from.who joins.from; called = refl };
      to = record { party = ap (slice_get named) (place_same scene node l.to.who (of_end node l l.to stays.to)) ∙ named_there scene l.to.who joins.to; called = refl };
    }

wired_here : (scene : PlainScene) (node : ℕ) (n : PlainNode) → slice_get scene.nodes node ≡ Some n → slice_get (all_wired scene) node ≡ Some (map (wire_by (spots_of scene node)) (wires_here scene node n))
wired_here scene node n there = wired_in 0 0 (ends scene) scene.nodes scene.links node node n there (omega arith)

some_and : {X : Type 0} (P : X → Type 0) (o : Option X) (x : X) → o ≡ Some x → P x → IsSomeAnd o P
some_and P o x e p = subst (λ (y : Option _). IsSomeAnd y P) (sym e) p

pub all_are_wires : (scene : PlainScene) → ArePlaced scene → AreWires scene (all_wired scene)
all_are_wires scene are = record {
  count = wired_count 0 0 (ends scene) scene.nodes scene.links;
  each = each;
  only = only;
} where
  each : (node k : ℕ) (l : PlainLane) → wire_at scene node k ≡ Some l → IsSomeAnd (wired_at (all_wired scene) node k) (IsWireOf scene l)
  each node k l e =
      let h = is_here scene node k l e in
      some_and (IsWireOf scene l) (wired_at (all_wired scene) node k) (wire_by (spots_of scene node) l)
      (ap (option_and_then (λ (ws : List Wire). slice_get ws k)) (wired_here scene node h.n h.there) ∙ get-made (wire_by (spots_of scene node)) (wires_here scene node h.n) k l h.at)
      (wire_fits scene are node k l e)

  only : (node k : ℕ) (w : Wire) → wired_at (all_wired scene) node k ≡ Some w → IsSomeAnd (wire_at scene node k) (λ l. IsWireOf scene l w)
  only node k w e = by (slice_get (all_wired scene) node) refl e where
    by : (o : Option (List Wire)) → slice_get (all_wired scene) node ≡ o → option_and_then (λ ws. slice_get ws k) o ≡ Some w → IsSomeAnd (wire_at scene node k) (λ l. IsWireOf scene l w)
    by None f g = absurd cc
    by (Some ws) f g =
        let (n, there) = wired_node 0 0 (ends scene) scene.nodes scene.links node ws f in
        let same : ws ≡ map (wire_by (spots_of scene node)) (wires_here scene node n) = same_Some ws (map (wire_by (spots_of scene node)) (wires_here scene node n)) (sym f ∙ wired_here scene node n there) in
        let (l, at, is) = made-from (wire_by (spots_of scene node)) (wires_here scene node n) k w (ap (λ (xs : List Wire). slice_get xs k) (sym same) ∙ g) in
        let wire = wire_there scene node k n l there at in
        some_and (λ (x : PlainLane). IsWireOf scene x w) (wire_at scene node k) l wire (subst (IsWireOf scene l) is (wire_fits scene are node k l wire))
