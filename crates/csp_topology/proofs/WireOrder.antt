-- The lanes of a node stand in the order of its queues.
use Rattle.std.proofs.Common.{◌≡◌, ℕ, Some, List, [], ◌∷◌, ◌++◌, length, map, slice_get, ap, refl, sym, ◌∙◌}
use Rattle.std.specs.List.{range_with_len}
use Rattle.std.proofs.lemmas.List.{append_assoc, map-append}
use Rattle.std.proofs.lemmas.Option.{same_Some}
use Rattle.csp_deck.specs.Carried.{places_of}
use Rattle.csp_lists.specs.Order.{lanes, places_in}
use Rattle.csp_log.specs.declared.places.Place.{Place}
use Rattle.csp_log.specs.declared.places.Place.TheVariants as place
use Rattle.csp_log.specs.declared.places.QueueId.{QueueId}
use Rattle.csp_log.specs.declared.places.QueueId.TheVariants as queue
use Rattle.csp_scene.specs.Links.{links_at}
use Rattle.csp_scene.specs.Scene.{PlainNode, PlainScene}
use Rattle.csp_topology.proofs.Joints.{ArePlaced, iface_at, joints_of, joints_ordered}
use Rattle.csp_topology.proofs.WirePlaces.{wires_here, wires_there}
use Rattle.csp_topology.specs.Lanes.{PlainLane, leader_of, out_lane}
use Rattle.csp_topology.specs.Wires.{PlainJoint, down_lane, rx_lane, tx_lane, up_lane, wires_of}

-- ---- the order

abbrev place_for : PlainLane → Place
place_for l = place.Lane l.queue

-- of lanes at joints, and of lanes by number
named_joints : (g : PlainJoint → PlainLane) (name : ℕ → QueueId) → ((j : PlainJoint) → (g j).queue ≡ name j.end.iface) → (js : List PlainJoint) → map place_for (map g js) ≡ map (λ k. place.Lane (name k)) (map iface_at js)
named_joints g name is [] = refl
named_joints g name is (j ∷ js) =
    ap (λ (q : QueueId). place.Lane q ∷ map place_for (map g js)) (is j)
    ∙ ap (λ (ps : List Place). place.Lane (name j.end.iface) ∷ ps) (named_joints g name is js)

named_numbers : (g : ℕ → PlainLane) (name : ℕ → QueueId) → ((k : ℕ) → (g k).queue ≡ name k) → (ks : List ℕ) → map place_for (map g ks) ≡ map (λ k. place.Lane (name k)) ks
named_numbers g name is [] = refl
named_numbers g name is (k ∷ ks) =
    ap (λ (q : QueueId). place.Lane q ∷ map place_for (map g ks)) (is k)
    ∙ ap (λ (ps : List Place). place.Lane (name k) ∷ ps) (named_numbers g name is ks)

-- one list, then the others
then_all : (xs ys : List PlainLane) (zs ps : List Place) → map place_for xs ≡ ps → map place_for (xs ++ ys) ++ zs ≡ ps ++ (map place_for ys ++ zs)
then_all xs ys zs ps e =
    ap (λ (qs : List Place). qs ++ zs) (map-append place_for xs ys)
    ∙ append_assoc (map place_for xs) (map place_for ys) zs
    ∙ ap (λ (qs : List Place). qs ++ (map place_for ys ++ zs)) e

-- five lists, one after the other
then_five : (a b c d e : List PlainLane) {pa pb pc pd pe : List Place} (zs : List Place) → map place_for a ≡ pa → map place_for b ≡ pb → map place_for c ≡ pc → map place_for d ≡ pd → map place_for e ≡ pe
    → map place_for (a ++ (b ++ (c ++ (d ++ e)))) ++ zs ≡ pa ++ (pb ++ (pc ++ (pd ++ (pe ++ zs))))
then_five a b c d e {pa = pa} {pb = pb} {pc = pc} {pd = pd} zs ha hb hc hd he =
    then_all a (b ++ (c ++ (d ++ e))) zs pa ha
    ∙ ap (λ (ps : List Place). pa ++ ps) (then_all b (c ++ (d ++ e)) zs pb hb
    ∙ ap (λ (ps : List Place). pb ++ ps) (then_all c (d ++ e) zs pc hc
    ∙ ap (λ (ps : List Place). pc ++ ps) (then_all d e zs pd hd
    ∙ ap (λ (ps : List Place). pd ++ (ps ++ zs)) he)))

joined : (scene : PlainScene) → ArePlaced scene → (node : ℕ) (g : PlainJoint → PlainLane) (name : ℕ → QueueId) → ((j : PlainJoint) → (g j).queue ≡ name j.end.iface) → map place_for (map g (joints_of scene node)) ≡ lanes name (length (links_at node scene.links))
joined scene are node g name is = named_joints g name is (joints_of scene node) ∙ ap (λ (ks : List ℕ). map (λ k. place.Lane (name k)) ks) (joints_ordered scene are node).0

in_order : (scene : PlainScene) → ArePlaced scene → (node : ℕ) (n : PlainNode) → map place_for (wires_here scene node n) ++ places_of queue.Inbox ≡ places_in (record { ifaces = length (links_at node scene.links); apps = length n.apps })
in_order scene are node n =
    let hub = leader_of node n.addr in
    let ifaces = range_with_len 0 (length (links_at node scene.links)) in
    let apps = range_with_len 0 (length n.apps) in
    then_five _ _ _ _ _ (places_of queue.Inbox) (joined scene are node rx_lane queue.Rx (λ j. refl)) (joined scene are node tx_lane queue.Tx (λ j. refl)) (named_numbers (out_lane node hub) queue.Out (λ k. refl) ifaces)
    (named_numbers (down_lane node hub) queue.Down (λ k. refl) apps) (named_numbers (up_lane node hub) queue.Up (λ k. refl) apps)

pub wires_ordered : (scene : PlainScene) → ArePlaced scene → (node : ℕ) (n : PlainNode) (wires : List PlainLane) → slice_get scene.nodes node ≡ Some n → slice_get (wires_of scene) node ≡ Some wires
    → map place_for wires ++ places_of queue.Inbox ≡ places_in (record { ifaces = length (links_at node scene.links); apps = length n.apps })
wires_ordered scene are node n wires there at =
    ap (λ (ws : List PlainLane). map place_for ws ++ places_of queue.Inbox) (same_Some wires (wires_here scene node n) (sym at ∙ wires_there scene node n there))
    ∙ in_order scene are node n
