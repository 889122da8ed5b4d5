-- The lanes that the program's topology has are seen as those of its scene.
use Rattle.std.proofs.Common.{◌≡◌, ℕ, ◌+◌, ◌==◌, Bool, true, false, cond, List, [], ◌∷◌, length, map, ap, refl, sym, ◌∙◌}
use Rattle.std.specs.List.{AllByRecursion, range_with_len}
use Rattle.std.proofs.lemmas.Bool.{eqb-true}
use Rattle.csp_log.specs.declared.who.Who.{Who}
use Rattle.csp_scene.proofs.Public.{AllByRecursion-append}
use Rattle.csp_scene.specs.Links.{links_at}
use Rattle.csp_scene.specs.Scene.{PlainLink, PlainNode, PlainScene}
use Rattle.csp_topology.specs.Lanes.{PlainLane, leader_of, out_lane}
use Rattle.csp_topology.specs.Wires.{PlainJoint, down_lane, is_at, joints_at, joints_from, rx_lane, tx_lane, up_lane, wires_at, wires_from, wires_of}
use Rattle.csp_topology.specs.Wiring.{lane_seen, lanes_seen, wire_by, wired_from}
use Rattle.csp_topology.specs.declared.wire.Spots.{Spots}

-- the lane of a wire is the lane of which the wire was made
module _ (place : ℕ) (s : Spots) where
  seen_again : (ls : List PlainLane) → AllByRecursion (λ l. l.node ≡ place) ls → map (lane_seen place) (map (wire_by s) ls) ≡ ls
  seen_again [] home = refl
  seen_again (l ∷ ls) home =
      ap (λ (n : ℕ). record l { node = n } ∷ map (lane_seen place) (map (wire_by s) ls)) (sym home.0)
      ∙ ap (λ (rest : List PlainLane). l ∷ rest) (seen_again ls home.1)

-- all lanes of a node are its own
abbrev AreHere : ℕ → List PlainLane → Type 0
AreHere place ls = AllByRecursion (λ l. l.node ≡ place) ls

module _ (place : ℕ) where
  by_number : (f : ℕ → PlainLane) → ((k : ℕ) → (f k).node ≡ place) → (ks : List ℕ) → AreHere place (map f ks)
  by_number f each [] = tt
  by_number f each (k ∷ ks) = (each k, by_number f each ks)

  by_joint : (f : PlainJoint → PlainLane) → ((j : PlainJoint) → (f j).node ≡ j.end.node) → (js : List PlainJoint) → AreHere place (map f (joints_at place js))
  by_joint f each [] = tt
  by_joint f each (j ∷ js) = by (is_at place j) refl (by_joint f each js) where
    by : (b : Bool) → (j.end.node == place) ≡ b → AreHere place (map f (joints_at place js)) → AreHere place (map f (cond b (j ∷ joints_at place js) (joints_at place js)))
    by true e rest = (each j ∙ eqb-true j.end.node place e, rest)
    by false e rest = rest

  all_here : (n : PlainNode) (links : List PlainLink) → AreHere place (wires_at place n links)
  all_here n links =
      let hub : Who = leader_of place n.addr in
      let js : List PlainJoint = joints_from 0 links in
      let ifaces = range_with_len 0 (length (links_at place links)) in
      let apps = range_with_len 0 (length n.apps) in
      let here : PlainLane → Type 0 = λ l. l.node ≡ place in
      AllByRecursion-append here (map rx_lane (joints_at place js)) _ (by_joint rx_lane (λ j. refl) js)
      (AllByRecursion-append here (map tx_lane (joints_at place js)) _ (by_joint tx_lane (λ j. refl) js)
      (AllByRecursion-append here (map (out_lane place hub) ifaces) _ (by_number (out_lane place hub) (λ k. refl) ifaces)
      (AllByRecursion-append here (map (down_lane place hub) apps) _ (by_number (down_lane place hub) (λ k. refl) apps) (by_number (up_lane place hub) (λ k. refl) apps))))

rows_seen : (place first last : ℕ) (nodes : List PlainNode) (links : List PlainLink) → lanes_seen place (wired_from place first last nodes links) ≡ wires_from place nodes links
rows_seen place first last [] links = refl
rows_seen place first last (n ∷ nodes) links =
    let s : Spots = record { first = first; ifaces = length (links_at place links); links = last } in
    let next = first + 1 + length (links_at place links) + length n.apps in
    ap (λ (row : List PlainLane). row ∷ lanes_seen (place + 1) (wired_from (place + 1) next last nodes links)) (seen_again place s (wires_at place n links) (all_here place n links))
    ∙ ap (λ (rows : List (List PlainLane)). wires_at place n links ∷ rows) (rows_seen (place + 1) next last nodes links)

pub lanes_are : (scene : PlainScene) (last : ℕ) → lanes_seen 0 (wired_from 0 0 last scene.nodes scene.links) ≡ wires_of scene
unfolding wires_of
lanes_are scene last = rows_seen 0 0 last scene.nodes scene.links
