-- Steps of the loops that list the lanes of a node.
use Rattle.std.proofs.Common.{◌≡◌, ℕ, zero, suc, ◌+◌, ◌<◌, ◌≤◌, Bool, cond, List, [], ◌∷◌, ◌++◌, drop, length, map, slice_index_or, ap, refl, sym, subst, ◌∙◌, arith}
use Rattle.std.specs.List.{AllByRecursion, range_with_len}
use Rattle.std.proofs.lemmas.List.{append_assoc, map-append}
use Rattle.std.proofs.lemmas.Simd.{map-map}
use Rattle.std.proofs.lemmas.List.FromFn.{map-range_with_len_more}
use Rattle.csp_log.specs.declared.who.Who.{Who}
use Rattle.csp_scene.specs.Links.{links_at}
use Rattle.csp_scene.specs.Ranges.{IsLink, IsNode}
use Rattle.csp_scene.specs.Scene.{PlainLink, PlainNode}
use Rattle.csp_topology.proofs.Joints.{TouchOf, at_none, at_one, split_at, touch_of}
use Rattle.csp_topology.proofs.PlanLemmas.{links_few}
use Rattle.csp_topology.specs.Lanes.{PlainLane, out_lane}
use Rattle.csp_topology.specs.Wires.{PlainJoint, down_lane, joints_at, joints_from, rx_lane, tx_lane, up_lane, wires_at, wires_with}
use Rattle.csp_topology.specs.Wiring.{wire_by, wired_from}
use Rattle.csp_topology.specs.declared.wire.Spots.{Spots}
use Rattle.csp_topology.specs.declared.wire.Wire.{Wire}

-- one more of those that are numbered
pub one_more : (f : ℕ → Wire) (old : List Wire) (k : ℕ) → (old ++ map f (range_with_len 0 k)) ++ f k ∷ [] ≡ old ++ map f (range_with_len 0 (k + 1))
one_more f old k =
    append_assoc old (map f (range_with_len 0 k)) (f k ∷ [])
    ∙ ap (λ (ws : List Wire). old ++ ws) (sym (map-range_with_len_more f 0 k k (omega arith)))

-- five kinds of lanes, one after the other
module _ (s : Spots) (node : ℕ) (hub : Who) (js : List PlainJoint) (ifaces apps : ℕ) where
  abbrev rx : List Wire
  rx = map (wire_by s) (map rx_lane js)

  abbrev tx : List Wire
  tx = map (wire_by s) (map tx_lane js)

  -- by number
  abbrev numbered : (ℕ → PlainLane) → ℕ → List Wire
  numbered f count = map (λ k. wire_by s (f k)) (range_with_len 0 count)

  made : (f : ℕ → PlainLane) (count : ℕ) → numbered f count ≡ map (wire_by s) (map f (range_with_len 0 count))
  made f count = sym (map-map (wire_by s) f (range_with_len 0 count))

  pub all_five : (((rx ++ tx) ++ numbered (out_lane node hub) ifaces) ++ numbered (down_lane node hub) apps) ++ numbered (up_lane node hub) apps ≡ map (wire_by s) (wires_with node hub js ifaces apps)
  all_five =
      ap (λ (ws : List Wire). (((rx ++ tx) ++ numbered (out_lane node hub) ifaces) ++ numbered (down_lane node hub) apps) ++ ws) (made (up_lane node hub) apps)
      ∙ ap (λ (ws : List Wire). (((rx ++ tx) ++ numbered (out_lane node hub) ifaces) ++ ws) ++ up) (made (down_lane node hub) apps)
      ∙ ap (λ (ws : List Wire). (((rx ++ tx) ++ ws) ++ down) ++ up) (made (out_lane node hub) ifaces)
      ∙ append_assoc ((rx ++ tx) ++ out) down up
      ∙ append_assoc (rx ++ tx) out (down ++ up)
      ∙ append_assoc rx tx (out ++ (down ++ up))
      ∙ sym all_apart where
        outs : List PlainLane
        outs = map (out_lane node hub) (range_with_len 0 ifaces)

        downs : List PlainLane
        downs = map (down_lane node hub) (range_with_len 0 apps)

        ups : List PlainLane
        ups = map (up_lane node hub) (range_with_len 0 apps)

        out : List Wire
        out = map (wire_by s) outs

        down : List Wire
        down = map (wire_by s) downs

        up : List Wire
        up = map (wire_by s) ups

        all_apart : map (wire_by s) (wires_with node hub js ifaces apps) ≡ rx ++ (tx ++ (out ++ (down ++ up)))
        all_apart =
            map-append (wire_by s) (map rx_lane js) (map tx_lane js ++ (outs ++ (downs ++ ups)))
            ∙ ap (λ (ws : List Wire). rx ++ ws) (map-append (wire_by s) (map tx_lane js) (outs ++ (downs ++ ups)))
            ∙ ap (λ (ws : List Wire). rx ++ (tx ++ ws)) (map-append (wire_by s) outs (downs ++ ups))
            ∙ ap (λ (ws : List Wire). rx ++ (tx ++ (out ++ ws))) (map-append (wire_by s) downs ups)

pub listed : (s : Spots) (node : ℕ) (hub : Who) (js : List PlainJoint) (ifaces apps : ℕ) (v w x y z u : List Wire) → v ≡ [] → w ≡ v ++ map (wire_by s) (map rx_lane js) → x ≡ w ++ map (wire_by s) (map tx_lane js)
    → y ≡ x ++ map (λ k. wire_by s (out_lane node hub k)) (range_with_len 0 ifaces) → z ≡ y ++ map (λ k. wire_by s (down_lane node hub k)) (range_with_len 0 apps)
    → u ≡ z ++ map (λ k. wire_by s (up_lane node hub k)) (range_with_len 0 apps) → u ≡ map (wire_by s) (wires_with node hub js ifaces apps)
listed s node hub js ifaces apps v w x y z u none rx tx out down up =
    up
    ∙ ap (λ (ws : List Wire). ws ++ map (λ k. wire_by s (up_lane node hub k)) (range_with_len 0 apps)) (down
    ∙ ap (λ (ws : List Wire). ws ++ map (λ k. wire_by s (down_lane node hub k)) (range_with_len 0 apps)) (out
    ∙ ap (λ (ws : List Wire). ws ++ map (λ k. wire_by s (out_lane node hub k)) (range_with_len 0 ifaces)) (tx
    ∙ ap (λ (ws : List Wire). ws ++ map (wire_by s) (map tx_lane js)) (rx ∙ ap (λ (ws : List Wire). ws ++ map (wire_by s) (map rx_lane js)) none))))
    ∙ all_five s node hub js ifaces apps

-- the lanes of one more node
abbrev pub spots_at : ℕ → ℕ → ℕ → Spots
spots_at first ifaces links = record { first = first; ifaces = ifaces; links = links }

pub node_there : (nodes : List PlainNode) (k : ℕ) (x : PlainNode) → k < length nodes → x ≡ slice_index_or nodes k x → drop k nodes ≡ x ∷ drop (k + 1) nodes
node_there [] k x low is = absurd (omega (arith, low))
node_there (y ∷ nodes) zero x low is = ap (λ (z : PlainNode). z ∷ nodes) (sym is)
node_there (y ∷ nodes) (suc k) x low is =
    let more : suc (k + 1) ≡ suc k + 1 = omega arith in
    node_there nodes k x (omega (arith, low)) is ∙ ap (λ (j : ℕ). x ∷ drop j (y ∷ nodes)) more

pub one_node : (ls all : List (List Wire)) (v : List Wire) (place first next last : ℕ) (nodes : List PlainNode) (links : List PlainLink) (x : PlainNode) → place < length nodes → x ≡ slice_index_or nodes place x
    → ls ++ wired_from place first last (drop place nodes) links ≡ all → v ≡ map (wire_by (spots_at first (length (links_at place links)) last)) (wires_at place x links)
    → next ≡ first + 1 + length (links_at place links) + length x.apps → (ls ++ v ∷ []) ++ wired_from (place + 1) next last (drop (place + 1) nodes) links ≡ all
one_node ls all v place first next last nodes links x low is before made count =
    append_assoc ls (v ∷ []) (wired_from (place + 1) next last (drop (place + 1) nodes) links)
    ∙ ap (λ (w : List Wire). ls ++ w ∷ wired_from (place + 1) next last (drop (place + 1) nodes) links) made
    ∙ ap (λ (m : ℕ). ls ++ map (wire_by (spots_at first (length (links_at place links)) last)) (wires_at place x links) ∷ wired_from (place + 1) m last (drop (place + 1) nodes) links) count
    ∙ ap (λ (ns : List PlainNode). ls ++ wired_from place first last ns links) (sym (node_there nodes place x low is))
    ∙ before

-- a node among others is one of a scene
pub each_node : (nodes : List PlainNode) → AllByRecursion IsNode nodes → (k : ℕ) (x : PlainNode) → k < length nodes → x ≡ slice_index_or nodes k x → IsNode x
each_node [] are k x low is = absurd (omega (arith, low))
each_node (y ∷ nodes) are zero x low is = subst IsNode (sym is) are.0
each_node (y ∷ nodes) are (suc k) x low is = each_node nodes are.1 k x (omega (arith, low)) is

-- a node has as many ends of links as it has links, and no more than there are
one_same : (node number : ℕ) (l : PlainLink) (links : List PlainLink) → TouchOf node number l → length (joints_at node (joints_from (number + 1) links)) ≡ length (links_at node links)
    → length (joints_at node (joints_from number (l ∷ links))) ≡ length (links_at node (l ∷ links))
one_same node number l links (at_one place x there e t one) rest =
    ap (λ (js : List PlainJoint). length js) (split_at node number l links ∙ ap (λ (js : List PlainJoint). js ++ joints_at node (joints_from (number + 1) links)) one)
    ∙ ap suc rest
    ∙ sym (ap (λ (b : Bool). length (cond b (l ∷ links_at node links) (links_at node links))) t)
one_same node number l links (at_none t none) rest =
    ap (λ (js : List PlainJoint). length js) (split_at node number l links ∙ ap (λ (js : List PlainJoint). js ++ joints_at node (joints_from (number + 1) links)) none)
    ∙ rest
    ∙ sym (ap (λ (b : Bool). length (cond b (l ∷ links_at node links) (links_at node links))) t)

pub joints_same : (nodes : List PlainNode) (all : List PlainLink) (node number : ℕ) (links : List PlainLink) → AllByRecursion (IsLink nodes all) links → length (joints_at node (joints_from number links)) ≡ length (links_at node links)
joints_same nodes all node number [] is = refl
joints_same nodes all node number (l ∷ links) is = one_same node number l links (touch_of node number l is.0.shape) (joints_same nodes all node (number + 1) links is.1)

pub joints_few : (nodes : List PlainNode) (all : List PlainLink) (node number : ℕ) (links : List PlainLink) → AllByRecursion (IsLink nodes all) links → length (joints_at node (joints_from number links)) ≤ length links
joints_few nodes all node number links is = omega (arith, joints_same nodes all node number links is, links_few node links)
