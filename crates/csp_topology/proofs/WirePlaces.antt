-- Where each lane of a node stands among them, and who uses it.
use Rattle.std.proofs.Common.{◌≡◌, ℕ, zero, suc, ◌+◌, ◌<◌, Option, Some, None, List, [], ◌∷◌, ◌++◌, length, map, slice_get, ap, refl, sym, subst, ◌∙◌, arith}
use Rattle.std.specs.List.{range_with_len}
use Rattle.std.specs.Option.{option_and_then}
use Rattle.std.proofs.lemmas.List.{length-map}
use Rattle.std.proofs.lemmas.List.FromFn.{length-map-range_with_len}
use Rattle.std.proofs.lemmas.Option.{same_Some}
use Rattle.csp_lists.specs.PlainDeck.{lane_room}
use Rattle.csp_log.specs.declared.who.Who.{Who}
use Rattle.csp_scene.specs.Links.{links_at}
use Rattle.csp_scene.specs.Scene.{PlainLink, PlainNode, PlainScene}
use Rattle.csp_topology.proofs.Joints.{joints_of}
use Rattle.csp_topology.proofs.Places.{Among, among, get-first, get-made, get-second, made-from, of_first, of_second, range-at, range-from}
use Rattle.csp_topology.specs.Lanes.{PlainLane, leader_of, out_lane}
use Rattle.csp_topology.specs.Wires.{PlainJoint, down_lane, rx_lane, tx_lane, up_lane, wire_at, wires_at, wires_from, wires_of}

-- ---- of which node

wires_in : (place : ℕ) (nodes : List PlainNode) (links : List PlainLink) (k m : ℕ) (n : PlainNode) → slice_get nodes k ≡ Some n → m ≡ place + k → slice_get (wires_from place nodes links) k ≡ Some (wires_at m n links)
wires_in place [] links k m n there at = absurd cc
wires_in place (x ∷ nodes) links zero m n there at =
    let here : place ≡ m = omega (arith, at) in
    ap (λ (y : PlainNode). Some (wires_at place y links)) (same_Some x n there) ∙ ap (λ (p : ℕ). Some (wires_at p n links)) here
wires_in place (x ∷ nodes) links (suc k) m n there at = wires_in (place + 1) nodes links k m n there (omega (arith, at))

node_of_wires : (place : ℕ) (nodes : List PlainNode) (links : List PlainLink) (k : ℕ) (ws : List PlainLane) → slice_get (wires_from place nodes links) k ≡ Some ws → (n : PlainNode) × (slice_get nodes k ≡ Some n)
node_of_wires place [] links k ws e = absurd cc
node_of_wires place (x ∷ nodes) links zero ws e = (x, refl)
node_of_wires place (x ∷ nodes) links (suc k) ws e = node_of_wires (place + 1) nodes links k ws e

pub wires_count : (place : ℕ) (nodes : List PlainNode) (links : List PlainLink) → length (wires_from place nodes links) ≡ length nodes
wires_count place [] links = refl
wires_count place (n ∷ nodes) links = ap suc (wires_count (place + 1) nodes links)

pub all_count : (scene : PlainScene) → length (wires_of scene) ≡ length scene.nodes
unfolding wires_of
all_count scene = wires_count 0 scene.nodes scene.links

-- the lanes of a node of a scene
abbrev pub wires_here : PlainScene → ℕ → PlainNode → List PlainLane
wires_here scene node n = wires_at node n scene.links

pub wires_there : (scene : PlainScene) (node : ℕ) (n : PlainNode) → slice_get scene.nodes node ≡ Some n → slice_get (wires_of scene) node ≡ Some (wires_here scene node n)
unfolding wires_of
wires_there scene node n there = wires_in 0 scene.nodes scene.links node node n there (omega arith)

pub some_node : (scene : PlainScene) (node : ℕ) (ws : List PlainLane) → slice_get (wires_of scene) node ≡ Some ws → (n : PlainNode) × (slice_get scene.nodes node ≡ Some n)
unfolding wires_of
some_node scene node ws e = node_of_wires 0 scene.nodes scene.links node ws e

-- a lane of a node is one of those that its joints and applications give
pub record IsHere (scene : PlainScene) (node k : ℕ) (l : PlainLane) : Type 0 where
  pub n : PlainNode
  pub there : slice_get scene.nodes node ≡ Some n
  pub at : slice_get (wires_here scene node n) k ≡ Some l

pub is_here : (scene : PlainScene) (node k : ℕ) (l : PlainLane) → wire_at scene node k ≡ Some l → IsHere scene node k l
is_here scene node k l e = by (slice_get (wires_of scene) node) refl e where
  by : (o : Option (List PlainLane)) → slice_get (wires_of scene) node ≡ o → option_and_then (λ ws. slice_get ws k) o ≡ Some l → IsHere scene node k l
  by None f g = absurd cc
  by (Some ws) f g =
      let (n, there) = some_node scene node ws f in
      let same : ws ≡ wires_here scene node n = same_Some ws (wires_here scene node n) (sym f ∙ wires_there scene node n there) in
      record { n = n; there = there; at = ap (λ (xs : List PlainLane). slice_get xs k) (sym same) ∙ g }

pub wire_there : (scene : PlainScene) (node k : ℕ) (n : PlainNode) (l : PlainLane) → slice_get scene.nodes node ≡ Some n → slice_get (wires_here scene node n) k ≡ Some l → wire_at scene node k ≡ Some l
wire_there scene node k n l there at = ap (option_and_then (λ (ws : List PlainLane). slice_get ws k)) (wires_there scene node n there) ∙ at

-- ---- of which kind

-- how many interfaces with a link a node has
abbrev pub ifaces_of : PlainScene → ℕ → ℕ
ifaces_of scene node = length (joints_of scene node)

-- and on how many links it is
abbrev pub count_of : PlainScene → ℕ → ℕ
count_of scene node = length (links_at node scene.links)

-- from a link, to a link, to an interface, to an application, from one
pub data Wire (scene : PlainScene) (node k : ℕ) (l : PlainLane) : Type 0 where
  rx : (n : PlainNode) (j : PlainJoint) → slice_get scene.nodes node ≡ Some n → slice_get (joints_of scene node) k ≡ Some j → l ≡ rx_lane j → Wire scene node k l
  tx : (n : PlainNode) (j : PlainJoint) (p : ℕ) → slice_get scene.nodes node ≡ Some n → slice_get (joints_of scene node) p ≡ Some j → k ≡ ifaces_of scene node + p → l ≡ tx_lane j → Wire scene node k l
  out : (n : PlainNode) (p : ℕ) → slice_get scene.nodes node ≡ Some n → p < count_of scene node → k ≡ ifaces_of scene node + (ifaces_of scene node + p) → l ≡ out_lane node (leader_of node n.addr) p → Wire scene node k l
  down : (n : PlainNode) (p : ℕ) → slice_get scene.nodes node ≡ Some n → p < length n.apps → k ≡ ifaces_of scene node + (ifaces_of scene node + (count_of scene node + p)) → l ≡ down_lane node (leader_of node n.addr) p → Wire scene node k l
  up : (n : PlainNode) (p : ℕ) → slice_get scene.nodes node ≡ Some n → p < length n.apps → k ≡ ifaces_of scene node + (ifaces_of scene node + (count_of scene node + (length n.apps + p))) → l ≡ up_lane node (leader_of node n.addr) p → Wire scene node k l

-- a lane that a function makes of a number below a count
of_count : (f : ℕ → PlainLane) (count k : ℕ) (l : PlainLane) → slice_get (map f (range_with_len 0 count)) k ≡ Some l → (k < count) × (l ≡ f k)
of_count f count k l e =
    let (x, at, is) = made-from f (range_with_len 0 count) k l e in
    let h = range-from 0 count k x at in
    (h.0, sym is ∙ ap f (omega (arith, h.1)))

in_count : (f : ℕ → PlainLane) (count k : ℕ) → k < count → slice_get (map f (range_with_len 0 count)) k ≡ Some (f k)
in_count f count k few = get-made f (range_with_len 0 count) k (0 + k) (range-at 0 count k few) ∙ ap (λ (x : ℕ). Some (f x)) (omega arith)

-- the lists of a node's lanes, each kind and those after it
module _ (scene : PlainScene) (node : ℕ) (n : PlainNode) where
  abbrev js : List PlainJoint
  js = joints_of scene node

  abbrev hub : Who
  hub = leader_of node n.addr

  abbrev ups : List PlainLane
  ups = map (up_lane node hub) (range_with_len 0 (length n.apps))

  abbrev downs : List PlainLane
  downs = map (down_lane node hub) (range_with_len 0 (length n.apps))

  abbrev outs : List PlainLane
  outs = map (out_lane node hub) (range_with_len 0 (count_of scene node))

  abbrev txs : List PlainLane
  txs = map tx_lane js

  abbrev rxs : List PlainLane
  rxs = map rx_lane js

  wire_from : (there : slice_get scene.nodes node ≡ Some n) (k : ℕ) (l : PlainLane) → slice_get (wires_here scene node n) k ≡ Some l → Wire scene node k l
  wire_from there k l e = at_rx (among rxs (txs ++ (outs ++ (downs ++ ups))) k l e) where
    rx_long : length rxs ≡ ifaces_of scene node
    rx_long = length-map js rx_lane

    tx_long : length txs ≡ ifaces_of scene node
    tx_long = length-map js tx_lane

    out_long : length outs ≡ count_of scene node
    out_long = length-map-range_with_len (out_lane node hub) 0 (count_of scene node)

    down_long : length downs ≡ length n.apps
    down_long = length-map-range_with_len (down_lane node hub) 0 (length n.apps)

    at_down : (a b c d : ℕ) → k ≡ length rxs + a → a ≡ length txs + b → b ≡ length outs + c → Among downs ups c l → Wire scene node k l
    at_down a b c d ak ba cb (of_first f) =
        let (few, is) = of_count (down_lane node hub) (length n.apps) c l f in
        down n c there few (omega (arith, ak, ba, cb, rx_long, tx_long, out_long)) is
    at_down a b c d ak ba cb (of_second p pc f) =
        let (few, is) = of_count (up_lane node hub) (length n.apps) p l f in
        up n p there few (omega (arith, ak, ba, cb, pc, rx_long, tx_long, out_long, down_long)) is

    at_out : (a b : ℕ) → k ≡ length rxs + a → a ≡ length txs + b → Among outs (downs ++ ups) b l → Wire scene node k l
    at_out a b ak ba (of_first f) =
        let (few, is) = of_count (out_lane node hub) (count_of scene node) b l f in
        out n b there few (omega (arith, ak, ba, rx_long, tx_long)) is
    at_out a b ak ba (of_second c cb f) = at_down a b c 0 ak ba cb (among downs ups c l f)

    at_tx : (a : ℕ) → k ≡ length rxs + a → Among txs (outs ++ (downs ++ ups)) a l → Wire scene node k l
    at_tx a ak (of_first f) =
        let (j, at, is) = made-from tx_lane js a l f in
        tx n j a there at (omega (arith, ak, rx_long)) (sym is)
    at_tx a ak (of_second b ba f) = at_out a b ak ba (among outs (downs ++ ups) b l f)

    at_rx : Among rxs (txs ++ (outs ++ (downs ++ ups))) k l → Wire scene node k l
    at_rx (of_first f) =
        let (j, at, is) = made-from rx_lane js k l f in
        rx n j there at (sym is)
    at_rx (of_second a ak f) = at_tx a ak (among txs (outs ++ (downs ++ ups)) a l f)

  -- and each of these is there
  after_rx : (k : ℕ) (l : PlainLane) → slice_get (txs ++ (outs ++ (downs ++ ups))) k ≡ Some l → slice_get (wires_here scene node n) (ifaces_of scene node + k) ≡ Some l
  after_rx k l e =
      let far : ifaces_of scene node + k ≡ length rxs + k = ap (λ (c : ℕ). c + k) (sym (length-map js rx_lane)) in
      ap (slice_get (wires_here scene node n)) far ∙ get-second rxs (txs ++ (outs ++ (downs ++ ups))) k ∙ e

  after_tx : (k : ℕ) (l : PlainLane) → slice_get (outs ++ (downs ++ ups)) k ≡ Some l → slice_get (txs ++ (outs ++ (downs ++ ups))) (ifaces_of scene node + k) ≡ Some l
  after_tx k l e =
      let far : ifaces_of scene node + k ≡ length txs + k = ap (λ (c : ℕ). c + k) (sym (length-map js tx_lane)) in
      ap (slice_get (txs ++ (outs ++ (downs ++ ups)))) far ∙ get-second txs (outs ++ (downs ++ ups)) k ∙ e

  after_out : (k : ℕ) (l : PlainLane) → slice_get (downs ++ ups) k ≡ Some l → slice_get (outs ++ (downs ++ ups)) (count_of scene node + k) ≡ Some l
  after_out k l e =
      let far : count_of scene node + k ≡ length outs + k = ap (λ (c : ℕ). c + k) (sym (length-map-range_with_len (out_lane node hub) 0 (count_of scene node))) in
      ap (slice_get (outs ++ (downs ++ ups))) far ∙ get-second outs (downs ++ ups) k ∙ e

  after_down : (k : ℕ) (l : PlainLane) → slice_get ups k ≡ Some l → slice_get (downs ++ ups) (length n.apps + k) ≡ Some l
  after_down k l e =
      let far : length n.apps + k ≡ length downs + k = ap (λ (c : ℕ). c + k) (sym (length-map-range_with_len (down_lane node hub) 0 (length n.apps))) in
      ap (slice_get (downs ++ ups)) far ∙ get-second downs ups k ∙ e

  module _ (there : slice_get scene.nodes node ≡ Some n) where
    pub rx_there : (p : ℕ) (j : PlainJoint) → slice_get (joints_of scene node) p ≡ Some j → wire_at scene node p ≡ Some (rx_lane j)
    rx_there p j at = wire_there scene node p n (rx_lane j) there (get-first rxs (txs ++ (outs ++ (downs ++ ups))) p (rx_lane j) (get-made rx_lane js p j at))

    pub tx_there : (p : ℕ) (j : PlainJoint) → slice_get (joints_of scene node) p ≡ Some j → wire_at scene node (ifaces_of scene node + p) ≡ Some (tx_lane j)
    tx_there p j at =
        wire_there scene node (ifaces_of scene node + p) n (tx_lane j) there
        (after_rx p (tx_lane j) (get-first txs (outs ++ (downs ++ ups)) p (tx_lane j) (get-made tx_lane js p j at)))

    pub out_there : (p : ℕ) → p < count_of scene node → wire_at scene node (ifaces_of scene node + (ifaces_of scene node + p)) ≡ Some (out_lane node (leader_of node n.addr) p)
    out_there p few =
        let l = out_lane node hub p in
        wire_there scene node (ifaces_of scene node + (ifaces_of scene node + p)) n l there
        (after_rx (ifaces_of scene node + p) l (after_tx p l (get-first outs (downs ++ ups) p l (in_count (out_lane node hub) (count_of scene node) p few))))

    pub down_there : (p : ℕ) → p < length n.apps → wire_at scene node (ifaces_of scene node + (ifaces_of scene node + (count_of scene node + p))) ≡ Some (down_lane node (leader_of node n.addr) p)
    down_there p few =
        let l = down_lane node hub p in
        wire_there scene node (ifaces_of scene node + (ifaces_of scene node + (count_of scene node + p))) n l there
        (after_rx (ifaces_of scene node + (count_of scene node + p)) l (after_tx (count_of scene node + p) l (after_out p l (get-first downs ups p l (in_count (down_lane node hub) (length n.apps) p few)))))

    pub up_there : (p : ℕ) → p < length n.apps → wire_at scene node (ifaces_of scene node + (ifaces_of scene node + (count_of scene node + (length n.apps + p)))) ≡ Some (up_lane node (leader_of node n.addr) p)
    up_there p few =
        let l = up_lane node hub p in
        wire_there scene node (ifaces_of scene node + (ifaces_of scene node + (count_of scene node + (length n.apps + p)))) n l there
        (after_rx (ifaces_of scene node + (count_of scene node + (length n.apps + p))) l (after_tx (count_of scene node + (length n.apps + p)) l
        (after_out (length n.apps + p) l (after_down p l (in_count (up_lane node hub) (length n.apps) p few)))))

pub wire_is : (scene : PlainScene) (node k : ℕ) (l : PlainLane) → wire_at scene node k ≡ Some l → Wire scene node k l
wire_is scene node k l e =
    let h = is_here scene node k l e in
    wire_from scene node h.n h.there k l h.at

-- each has the room that its name says
abbrev HasItsRoom : PlainLane → Type 0
HasItsRoom x = x.room ≡ lane_room x.queue

pub room_named : (scene : PlainScene) (node k : ℕ) (l : PlainLane) → wire_at scene node k ≡ Some l → l.room ≡ lane_room l.queue
room_named scene node k l e = by (wire_is scene node k l e) where
  by : Wire scene node k l → l.room ≡ lane_room l.queue
  by (rx n j there at is) = subst HasItsRoom (sym is) refl
  by (tx n j p there at place is) = subst HasItsRoom (sym is) refl
  by (out n p there few place is) = subst HasItsRoom (sym is) refl
  by (down n p there few place is) = subst HasItsRoom (sym is) refl
  by (up n p there few place is) = subst HasItsRoom (sym is) refl
