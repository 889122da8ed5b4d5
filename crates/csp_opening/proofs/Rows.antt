-- What is true of the wires of every scene.
use Rattle.std.proofs.Common.{◌≡◌, ◌+◌, ◌*◌, ◌<◌, ◌≤◌, ℕ, zero, suc, false, List, [], ◌∷◌, ◌++◌, Some, length, map, refl, sym, ◌∙◌, subst, arith}
use Rattle.std.specs.Global.{Vec}
use Rattle.std.specs.Prelude.{slice_get}
use Rattle.std.specs.List.{AllByRecursion, AllZip, range_with_len}
use Rattle.std.proofs.lemmas.List.{length-append, length-map}
use Rattle.std.proofs.lemmas.List.FromFn.{length-range_with_len}
use Rattle.std.proofs.lemmas.Slice.Zip.{AllZip-long}
use Rattle.csp_consistent.specs.Reading.{is_queue}
use Rattle.csp_lists.specs.PlainDeck.{lane_room}
use Rattle.csp_log.specs.declared.places.Carries.{Carries}
use Rattle.csp_log.specs.declared.places.QueueId.{QueueId}
use Rattle.csp_log.specs.declared.places.QueueId.TheVariants as queue
use Rattle.csp_opening.proofs.Backs.{each_lane}
use Rattle.csp_opening.proofs.Serving.{AllCalled, AllHome}
use Rattle.csp_opening.proofs.Zipped.{placed_at, wire_rows}
use Rattle.csp_opening.specs.Opened.{AreWired, IsRoomy}
use Rattle.csp_log.specs.declared.who.Who.{Who}
use Rattle.csp_scene.specs.Links.{links_at}
use Rattle.csp_scene.specs.Ranges.{IsNode, IsScene}
use Rattle.csp_scene.specs.Scene.{PlainLink, PlainNode, PlainScene}
use Rattle.csp_standing.proofs.Public.{all_at}
use Rattle.csp_topology.proofs.Public.{joints_few, links_few, plans_count}
use Rattle.csp_topology.specs.Lanes.{PlainLane, leader_of, out_lane}
use Rattle.csp_topology.specs.Plan.{plans_from}
use Rattle.csp_topology.specs.Wired as wired
use Rattle.csp_topology.specs.Wires.{PlainJoint, down_lane, joints_at, joints_from, rx_lane, tx_lane, up_lane, wires_from, wires_of, wires_with}
use Rattle.csp_topology.specs.Wiring.{AreWires, IsWireOf}
use Rattle.csp_topology.specs.declared.wire.Wire.{Wire}

-- neither party of a lane calls it an inbox
record IsCalled (l : PlainLane) : Type 0 where
  from : is_queue queue.Inbox l.from.queue ≡ false
  to : is_queue queue.Inbox l.to.queue ≡ false

row_called : (node : ℕ) (hub : Who) (joints : List PlainJoint) (ifaces apps : ℕ) → AllByRecursion IsCalled (wires_with node hub joints ifaces apps)
row_called node hub joints ifaces apps =
    each_lane IsCalled node hub joints ifaces apps (λ j. record { from = refl; to = refl }) (λ j. record { from = refl; to = refl }) (λ k. record { from = refl; to = refl }) (λ k. record { from = refl; to = refl }) (λ k. record { from = refl; to = refl })

rows_called : (place : ℕ) (nodes : List PlainNode) (links : List PlainLink) → AllByRecursion (AllByRecursion IsCalled) (wires_from place nodes links)
rows_called place [] links = tt
rows_called place (n ∷ nodes) links = (row_called place (leader_of place n.addr) (joints_at place (joints_from 0 links)) (length (links_at place links)) (length n.apps), rows_called (place + 1) nodes links)

-- what holds of each of a list of lists holds at a place
all_placed : {A : Type 0} → (P : A → Type 0) (xss : List (List A)) (node k : ℕ) (x : A) → AllByRecursion (AllByRecursion P) xss → placed_at xss node k ≡ Some x → P x
all_placed P [] node k x h e = absurd cc
all_placed P (xs ∷ xss) zero k x h e = all_at P xs k x h.0 e
all_placed P (xs ∷ xss) (suc node) k x h e = all_placed P xss node k x h.1 e

pub all_called : (scene : PlainScene) → AllCalled scene
unfolding wires_of
all_called scene node k l wired.putting at = (all_placed IsCalled (wires_of scene) node k l (rows_called 0 scene.nodes scene.links) at).from
all_called scene node k l wired.getting at = (all_placed IsCalled (wires_of scene) node k l (rows_called 0 scene.nodes scene.links) at).to

-- a row is short
row_long : (node : ℕ) (hub : Who) (joints : List PlainJoint) (ifaces apps : ℕ) → length (wires_with node hub joints ifaces apps) ≡ 2 * length joints + ifaces + 2 * apps
row_long node hub joints ifaces apps =
    let rx = map rx_lane joints in
    let tx = map tx_lane joints in
    let out = map (out_lane node hub) (range_with_len 0 ifaces) in
    let down = map (down_lane node hub) (range_with_len 0 apps) in
    let up = map (up_lane node hub) (range_with_len 0 apps) in
    let a = length-append rx (tx ++ (out ++ (down ++ up))) in
    let b = length-append tx (out ++ (down ++ up)) in
    let c = length-append out (down ++ up) in
    let d = length-append down up in
    let e = length-map joints rx_lane in
    let f = length-map joints tx_lane in
    let g = length-map (range_with_len 0 ifaces) (out_lane node hub) ∙ length-range_with_len 0 ifaces in
    let h = length-map (range_with_len 0 apps) (down_lane node hub) ∙ length-range_with_len 0 apps in
    let i = length-map (range_with_len 0 apps) (up_lane node hub) ∙ length-range_with_len 0 apps in
    omega (arith, a, b, c, d, e, f, g, h, i)

rows_few : (place : ℕ) (nodes : List PlainNode) (links : List PlainLink) → ((k : ℕ) → (length (joints_at k (joints_from 0 links)) ≤ 12) × (length (links_at k links) ≤ 12)) → AllByRecursion IsNode nodes
    → AllByRecursion (λ (row : List PlainLane). length row < 256) (wires_from place nodes links)
rows_few place [] links few is = tt
rows_few place (n ∷ nodes) links few is = (
  (let long = row_long place (leader_of place n.addr) (joints_at place (joints_from 0 links)) (length (links_at place links)) (length n.apps) in let here = few place in let apps = is.0.few in omega (arith, long, here.0, here.1, apps)),
  rows_few (place + 1) nodes links few is.1,
)

pub scene_rows_few : (scene : PlainScene) → IsScene scene → AllByRecursion (λ (row : List PlainLane). length row < 256) (wires_of scene)
unfolding wires_of
scene_rows_few scene is =
    rows_few 0 scene.nodes scene.links
    (λ k. (omega (arith, joints_few scene.nodes scene.links k 0 scene.links is.links, is.few_links), omega (arith, links_few k scene.links, is.few_links))) is.nodes

-- each lane has room
positive : (q : QueueId) (c : Carries) → wired.IsNamedFor q c → 0 < lane_room q
positive queue.Inbox c h = absurd h
positive (queue.Up k) c h = omega arith
positive (queue.Down k) c h = omega arith
positive (queue.Out k) c h = omega arith
positive (queue.Tx k) c h = omega arith
positive (queue.Rx k) c h = omega arith

-- the wires of a row have room, where its lanes are where they are to be
row_roomy : (scene : PlainScene) (node : ℕ) (row : List PlainLane) (ws : List Wire) → ((k : ℕ) (l : PlainLane) → slice_get row k ≡ Some l → wired.StaysHome scene node l) → AllZip (IsWireOf scene) row ws
    → AllByRecursion (λ (w : Wire). 0 < w.room) ws
row_roomy scene node [] [] stays h = tt
row_roomy scene node (l ∷ row) (w ∷ ws) stays h = (
  (let low = positive l.queue l.carries (stays 0 l refl).named in let is = h.0.room in omega (arith, low, is)),
  row_roomy scene node row ws (λ k. stays (suc k)) h.1,
)
row_roomy scene node [] (w ∷ ws) stays h = absurd h
row_roomy scene node (l ∷ row) [] stays h = absurd h

rows_roomy : (scene : PlainScene) (first : ℕ) (rows : List (List PlainLane)) (wires : List (Vec Wire)) → ((node j k : ℕ) (l : PlainLane) → placed_at rows node k ≡ Some l → j ≡ first + node → wired.StaysHome scene j l)
    → AllZip (AllZip (IsWireOf scene)) rows (map (λ (ws : Vec Wire). ws.items) wires) → AllByRecursion (λ (ws : Vec Wire). AllByRecursion (λ (w : Wire). 0 < w.room) ws.items) wires
rows_roomy scene first [] [] stays h = tt
rows_roomy scene first (row ∷ rows) (ws ∷ wires) stays h = (
  row_roomy scene first row ws.items (λ k l e. stays 0 first k l e (omega arith)) h.0,
  rows_roomy scene (first + 1) rows wires (λ node j k l e same. stays (suc node) j k l e (omega (arith, same))) h.1,
)
rows_roomy scene first [] (ws ∷ wires) stays h = absurd h
rows_roomy scene first (row ∷ rows) [] stays h = absurd h

rows_short : (scene : PlainScene) (rows : List (List PlainLane)) (wires : List (Vec Wire)) → AllByRecursion (λ (row : List PlainLane). length row < 256) rows
    → AllZip (AllZip (IsWireOf scene)) rows (map (λ (ws : Vec Wire). ws.items) wires) → AllByRecursion (λ (ws : Vec Wire). length ws.items < 256) wires
rows_short scene [] [] few h = tt
rows_short scene (row ∷ rows) (ws ∷ wires) few h = (
  (let long = AllZip-long (IsWireOf scene) row ws.items h.0 in let low = few.0 in omega (arith, long, low)),
  rows_short scene rows wires few.1 h.1,
)
rows_short scene [] (ws ∷ wires) few h = absurd h
rows_short scene (row ∷ rows) [] few h = absurd h

-- the plans of nodes of a scene have room
plans_roomy : (place : ℕ) (nodes : List PlainNode) (links : List PlainLink) → AllByRecursion IsNode nodes → AllByRecursion IsRoomy (plans_from place nodes links)
plans_roomy place [] links is = tt
plans_roomy place (n ∷ nodes) links is = (record { some = omega (arith, is.0.least); inbox = omega (arith, is.0.some_inbox) }, plans_roomy (place + 1) nodes links is.1)

-- the nodes of a scene can be opened with its wires
pub are_wired : (scene : PlainScene) (wires : List (Vec Wire)) → IsScene scene → AllHome scene → length (wires_of scene) ≡ length scene.nodes → AreWires scene (map (λ (ws : Vec Wire). ws.items) wires) → AreWired (plans_from 0 scene.nodes scene.links) wires
are_wired scene wires is stays count are =
    let rows = wire_rows scene (map (λ (ws : Vec Wire). ws.items) wires) count are in
    let long : length wires ≡ length scene.nodes = sym (length-map wires (λ (ws : Vec Wire). ws.items)) ∙ are.count in
    record {
      nodes = plans_roomy 0 scene.nodes scene.links is.nodes;
      count = (let plans = plans_count 0 scene.nodes scene.links in omega (arith, long, plans));
      low = (let few = is.few in omega (arith, long, few));
      few = rows_short scene (wires_of scene) wires (scene_rows_few scene is) rows;
      rooms = rows_roomy scene 0 (wires_of scene) wires (λ node j k l e same. subst (λ m. wired.StaysHome scene m l) (omega (arith, same)) (stays node k l e)) rows;
    }
