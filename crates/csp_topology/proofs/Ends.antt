-- Whose the ends of the lanes are, and that no two are called the same.
use Rattle.std.proofs.Common.{◌≡◌, ◌≢◌, ℕ, suc, ◌+◌, ◌<◌, Option, Some, None, length, slice_get, ap, refl, sym, subst, ◌∙◌, arith, inl, inr}
use Rattle.std.specs.Option.{option_and_then}
use Rattle.std.proofs.lemmas.Option.{get_or_from_slice_get, same_Some, slice_get_within}
use Rattle.csp_log.specs.Kinds.{carried_on}
use Rattle.csp_lists.specs.PlainDeck.{IsLinkRule}
use Rattle.csp_log.specs.declared.places.Carries.{Carries}
use Rattle.csp_log.specs.declared.places.Carries.TheVariants as lane
use Rattle.csp_log.specs.declared.places.End.{End}
use Rattle.csp_log.specs.declared.places.QueueId.{QueueId}
use Rattle.csp_log.specs.declared.places.QueueId.TheVariants as queue
use Rattle.csp_log.specs.Who.{node_of}
use Rattle.csp_log.specs.declared.who.Who.{Who}
use Rattle.csp_log.specs.declared.who.Who.TheVariants as who
use Rattle.csp_scene.specs.Links.{links_at, no_node, node_at}
use Rattle.csp_scene.specs.Scene.{PlainLink, PlainNode, PlainScene}
use Rattle.csp_topology.proofs.Joints.{ArePlaced, IsAt, joint_is, joints_count, joints_of}
use Rattle.csp_topology.proofs.PartyPlaces.{app_there, begins, ends, hub_home, hub_stands, iface_there, link_there}
use Rattle.csp_topology.proofs.Places.{get-within}
use Rattle.csp_topology.proofs.PlanLemmas.{link_rule}
use Rattle.csp_topology.proofs.WirePlaces.{Wire, count_of, down, ifaces_of, out, rx, tx, up, wire_is}
use Rattle.csp_topology.specs.Lanes.{PlainEnd, PlainLane, lane_at, leader_of, out_lane}
use Rattle.csp_topology.specs.Parties.{PlainOpening, app_at, heeded, iface_on, link_at, parties_of}
use Rattle.csp_topology.specs.Wired.{IsEndOf, IsNamedFor, Joins, Side, Stands, StaysHome, end_on, getting, putting}
use Rattle.csp_topology.specs.Wires.{PlainJoint, down_lane, rx_lane, tx_lane, up_lane, wire_at}

-- ---- parties that are there

link_stands : (scene : PlainScene) (k : ℕ) (l : PlainLink) → slice_get scene.links k ≡ Some l → Stands scene (who.Link k)
link_stands scene k l at = record { place = ends scene + k; party = link_at k l; at = link_there scene k l at; named = refl }

iface_stands : (scene : PlainScene) (node k : ℕ) (n : PlainNode) → slice_get scene.nodes node ≡ Some n → k < length (links_at node scene.links) → Stands scene (who.Iface node k)
iface_stands scene node k n there low =
    let (l, on) = get-within (links_at node scene.links) k low in
    record { place = begins scene node + suc k; party = iface_on node k l.kind l.mtu (heeded n.addr l); at = iface_there scene node k n l there on; named = refl }

app_stands : (scene : PlainScene) (node k : ℕ) (n : PlainNode) → slice_get scene.nodes node ≡ Some n → k < length n.apps → Stands scene (who.App node k)
app_stands scene node k n there low =
    let (a, of_it) = get-within n.apps k low in
    record { place = begins scene node + suc (length (links_at node scene.links) + k); party = app_at node k a; at = app_there scene node k n a there of_it; named = refl }

-- the interface at an end of a link
joint_stands : (scene : PlainScene) → ArePlaced scene → (node k : ℕ) (n : PlainNode) (j : PlainJoint) → slice_get scene.nodes node ≡ Some n → slice_get (joints_of scene node) k ≡ Some j → Stands scene (who.Iface j.end.node j.end.iface)
joint_stands scene are node k n j there at =
    let h = joint_is scene are node k j at in
    let within = slice_get_within (joints_of scene node) k j at in
    let count = joints_count scene are node in
    subst (λ (m : ℕ). Stands scene (who.Iface m j.end.iface)) (sym h.node_is)
    (subst (λ (i : ℕ). Stands scene (who.Iface node i)) (sym h.iface_is) (iface_stands scene node k n there (omega (arith, within, count))))

-- ---- the two ends of a lane

link_apart : (i m k : ℕ) → who.Link i ≢ who.Iface m k
link_apart i m k e = absurd cc

iface_apart : (i m k : ℕ) → who.Iface m k ≢ who.Link i
iface_apart i m k e = absurd cc

hub_from_iface : (addr : Option ℕ) (node m k : ℕ) → leader_of node addr ≢ who.Iface m k
hub_from_iface (Some addr) node m k e = absurd cc
hub_from_iface None node m k e = absurd cc

hub_from_app : (addr : Option ℕ) (node m k : ℕ) → leader_of node addr ≢ who.App m k
hub_from_app (Some addr) node m k e = absurd cc
hub_from_app None node m k e = absurd cc

join : (scene : PlainScene) (l : PlainLane) → Stands scene l.from.who → Stands scene l.to.who → l.from.who ≢ l.to.who → Joins scene l
join scene l f t apart = record {
  from = f;
  to = t;
  apart = apart;
  places = λ same. apart (sym f.named ∙ ap (λ (o : PlainOpening). o.who) (same_Some f.party t.party (sym f.at ∙ ap (slice_get (parties_of scene)) same ∙ t.at)) ∙ t.named);
}

join_wire : (scene : PlainScene) → ArePlaced scene → (node k : ℕ) (l : PlainLane) → Wire scene node k l → Joins scene l
join_wire scene are node k l (rx n j there at is) =
    let h = joint_is scene are node k j at in
    subst (Joins scene) (sym is) (join scene (rx_lane j) (link_stands scene j.link h.link h.there) (joint_stands scene are node k n j there at) (link_apart j.link j.end.node j.end.iface))
join_wire scene are node k l (tx n j p there at place is) =
    let h = joint_is scene are node p j at in
    subst (Joins scene) (sym is) (join scene (tx_lane j) (joint_stands scene are node p n j there at) (link_stands scene j.link h.link h.there) (iface_apart j.link j.end.node j.end.iface))
join_wire scene are node k l (out n p there few place is) =
    subst (Joins scene) (sym is) (join scene (out_lane node (leader_of node n.addr) p) (hub_stands scene node n there) (iface_stands scene node p n there few) (hub_from_iface n.addr node node p))
join_wire scene are node k l (down n p there few place is) =
    subst (Joins scene) (sym is) (join scene (down_lane node (leader_of node n.addr) p) (hub_stands scene node n there) (app_stands scene node p n there few) (hub_from_app n.addr node node p))
join_wire scene are node k l (up n p there few place is) =
    subst (Joins scene) (sym is)
    (join scene (up_lane node (leader_of node n.addr) p) (app_stands scene node p n there few) (hub_stands scene node n there) (λ e. hub_from_app n.addr node node p (sym e)))

pub all_join : (scene : PlainScene) → ArePlaced scene → (node k : ℕ) (l : PlainLane) → wire_at scene node k ≡ Some l → Joins scene l
all_join scene are node k l e = join_wire scene are node k l (wire_is scene node k l e)

-- ---- where the lane of an end stands

abbrev apps_of : PlainScene → ℕ → ℕ
apps_of scene node = length (node_at scene.nodes node).apps

apps_are : (scene : PlainScene) (node : ℕ) (n : PlainNode) → slice_get scene.nodes node ≡ Some n → apps_of scene node ≡ length n.apps
apps_are scene node n there = ap (λ (x : PlainNode). length x.apps) (get_or_from_slice_get scene.nodes node n no_node there)

-- among the lanes of a node, by its name
abbrev spot_in : PlainScene → ℕ → QueueId → ℕ
spot_in scene node queue.Inbox = 0
spot_in scene node (queue.Rx k) = k
spot_in scene node (queue.Tx k) = ifaces_of scene node + k
spot_in scene node (queue.Out k) = ifaces_of scene node + (ifaces_of scene node + k)
spot_in scene node (queue.Down k) = ifaces_of scene node + (ifaces_of scene node + (count_of scene node + k))
spot_in scene node (queue.Up k) = ifaces_of scene node + (ifaces_of scene node + (count_of scene node + (apps_of scene node + k)))

abbrev pair : ℕ → ℕ → ℕ × ℕ
pair node k = (node, k)

abbrev spot : ℕ → ℕ → Option (ℕ × ℕ)
spot node k = Some (pair node k)

abbrev own_spot : PlainScene → ℕ → QueueId → Option (ℕ × ℕ)
own_spot scene node q = spot node (spot_in scene node q)

-- the end of a link at a place
abbrev end_at : PlainScene → ℕ → ℕ → Option End
end_at scene number place = option_and_then (λ (l : PlainLink). slice_get l.ends place) (slice_get scene.links number)

abbrev spot_of : PlainScene → Who → QueueId → Option (ℕ × ℕ)
spot_of scene (who.Router node) q = own_spot scene node q
spot_of scene (who.Bridge node) q = own_spot scene node q
spot_of scene (who.Iface node _) q = own_spot scene node q
spot_of scene (who.App node _) q = own_spot scene node q
spot_of scene (who.Link number) (queue.Tx place) = option_and_then (λ (x : End). own_spot scene x.node (queue.Tx x.iface)) (end_at scene number place)
spot_of scene (who.Link number) (queue.Rx place) = option_and_then (λ (x : End). own_spot scene x.node (queue.Rx x.iface)) (end_at scene number place)
spot_of scene (who.Link number) queue.Inbox = None
spot_of scene (who.Link number) (queue.Up _) = None
spot_of scene (who.Link number) (queue.Down _) = None
spot_of scene (who.Link number) (queue.Out _) = None

-- and on which side
abbrev hub_side : QueueId → Side
hub_side (queue.Up _) = getting
hub_side _ = putting

abbrev side_of : Who → QueueId → Side
side_of (who.Router _) q = hub_side q
side_of (who.Bridge _) q = hub_side q
side_of (who.Iface _ _) (queue.Tx _) = putting
side_of (who.Iface _ _) _ = getting
side_of (who.App _ _) (queue.Up _) = putting
side_of (who.App _ _) _ = getting
side_of (who.Link _) (queue.Rx _) = putting
side_of (who.Link _) _ = getting

record IsSpot (scene : PlainScene) (node k : ℕ) (s : Side) (e : PlainEnd) : Type 0 where
  pub at : spot_of scene e.who e.queue ≡ spot node k
  pub side : side_of e.who e.queue ≡ s

both : (a b c d : ℕ) → a ≡ c → b ≡ d → spot a b ≡ spot c d
both a b c d e f = ap (λ (x : ℕ). spot x b) e ∙ ap (spot c) f

hub_spot : (scene : PlainScene) (addr : Option ℕ) (node k : ℕ) (q : QueueId) (s : Side) → spot_in scene node q ≡ k → hub_side q ≡ s → IsSpot scene node k s (record { who = leader_of node addr; queue = q })
hub_spot scene (Some addr) node k q s at side = record { at = both node (spot_in scene node q) node k refl at; side = side }
hub_spot scene None node k q s at side = record { at = both node (spot_in scene node q) node k refl at; side = side }

abbrev AreSpots : PlainScene → ℕ → ℕ → PlainLane → Type 0
AreSpots scene node k l = (s : Side) → IsSpot scene node k s (end_on s l)

found_end : (scene : PlainScene) (j : PlainJoint) (l : PlainLink) → slice_get scene.links j.link ≡ Some l → slice_get l.ends j.place ≡ Some j.end → end_at scene j.link j.place ≡ Some j.end
found_end scene j l there at = ap (option_and_then (λ (x : PlainLink). slice_get x.ends j.place)) there ∙ at

rx_spots : (scene : PlainScene) (node k : ℕ) (j : PlainJoint) → IsAt scene node k j → AreSpots scene node k (rx_lane j)
rx_spots scene node k j h putting = record {
  at =
      ap (option_and_then (λ (x : End). own_spot scene x.node (queue.Rx x.iface))) (found_end scene j h.link h.there h.at)
      ∙ both j.end.node j.end.iface node k h.node_is h.iface_is;
  side = refl;
}
rx_spots scene node k j h getting = record { at = both j.end.node j.end.iface node k h.node_is h.iface_is; side = refl }

tx_place : (scene : PlainScene) (node k p : ℕ) (j : PlainJoint) → IsAt scene node p j → k ≡ ifaces_of scene node + p → own_spot scene j.end.node (queue.Tx j.end.iface) ≡ spot node k
tx_place scene node k p j h place =
    ap (λ (m : ℕ). own_spot scene m (queue.Tx j.end.iface)) h.node_is
    ∙ ap (λ (i : ℕ). own_spot scene node (queue.Tx i)) h.iface_is
    ∙ ap (spot node) (sym place)

tx_spots : (scene : PlainScene) (node k p : ℕ) (j : PlainJoint) → IsAt scene node p j → k ≡ ifaces_of scene node + p → AreSpots scene node k (tx_lane j)
tx_spots scene node k p j h place putting = record { at = tx_place scene node k p j h place; side = refl }
tx_spots scene node k p j h place getting = record {
  at = ap (option_and_then (λ (x : End). own_spot scene x.node (queue.Tx x.iface))) (found_end scene j h.link h.there h.at) ∙ tx_place scene node k p j h place;
  side = refl;
}

out_spots : (scene : PlainScene) (node k p : ℕ) (n : PlainNode) → k ≡ ifaces_of scene node + (ifaces_of scene node + p) → AreSpots scene node k (out_lane node (leader_of node n.addr) p)
out_spots scene node k p n place putting = hub_spot scene n.addr node k (queue.Out p) putting (sym place) refl
out_spots scene node k p n place getting = record { at = ap (spot node) (sym place); side = refl }

down_spots : (scene : PlainScene) (node k p : ℕ) (n : PlainNode) → k ≡ ifaces_of scene node + (ifaces_of scene node + (count_of scene node + p)) → AreSpots scene node k (down_lane node (leader_of node n.addr) p)
down_spots scene node k p n place putting = hub_spot scene n.addr node k (queue.Down p) putting (sym place) refl
down_spots scene node k p n place getting = record { at = ap (spot node) (sym place); side = refl }

up_place : (scene : PlainScene) (node k p : ℕ) (n : PlainNode) → slice_get scene.nodes node ≡ Some n → k ≡ ifaces_of scene node + (ifaces_of scene node + (count_of scene node + (length n.apps + p))) → spot_in scene node (queue.Up p) ≡ k
up_place scene node k p n there place = ap (λ (c : ℕ). ifaces_of scene node + (ifaces_of scene node + (count_of scene node + (c + p)))) (apps_are scene node n there) ∙ sym place

up_spots : (scene : PlainScene) (node k p : ℕ) (n : PlainNode) → slice_get scene.nodes node ≡ Some n → k ≡ ifaces_of scene node + (ifaces_of scene node + (count_of scene node + (length n.apps + p)))
    → AreSpots scene node k (up_lane node (leader_of node n.addr) p)
up_spots scene node k p n there place putting = record { at = ap (spot node) (up_place scene node k p n there place); side = refl }
up_spots scene node k p n there place getting = hub_spot scene n.addr node k (queue.Up p) getting (up_place scene node k p n there place) refl

spots : (scene : PlainScene) → ArePlaced scene → (node k : ℕ) (l : PlainLane) → Wire scene node k l → AreSpots scene node k l
spots scene are node k l (rx n j there at is) = subst (AreSpots scene node k) (sym is) (rx_spots scene node k j (joint_is scene are node k j at))
spots scene are node k l (tx n j p there at place is) = subst (AreSpots scene node k) (sym is) (tx_spots scene node k p j (joint_is scene are node p j at) place)
spots scene are node k l (out n p there few place is) = subst (AreSpots scene node k) (sym is) (out_spots scene node k p n place)
spots scene are node k l (down n p there few place is) = subst (AreSpots scene node k) (sym is) (down_spots scene node k p n place)
spots scene are node k l (up n p there few place is) = subst (AreSpots scene node k) (sym is) (up_spots scene node k p n there place)

-- so an end's name says which lane, and which end of it
pub ends_apart : (scene : PlainScene) → ArePlaced scene → (n m k j : ℕ) (l o : PlainLane) (s t : Side) → wire_at scene n k ≡ Some l → wire_at scene m j ≡ Some o → end_on s l ≡ end_on t o → (n ≡ m) × (k ≡ j) × (s ≡ t)
ends_apart scene are n m k j l o s t e f same =
    let g = spots scene are n k l (wire_is scene n k l e) s in
    let h = spots scene are m j o (wire_is scene m j o f) t in
    let place : pair n k ≡ pair m j = same_Some (pair n k) (pair m j) (sym g.at ∙ ap (λ (x : PlainEnd). spot_of scene x.who x.queue) same ∙ h.at) in
    (ap (λ (x : ℕ × ℕ). x.0) place, ap (λ (x : ℕ × ℕ). x.1) place, sym g.side ∙ ap (λ (x : PlainEnd). side_of x.who x.queue) same ∙ h.side)

-- ---- at home

own_end : (node : ℕ) (l : PlainLane) (w : Who) (q : QueueId) → node_of w ≡ Some node → q ≡ l.queue → IsEndOf node l (record { who = w; queue = q })
own_end node l w q home called = inl (record { home = home; called = called })

frames_on : (j : PlainJoint) (l : PlainLink) → j.carries ≡ carried_on l.kind → IsLinkRule j.carries
frames_on j l same = subst IsLinkRule (sym same) (link_rule l.kind)

-- a lane between two parties of a node, which both call it by its name
inner_stays : (scene : PlainScene) (node : ℕ) (q : QueueId) (carries : Carries) (from to : Who) → node < length scene.nodes → IsNamedFor q carries → node_of from ≡ Some node → node_of to ≡ Some node → StaysHome scene node (lane_at node q carries from to)
inner_stays scene node q carries from to low named puts gets = record {
  low = low;
  home = refl;
  named = named;
  from = own_end node (lane_at node q carries from to) from q puts refl;
  to = own_end node (lane_at node q carries from to) to q gets refl;
}

stays : (scene : PlainScene) → ArePlaced scene → (node k : ℕ) (l : PlainLane) → Wire scene node k l → StaysHome scene node l
stays scene are node k l (rx n j there at is) =
    let h = joint_is scene are node k j at in
    let frames = frames_on j h.link h.carries in
    subst (StaysHome scene node) (sym is) (record {
      low = slice_get_within scene.nodes node n there;
      home = h.node_is;
      named = frames;
      from = inr (record { number = j.link; link = refl; frames = frames });
      to = own_end node (rx_lane j) (who.Iface j.end.node j.end.iface) (queue.Rx j.end.iface) (ap (λ (m : ℕ). Some m) h.node_is) refl;
    })
stays scene are node k l (tx n j p there at place is) =
    let h = joint_is scene are node p j at in
    let frames = frames_on j h.link h.carries in
    subst (StaysHome scene node) (sym is) (record {
      low = slice_get_within scene.nodes node n there;
      home = h.node_is;
      named = frames;
      from = own_end node (tx_lane j) (who.Iface j.end.node j.end.iface) (queue.Tx j.end.iface) (ap (λ (m : ℕ). Some m) h.node_is) refl;
      to = inr (record { number = j.link; link = refl; frames = frames });
    })
stays scene are node k l (out n p there few place is) = subst (StaysHome scene node) (sym is)
    (inner_stays scene node (queue.Out p) lane.Out (leader_of node n.addr) (who.Iface node p) (slice_get_within scene.nodes node n there) refl (hub_home n.addr node) refl)
stays scene are node k l (down n p there few place is) = subst (StaysHome scene node) (sym is)
    (inner_stays scene node (queue.Down p) lane.Down (leader_of node n.addr) (who.App node p) (slice_get_within scene.nodes node n there) refl (hub_home n.addr node) refl)
stays scene are node k l (up n p there few place is) = subst (StaysHome scene node) (sym is)
    (inner_stays scene node (queue.Up p) lane.Up (who.App node p) (leader_of node n.addr) (slice_get_within scene.nodes node n there) refl refl (hub_home n.addr node))

pub all_stay : (scene : PlainScene) → ArePlaced scene → (node k : ℕ) (l : PlainLane) → wire_at scene node k ≡ Some l → StaysHome scene node l
all_stay scene are node k l e = stays scene are node k l (wire_is scene node k l e)
