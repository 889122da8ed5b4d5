-- What holds of all lanes of a scene holds of each lane that it has, and what holds of each holds of all.
use Rattle.std.proofs.Common.{◌≡◌, ℕ, zero, suc, ◌+◌, ◌<◌, Option, Some, None, List, [], ◌∷◌, ◌++◌, length, slice_get, ap, refl, sym, subst, ◌∙◌, arith, flat_map}
use Rattle.std.specs.List.{AllByRecursion}
use Rattle.std.specs.Option.{option_and_then}
use Rattle.std.proofs.lemmas.Bool.{eq-eqb, eqb-true}
use Rattle.std.proofs.lemmas.Option.{same_Some}
use Rattle.csp_log.specs.Kinds.{carried_on}
use Rattle.csp_log.specs.declared.places.End.{End}
use Rattle.csp_scene.proofs.Public.{AllByRecursion-append}
use Rattle.csp_scene.specs.Kept.{AreLinksAfter, IsEndAfter}
use Rattle.csp_scene.specs.Links.{links_at}
use Rattle.csp_scene.specs.Ranges.{IsEnd, IsScene}
use Rattle.csp_scene.specs.Scene.{PlainLink, PlainNode, PlainScene}
use Rattle.csp_topology.proofs.Ends.{all_stay}
use Rattle.csp_topology.proofs.Joints.{ArePlaced, all_joints, is_joint, joint_there, joints_of}
use Rattle.csp_topology.proofs.Places.{all_at, get-within, kept-from, kept-there}
use Rattle.csp_topology.proofs.Serving.{each_link}
use Rattle.csp_topology.proofs.WirePlaces.{Wire, down, down_there, ifaces_of, count_of, out, out_there, rx, rx_there, tx, tx_there, up, up_there, wire_is}
use Rattle.csp_topology.specs.Lanes.{PlainLane, leader_of, out_lane}
use Rattle.csp_topology.specs.Wired.{IsWire}
use Rattle.csp_topology.specs.Wires.{PlainJoint, down_lane, is_at, joint_of, lanes_of, rx_lane, tx_lane, up_lane, wire_at, wires_of}

-- ---- of lists, one after the other

each_first : {X : Type 0} (P : X → Type 0) (xs ys : List X) → AllByRecursion P (xs ++ ys) → AllByRecursion P xs
each_first P [] ys all = tt
each_first P (x ∷ xs) ys all = (all.0, each_first P xs ys all.1)

each_last : {X : Type 0} (P : X → Type 0) (xs ys : List X) → AllByRecursion P (xs ++ ys) → AllByRecursion P ys
each_last P [] ys all = all
each_last P (x ∷ xs) ys all = each_last P xs ys all.1

each_of : {X : Type 0} (P : X → Type 0) (xss : List (List X)) (k : ℕ) (xs : List X) → AllByRecursion P (flat_map (λ ys. ys) xss) → slice_get xss k ≡ Some xs → AllByRecursion P xs
each_of P [] k xs all e = absurd cc
each_of P (ys ∷ xss) zero xs all e = subst (AllByRecursion P) (same_Some ys xs e) (each_first P ys (flat_map (λ zs. zs) xss) all)
each_of P (ys ∷ xss) (suc k) xs all e = each_of P xss k xs (each_last P ys (flat_map (λ zs. zs) xss) all) e

from_places : {X : Type 0} (P : X → Type 0) (xs : List X) → ((k : ℕ) (x : X) → slice_get xs k ≡ Some x → P x) → AllByRecursion P xs
from_places P [] each = tt
from_places P (x ∷ xs) each = (each 0 x refl, from_places P xs (λ k y e. each (suc k) y e))

all_of : {X : Type 0} (P : X → Type 0) (xss : List (List X)) → ((k : ℕ) (xs : List X) → slice_get xss k ≡ Some xs → AllByRecursion P xs) → AllByRecursion P (flat_map (λ ys. ys) xss)
all_of P [] each = tt
all_of P (xs ∷ xss) each = AllByRecursion-append P xs (flat_map (λ ys. ys) xss) (each 0 xs refl) (all_of P xss (λ k ys e. each (suc k) ys e))

-- ---- by the places of lanes

row_by_row : (P : PlainLane → Type 0) (scene : PlainScene) → AllByRecursion P (lanes_of scene) → AllByRecursion P (flat_map (λ ws. ws) (wires_of scene))
unfolding lanes_of
row_by_row P scene all = all

pub lane_there : (P : PlainLane → Type 0) (scene : PlainScene) (node k : ℕ) (l : PlainLane) → AllByRecursion P (lanes_of scene) → wire_at scene node k ≡ Some l → P l
lane_there P scene node k l all e = by (slice_get (wires_of scene) node) refl e where
  by : (o : Option (List PlainLane)) → slice_get (wires_of scene) node ≡ o → option_and_then (λ ws. slice_get ws k) o ≡ Some l → P l
  by None f g = absurd cc
  by (Some ws) f g = all_at P ws k l (each_of P (wires_of scene) node ws (row_by_row P scene all) f) g

pub lanes_all : (P : PlainLane → Type 0) (scene : PlainScene) → ((node k : ℕ) (l : PlainLane) → wire_at scene node k ≡ Some l → P l) → AllByRecursion P (lanes_of scene)
unfolding lanes_of
lanes_all P scene each = all_of P (wires_of scene) (λ node ws e. from_places P ws (λ k l f. each node k l (ap (option_and_then (λ (xs : List PlainLane). slice_get xs k)) e ∙ f)))

-- each is among those of its node
pub all_wired : (scene : PlainScene) → ArePlaced scene → AllByRecursion (IsWire scene) (lanes_of scene)
all_wired scene are = lanes_all (IsWire scene) scene (λ node k l e. record { place = k; at = subst (λ (m : ℕ). wire_at scene m k ≡ Some l) (sym (all_stay scene are node k l e).home) e })

-- ---- by what a scene has

-- the lanes of an application, of an interface, and of the end of a link
module _ (P : PlainLane → Type 0) where
  abbrev pub OfApp : ℕ → PlainNode → ℕ → Type 0
  OfApp node n k = P (up_lane node (leader_of node n.addr) k) × P (down_lane node (leader_of node n.addr) k)

  abbrev pub OfIface : ℕ → PlainNode → ℕ → Type 0
  OfIface node n k = P (out_lane node (leader_of node n.addr) k)

  abbrev pub OfEnd : ℕ → PlainLink → ℕ → End → Type 0
  OfEnd number l place x = P (tx_lane (joint_of number (carried_on l.kind) place x)) × P (rx_lane (joint_of number (carried_on l.kind) place x))

-- all lanes have what each of these has
module _ (P : PlainLane → Type 0) (scene : PlainScene)
    (apps : (node k : ℕ) (n : PlainNode) → slice_get scene.nodes node ≡ Some n → k < length n.apps → OfApp P node n k)
    (ifaces : (node k : ℕ) (n : PlainNode) → slice_get scene.nodes node ≡ Some n → k < length (links_at node scene.links) → OfIface P node n k)
    (ends : (number place : ℕ) (l : PlainLink) (x : End) (n : PlainNode) → slice_get scene.links number ≡ Some l → slice_get l.ends place ≡ Some x → slice_get scene.nodes x.node ≡ Some n → OfEnd P number l place x) where
  of_joint : (node p : ℕ) (n : PlainNode) (j : PlainJoint) → slice_get scene.nodes node ≡ Some n → slice_get (joints_of scene node) p ≡ Some j → P (tx_lane j) × P (rx_lane j)
  of_joint node p n j there at =
      let (i, all, here) = kept-from (is_at node) (all_joints scene) p j at in
      let h = is_joint 0 scene.links i j all in
      let number : 0 + h.index ≡ h.index = omega arith in
      let is : j ≡ joint_of h.index (carried_on h.link.kind) h.place h.end = h.is ∙ ap (λ (m : ℕ). joint_of m (carried_on h.link.kind) h.place h.end) number in
      let home : h.end.node ≡ node = ap (λ (x : PlainJoint). x.end.node) (sym is) ∙ eqb-true j.end.node node here in
      subst (λ (x : PlainJoint). P (tx_lane x) × P (rx_lane x)) (sym is) (ends h.index h.place h.link h.end n h.there h.at (ap (slice_get scene.nodes) home ∙ there))

  of_wire : (node k : ℕ) (l : PlainLane) → Wire scene node k l → P l
  of_wire node k l (rx n j there at is) = subst P (sym is) (of_joint node k n j there at).1
  of_wire node k l (tx n j p there at place is) = subst P (sym is) (of_joint node p n j there at).0
  of_wire node k l (out n p there few place is) = subst P (sym is) (ifaces node p n there few)
  of_wire node k l (down n p there few place is) = subst P (sym is) (apps node p n there few).1
  of_wire node k l (up n p there few place is) = subst P (sym is) (apps node p n there few).0

  pub all_lanes : AllByRecursion P (lanes_of scene)
  all_lanes = lanes_all P scene (λ node k l e. of_wire node k l (wire_is scene node k l e))

-- each end of a link stands at a node of the scene
abbrev pub AreHome : PlainScene → Type 0
AreHome scene = (number place : ℕ) (l : PlainLink) (x : End) → slice_get scene.links number ≡ Some l → slice_get l.ends place ≡ Some x → x.node < length scene.nodes

pub home_ranged : (scene : PlainScene) → IsScene scene → AreHome scene
home_ranged scene is number place l x there at = (all_at (IsEnd scene.nodes scene.links l) l.ends place x (each_link scene.nodes scene.links scene.links is.links number l there).ends at).node

pub home_placed : (scene : PlainScene) → ArePlaced scene → AreHome scene
home_placed scene are number place l x there at =
    by [] scene.links number are there
  where
    by : (earlier links : List PlainLink) (k : ℕ) → AreLinksAfter (length scene.nodes) earlier links → slice_get links k ≡ Some l → x.node < length scene.nodes
    by earlier [] k placed e = absurd cc
    by earlier (y ∷ links) zero placed e = (all_at (IsEndAfter (length scene.nodes) earlier) l.ends place x (subst (λ (z : PlainLink). AllByRecursion (IsEndAfter (length scene.nodes) earlier) z.ends) (same_Some y l e) placed.0.ends) at).node
    by earlier (y ∷ links) (suc k) placed e = by (earlier ++ y ∷ []) links k placed.1 e

-- and each of these has what all lanes have
module _ (P : PlainLane → Type 0) (scene : PlainScene) (all : AllByRecursion P (lanes_of scene)) where
  pub of_app : (node k : ℕ) (n : PlainNode) → slice_get scene.nodes node ≡ Some n → k < length n.apps → OfApp P node n k
  of_app node k n there low = (
    lane_there P scene node (ifaces_of scene node + (ifaces_of scene node + (count_of scene node + (length n.apps + k)))) (up_lane node (leader_of node n.addr) k) all (up_there scene node n there k low),
    lane_there P scene node (ifaces_of scene node + (ifaces_of scene node + (count_of scene node + k))) (down_lane node (leader_of node n.addr) k) all (down_there scene node n there k low),
  )

  pub of_iface : (node k : ℕ) (n : PlainNode) → slice_get scene.nodes node ≡ Some n → k < length (links_at node scene.links) → OfIface P node n k
  of_iface node k n there low = lane_there P scene node (ifaces_of scene node + (ifaces_of scene node + k)) (out_lane node (leader_of node n.addr) k) all (out_there scene node n there k low)

  pub of_end : AreHome scene → (number place : ℕ) (l : PlainLink) (x : End) → slice_get scene.links number ≡ Some l → slice_get l.ends place ≡ Some x → OfEnd P number l place x
  of_end home number place l x there at =
      let j = joint_of number (carried_on l.kind) place x in
      let (n, node) = get-within scene.nodes x.node (home number place l x there at) in
      let (q, of_all) = joint_there 0 scene.links number place l x there at in
      let first : 0 + number ≡ number = omega arith in
      let made : slice_get (all_joints scene) q ≡ Some j = of_all ∙ ap (λ (m : ℕ). Some (joint_of m (carried_on l.kind) place x)) first in
      let (p, kept) = kept-there (is_at x.node) (all_joints scene) q j made (eq-eqb x.node x.node refl) in (
        lane_there P scene x.node (ifaces_of scene x.node + p) (tx_lane j) all (tx_there scene x.node n node p j kept),
        lane_there P scene x.node p (rx_lane j) all (rx_there scene x.node n node p j kept),
      )
