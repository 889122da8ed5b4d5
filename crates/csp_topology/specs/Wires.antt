-- The lanes of each node of a scene, in the order in which a record tells of them.
use Rattle.std.specs.Prelude.{ℕ, ◌+◌, ◌==◌, Bool, Option, List, [], ◌∷◌, ◌++◌, filter, length, map, slice_get}
use Rattle.std.specs.List.{flat_map, range_with_len}
use Rattle.std.specs.Option.{option_and_then}
use Rattle.csp_log.specs.Kinds.{carried_on}
use Rattle.csp_log.specs.declared.places.Carries.{Carries}
use Rattle.csp_log.specs.declared.places.Carries.TheVariants as lane
use Rattle.csp_log.specs.declared.places.End.{End}
use Rattle.csp_log.specs.declared.places.QueueId.TheVariants as queue
use Rattle.csp_log.specs.declared.who.Who.{Who}
use Rattle.csp_log.specs.declared.who.Who.TheVariants as who
use Rattle.csp_scene.specs.Links.{links_at}
use Rattle.csp_scene.specs.Scene.{PlainScene, PlainNode, PlainLink}
use Rattle.csp_topology.specs.Lanes.{PlainLane, leader_of, lane_at, lane_between, out_lane}

-- an end of a link: the link's number, what it carries, the place of the end among the link's ends, and where that is
pub record PlainJoint : Type 0 where
  pub link : ℕ
  pub carries : Carries
  pub place : ℕ
  pub end : End

-- the end in a place of the link of this number, which carries this
abbrev pub joint_of : (number : ℕ) → Carries → (place : ℕ) → End → PlainJoint
joint_of number carries place end = record { link = number; carries = carries; place = place; end = end }

-- the ends of a link, from this place on
abbrev pub joints_on : ℕ → Carries → ℕ → List End → List PlainJoint
joints_on number carries at [] = []
joints_on number carries at (end ∷ ends) = joint_of number carries at end ∷ joints_on number carries (at + 1) ends

-- the ends of these links, from this number on
abbrev pub joints_from : ℕ → List PlainLink → List PlainJoint
joints_from number [] = []
joints_from number (l ∷ links) = joints_on number (carried_on l.kind) 0 l.ends ++ joints_from (number + 1) links

-- whether a link ends there at this node
abbrev pub is_at : ℕ → PlainJoint → Bool
is_at node j = j.end.node == node

-- the ends at a node, in the order of its interfaces
abbrev pub joints_at : ℕ → List PlainJoint → List PlainJoint
joints_at node joints = filter (is_at node) joints

-- the lane from a link to the interface at its end
abbrev pub rx_lane : PlainJoint → PlainLane
rx_lane j =
    lane_between j.end.node (queue.Rx j.end.iface) j.carries (record { who = who.Link j.link; queue = queue.Rx j.place })
    (record { who = who.Iface j.end.node j.end.iface; queue = queue.Rx j.end.iface })

-- the lane from the interface to the link
abbrev pub tx_lane : PlainJoint → PlainLane
tx_lane j =
    lane_between j.end.node (queue.Tx j.end.iface) j.carries (record { who = who.Iface j.end.node j.end.iface; queue = queue.Tx j.end.iface })
    (record { who = who.Link j.link; queue = queue.Tx j.place })

-- the lane to an application
abbrev pub down_lane : ℕ → Who → ℕ → PlainLane
down_lane node hub k = lane_at node (queue.Down k) lane.Down hub (who.App node k)

-- the lane from an application
abbrev pub up_lane : ℕ → Who → ℕ → PlainLane
up_lane node hub k = lane_at node (queue.Up k) lane.Up (who.App node k) hub

-- those of a node with this router or bridge, where links end so, with so many interfaces and applications: from its links, to them, to its interfaces,
-- to its applications, and from them
abbrev pub wires_with : (node : ℕ) → Who → List PlainJoint → (ifaces apps : ℕ) → List PlainLane
wires_with node hub joints ifaces apps =
    map rx_lane joints
    ++ (map tx_lane joints
    ++ (map (out_lane node hub) (range_with_len 0 ifaces) ++ (map (down_lane node hub) (range_with_len 0 apps) ++ map (up_lane node hub) (range_with_len 0 apps))))

-- those of the node at this place, where these are the links
abbrev pub wires_at : ℕ → PlainNode → List PlainLink → List PlainLane
wires_at place n links = wires_with place (leader_of place n.addr) (joints_at place (joints_from 0 links)) (length (links_at place links)) (length n.apps)

-- those of each of the nodes from this place on
abbrev pub wires_from : ℕ → List PlainNode → List PlainLink → List (List PlainLane)
wires_from place [] links = []
wires_from place (n ∷ nodes) links = wires_at place n links ∷ wires_from (place + 1) nodes links

-- the lanes of each node of a scene
unfoldable pub wires_of : PlainScene → List (List PlainLane)
wires_of scene = wires_from 0 scene.nodes scene.links

-- all lanes of a scene: those of its nodes, one node after the other
unfoldable pub lanes_of : PlainScene → List PlainLane
lanes_of scene = flat_map (λ lanes. lanes) (wires_of scene)

-- the lane at a place among those of a node
abbrev pub wire_at : PlainScene → ℕ → ℕ → Option PlainLane
wire_at scene node k = option_and_then (λ wires. slice_get wires k) (slice_get (wires_of scene) node)
