-- The lanes of the nodes of a scene as the program has them, with the places of the parties that use them.
use Rattle.std.specs.Prelude.{◌≡◌, ℕ, ◌+◌, Option, Some, IsSomeAnd, List, [], ◌∷◌, length, map, slice_get}
use Rattle.std.specs.Option.{option_and_then}
use Rattle.csp_lists.specs.PlainDeck.{lane_room}
use Rattle.csp_log.specs.declared.who.Who.{Who}
use Rattle.csp_log.specs.declared.who.Who.TheVariants as who
use Rattle.csp_scene.specs.Links.{links_at}
use Rattle.csp_scene.specs.Scene.{PlainScene, PlainNode, PlainLink}
use Rattle.csp_topology.specs.Lanes.{PlainEnd, PlainLane, out_lane}
use Rattle.csp_topology.specs.Parties.{parties_of}
use Rattle.csp_topology.specs.Wires.{PlainJoint, down_lane, rx_lane, tx_lane, up_lane, wire_at, wires_at}
use Rattle.csp_topology.specs.declared.wire.Inner.{Inner}
use Rattle.csp_topology.specs.declared.wire.Inner.TheVariants as inner
use Rattle.csp_topology.specs.declared.wire.Outer.{Outer}
use Rattle.csp_topology.specs.declared.wire.Outer.TheVariants as outer
use Rattle.csp_topology.specs.declared.wire.Spots.{Spots}
use Rattle.csp_topology.specs.declared.wire.Wire.{Wire}
use Rattle.csp_topology.specs.declared.wire.WireEnd.{WireEnd}

-- the lane of this kind at the end of a link
abbrev pub outer_lane : Outer → PlainJoint → PlainLane
outer_lane outer.Rx j = rx_lane j
outer_lane outer.Tx j = tx_lane j

-- the lane of this kind between the router or bridge of a node and its interface or application of this number
abbrev pub inner_lane : Inner → (node : ℕ) → Who → (number : ℕ) → PlainLane
inner_lane inner.Out node hub number = out_lane node hub number
inner_lane inner.Down node hub number = down_lane node hub number
inner_lane inner.Up node hub number = up_lane node hub number

-- where a party of a node stands, or a link
abbrev pub place_by : Spots → Who → ℕ
place_by s (who.Router _) = s.first
place_by s (who.Bridge _) = s.first
place_by s (who.Iface _ k) = s.first + 1 + k
place_by s (who.App _ k) = s.first + 1 + s.ifaces + k
place_by s (who.Link k) = s.links + k

-- a lane with the places of the parties at its ends
abbrev pub wire_by : Spots → PlainLane → Wire
wire_by s l = record {
  queue = l.queue;
  carries = l.carries;
  room = l.room;
  from = record { who = l.from.who; party = place_by s l.from.who; queue = l.from.queue };
  to = record { who = l.to.who; party = place_by s l.to.who; queue = l.to.queue };
}

-- an end of a lane names the party at that place of the list of parties
pub record IsEndOf (scene : PlainScene) (e : PlainEnd) (w : WireEnd) : Type 0 where
  pub party : slice_get (map (λ o. o.who) (parties_of scene)) w.party ≡ Some e.who
  pub called : w.queue ≡ e.queue

-- an end of a lane without the place of its party
abbrev pub end_seen : WireEnd → PlainEnd
end_seen e = record { who = e.who; queue = e.queue }

-- a lane of the node at this place
abbrev pub lane_seen : ℕ → Wire → PlainLane
lane_seen node w = record { node = node; queue = w.queue; carries = w.carries; room = w.room; from = end_seen w.from; to = end_seen w.to }

-- those of the nodes from this place on
abbrev pub lanes_seen : ℕ → List (List Wire) → List (List PlainLane)
lanes_seen place [] = []
lanes_seen place (ws ∷ rest) = map (lane_seen place) ws ∷ lanes_seen (place + 1) rest

-- a lane with its room and its ends
pub record IsWireOf (scene : PlainScene) (l : PlainLane) (w : Wire) : Type 0 where
  pub named : w.queue ≡ l.queue
  pub carries : w.carries ≡ l.carries
  pub room : w.room ≡ lane_room l.queue
  pub from : IsEndOf scene l.from w.from
  pub to : IsEndOf scene l.to w.to

-- the lane at a place of a node among these
abbrev pub wired_at : List (List Wire) → ℕ → ℕ → Option Wire
wired_at ws node k = option_and_then (λ wires. slice_get wires k) (slice_get ws node)

-- these are the lanes of all nodes of a scene, and no others
pub record AreWires (scene : PlainScene) (ws : List (List Wire)) : Type 0 where
  pub count : length ws ≡ length scene.nodes
  pub each : (node k : ℕ) (l : PlainLane) → wire_at scene node k ≡ Some l → IsSomeAnd (wired_at ws node k) (IsWireOf scene l)
  pub only : (node k : ℕ) (w : Wire) → wired_at ws node k ≡ Some w → IsSomeAnd (wire_at scene node k) (λ l. IsWireOf scene l w)

-- the lanes of the nodes from this place on, whose parties stand from this place on, before links from the other
abbrev pub wired_from : ℕ → ℕ → ℕ → List PlainNode → List PlainLink → List (List Wire)
wired_from place first last [] links = []
wired_from place first last (n ∷ nodes) links =
    map (wire_by (record { first = first; ifaces = length (links_at place links); links = last })) (wires_at place n links)
    ∷ wired_from (place + 1) (first + 1 + length (links_at place links) + length n.apps) last nodes links
