-- The memory and the queues of nodes, of which nothing was handed out yet.
use Rattle.std.specs.Prelude.{◌≡◌, ◌+◌, ◌*◌, ◌<◌, ◌≤◌, ⊤, ℕ, Option, List, [], ◌∷◌, ◌++◌, length, map, vec_capacity}
use Rattle.std.specs.Global.{Vec}
use Rattle.std.specs.List.{AllByRecursion, find, range_with_len, sum_by}
use Rattle.std.specs.Option.{option_and_then, option_map}
use Rattle.csp_arena.specs.Cells.{RegionName}
use Rattle.csp_base.specs.declared.priority.Prio.{Prio}
use Rattle.csp_consistent.specs.Reading.{is_queue}
use Rattle.csp_ends.specs.Ends.{PlainNodeQueues}
use Rattle.csp_ends.specs.Sides.{back_name}
use Rattle.csp_inbox.specs.Passes as mails
use Rattle.csp_lane.specs.Ends as ways
use Rattle.csp_log.specs.declared.places.QueueId.{QueueId}
use Rattle.csp_opening.specs.declared.bases.Base.{Base}
use Rattle.csp_opening.specs.declared.homes.Lead.{Lead}
use Rattle.csp_opening.specs.declared.lanes.Lanes.{Lanes}
use Rattle.csp_opening.specs.declared.lanes.Pair.{Pair}
use Rattle.csp_opening.specs.declared.mails.Mail.{Mail}
use Rattle.csp_opening.specs.declared.nodes.Node.{Node}
use Rattle.csp_pool.specs.Hands.{opening_hand}
use Rattle.csp_topology.specs.Plan.{PlainNodePlan}
use Rattle.csp_topology.specs.declared.wire.Wire.{Wire}

-- all buffers of a memory are in its pool, and nothing else was done there; they have room to come back
pub record IsBase (b : Base) : Type 0 where
  pub none : b.store.numbers ≡ []
  pub capacity : b.pool.capacity ≡ b.store.count
  pub of_it : b.pass.pool ≡ b.pool.name
  pub hand : b.pass.hand ≡ opening_hand b.store.region (range_with_len 0 b.store.count)
  pub room : b.store.count ≤ b.store.room

-- nothing was put into an inbox, whose opening pass this is, and there is room for what it might have
pub record IsMail (m : Mail) : Type 0 where
  pub of_it : mails.IsPassOf m.inbox m.pass
  pub all_in : mails.AllIn m.pass
  pub unused : (p : Prio) → (mails.mail_at m.pass p).kept ≡ []
  pub room : m.inbox.room ≤ m.room

-- the ends of a lane that was just opened, for a wire
abbrev pub pair_of : RegionName → Wire → ways.PlainLane → Pair
pair_of region w l = record { wire = w; producer = ways.fresh_end l region w.carries; consumer = ways.fresh_end l region w.carries }

-- those of the lanes of these wires
abbrev pub pairs_on : RegionName → List Wire → List ways.PlainLane → List Pair
pairs_on region [] lanes = []
pairs_on region (w ∷ wires) [] = []
pairs_on region (w ∷ wires) (l ∷ lanes) = pair_of region w l ∷ pairs_on region wires lanes

-- the tally of the first of these lanes that has this name
abbrev pub tally_named : QueueId → List Pair → Option ℕ
tally_named q pairs = option_map (λ (x : Pair). x.consumer.tally) (find (λ (x : Pair). is_queue q x.wire.queue) pairs)

-- the tally that the marks of the lane of this name tell of, where these were opened before it
abbrev pub told_tally : QueueId → List Pair → Option ℕ
told_tally q before = option_and_then (λ other. tally_named other before) (back_name q)

-- the marks of each of these lanes tell of the tally of that other lane, among those that were opened before it
abbrev pub AreTold : (before pairs : List Pair) → Type 0
AreTold before [] = ⊤
AreTold before (x ∷ pairs) = (x.producer.about ≡ told_tally x.wire.queue before) × AreTold (before ++ x ∷ []) pairs

-- the lanes of these wires, as they were opened: each has its room, and so has its end; and the marks of each tell of the lane that they are to tell of
pub record AreLanes (region : RegionName) (wires : List Wire) (l : Lanes) : Type 0 where
  pub rooms : map (λ (x : ways.PlainLane). x.room) l.lanes.items ≡ map (λ (w : Wire). w.room) wires
  pub spare : l.rooms.items ≡ map (λ (w : Wire). w.room) wires
  pub ends : l.ends.items ≡ pairs_on region wires l.lanes.items
  pub told : AreTold [] l.ends.items

-- the lanes with that of one wire more
pub record HasLaneMore (region : RegionName) (w : Wire) (a b : Lanes) : Type 0 where
  pub lane : ways.PlainLane
  pub room : lane.room ≡ w.room
  pub about : lane.about ≡ told_tally w.queue a.ends.items
  pub lanes : b.lanes.items ≡ a.lanes.items ++ lane ∷ []
  pub rooms : b.rooms.items ≡ a.rooms.items ++ w.room ∷ []
  pub ends : b.ends.items ≡ a.ends.items ++ pair_of region w lane ∷ []

-- these are ends of the lane, nothing was put into it, and there is room for what might have been
pub record IsUnused (l : ways.PlainLane) (space : ℕ) (x : Pair) : Type 0 where
  pub producer : ways.IsEndOf l x.producer
  pub consumer : ways.IsEndOf l x.consumer
  pub none : x.producer.items ≡ []
  pub room : l.room ≤ space

-- so are those of each
abbrev pub AreUnused : List ways.PlainLane → List ℕ → List Pair → Type 0
AreUnused [] [] [] = ⊤
AreUnused (l ∷ lanes) (room ∷ rooms) (x ∷ ends) = IsUnused l room x × AreUnused lanes rooms ends
AreUnused _ _ _ = ⊥

-- a node can be left
pub record CanLeave (x : Node) : Type 0 where
  pub base : IsBase x.base
  pub mail : IsMail x.mail
  pub lanes : AreUnused x.lanes.lanes.items x.lanes.rooms.items x.lanes.ends.items

-- for how many buffers there is room in all queues of a node with these wires
abbrev pub room_with : PlainNodePlan → List Wire → ℕ
room_with n wires = n.buffers + 4 * n.inbox + sum_by (λ (w : Wire). w.room) wires

-- a node with this plan, as it was opened with these wires
pub record IsNodeOf (n : PlainNodePlan) (wires : List Wire) (x : Node) : Type 0 where
  pub base : IsBase x.base
  pub count : x.base.store.count ≡ n.buffers
  pub room : x.base.store.room ≡ room_with n wires
  pub unnoted : x.numbers.items ≡ []
  pub numbers : vec_capacity x.numbers ≡ n.buffers
  pub inbox : x.mail.inbox.room ≡ n.inbox
  pub pass : x.mail.pass ≡ mails.opening_pass x.mail.inbox x.base.store.region
  pub left : x.mail.room ≡ n.inbox
  pub lanes : AreLanes x.base.store.region wires x.lanes

-- so is each node
abbrev pub AreNodesWith : List PlainNodePlan → List (List Wire) → List Node → Type 0
AreNodesWith [] [] [] = ⊤
AreNodesWith (n ∷ nodes) (ws ∷ wires) (x ∷ opened) = IsNodeOf n ws x × AreNodesWith nodes wires opened
AreNodesWith _ _ _ = ⊥

-- the queues of a node
abbrev pub queues_in : Node → PlainNodeQueues
queues_in x = record { pool = x.base.pool; inbox = x.mail.inbox; lanes = x.lanes.lanes.items }

-- the region of its buffers
abbrev pub region_in : Node → RegionName
region_in x = x.base.store.region

-- the passes that opened its pool and its inbox
abbrev pub lead_in : Node → Lead
lead_in x = record { pool = x.base.pass; inbox = x.mail.pass }

-- the ends of its lanes
abbrev pub ends_in : Node → List Pair
ends_in x = x.lanes.ends.items

-- a node with this plan has a buffer, and its inbox has room
pub record IsRoomy (n : PlainNodePlan) : Type 0 where
  pub some : 0 < n.buffers
  pub inbox : 0 < n.inbox

-- the plans of nodes, each with its wires, which have room
pub record AreWired (ns : List PlainNodePlan) (wires : List (Vec Wire)) : Type 0 where
  pub nodes : AllByRecursion IsRoomy ns
  pub count : length wires ≡ length ns
  pub low : length wires < 256
  pub few : AllByRecursion (λ (ws : Vec Wire). length ws.items < 256) wires
  pub rooms : AllByRecursion (λ (ws : Vec Wire). AllByRecursion (λ (w : Wire). 0 < w.room) ws.items) wires
