-- what a turn of an interface is: by the first rule that fits
use Rattle.std.specs.Prelude.{Option, Some, None, List, [], ◌∷◌}
use Rattle.csp_buffer.specs.Content.{Content}
use Rattle.csp_iface.specs.PlainIface.{PlainIface}
use Rattle.csp_iface.specs.declared.packet.WholePacket.{WholePacket}
use Rattle.csp_iface.specs.declared.plan.IfacePlan.{IfacePlan}
use Rattle.csp_iface.specs.declared.plan.IfacePlan.TheVariants as plan
use Rattle.csp_iface.specs.declared.plan.Side.{Side}
use Rattle.csp_iface.specs.declared.plan.Side.TheVariants as side
use Rattle.csp_log.specs.declared.frame.Frame.{Frame}

-- the turn of a side: where frames are left, the next is pushed, and else the next packet is fetched; or a frame is popped
abbrev pub side_plan : Side → List Frame → IfacePlan
side_plan side.Sending [] = plan.Fetch
side_plan side.Sending (_ ∷ _) = plan.Transmit
side_plan side.Receiving _ = plan.Receive

-- 1. a buffer to be given back; 2. an accepted packet in its buffer; 3. a whole packet without one; 4. else the side whose turn it is
abbrev pub first_rule : Option Content → Option Content → Option WholePacket → IfacePlan → IfacePlan
first_rule (Some _) accepted whole own = plan.Return
first_rule None (Some _) whole own = plan.Deliver
first_rule None None (Some _) own = plan.Take
first_rule None None None own = own

-- the first rule that fits an interface
abbrev pub plan_of : PlainIface → IfacePlan
plan_of s = first_rule s.back s.accepted s.whole (side_plan s.side s.frames)
