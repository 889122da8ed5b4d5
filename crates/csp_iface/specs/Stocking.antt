-- what a turn of an interface leaves of its stock of boxes
use Rattle.std.specs.Prelude.{ℕ, ◌==◌, Bool, true, false, List, [], ◌∷◌, if◌then◌else◌}
use Rattle.csp_iface.specs.Circling.{all_read}
use Rattle.csp_iface.specs.Heeding.{is_for}
use Rattle.csp_iface.specs.PlainIface.{PlainIface}
use Rattle.csp_iface.specs.Telling.{answered, begun, has_packet, is_too_big}
use Rattle.csp_iface.specs.declared.plan.IfacePlan.{IfacePlan}
use Rattle.csp_iface.specs.declared.plan.IfacePlan.TheVariants as plan
use Rattle.csp_iface.specs.declared.receiver.Receiver.{Receiver}
use Rattle.csp_iface.specs.declared.receiver.Receiver.TheVariants as by
use Rattle.csp_iface.specs.declared.receiver.TheConstants.{MAX_HOPS}
use Rattle.csp_kiss.specs.GoingOn.{read_on}
use Rattle.csp_log.specs.PlainSpares.{PlainSpares, with_box, without_box}
use Rattle.csp_log.specs.declared.frame.Frame.{Frame}
use Rattle.csp_log.specs.declared.shown.ItemShown.{ItemShown}
use Rattle.csp_log.specs.declared.shown.ItemShown.TheVariants as item
use Rattle.csp_log.specs.declared.shown.AnswerShown.{AnswerShown}
use Rattle.csp_log.specs.declared.shown.AnswerShown.TheVariants as answer

-- the next of these frames is made, where one is left
abbrev pub made_stock : List Frame → PlainSpares → PlainSpares
made_stock [] s = s
made_stock (_ ∷ _) s = without_box s

-- a frame with these bytes still to read stays in hand; with none it is used up
abbrev pub in_hand_stock : List ℕ → PlainSpares → PlainSpares
in_hand_stock bytes s = if all_read bytes then with_box s else s

-- a frame that was popped, by the kind of the link: of a CAN bus it is used up
abbrev pub frame_stock : Receiver → Frame → PlainSpares → PlainSpares
frame_stock (by.Kiss _) f s = in_hand_stock f.bytes.items s
frame_stock (by.Can _) f s = with_box s

-- at the last hop number it is used up at once
abbrev pub heard_stock : Receiver → Frame → PlainSpares → PlainSpares
heard_stock r f s = if f.trace.hops == MAX_HOPS then with_box s else frame_stock r f s

-- the frame in hand, where there is one, is read on up to these bytes
abbrev pub read_stock : (before after : List ℕ) → PlainSpares → PlainSpares
read_stock before after s = if all_read before then s else in_hand_stock after s

-- what is left of a stock of boxes once the frame in hand was read on
abbrev pub further_stock : Receiver → PlainSpares → PlainSpares
further_stock (by.Kiss r) s = read_stock r.rest (read_on r.reading r.rest).left s
further_stock (by.Can _) s = s

-- but nothing is read on while a packet is in hand
abbrev pub going_on_stock : Bool → Receiver → PlainSpares → PlainSpares
going_on_stock true r s = s
going_on_stock false r s = further_stock r s

-- an item of `Out`: of a packet that is not too big the first frame is made
abbrev pub fetched_stock : PlainIface → ItemShown → PlainSpares → PlainSpares
fetched_stock i (item.Packet mark b) s = if is_too_big i b then s else made_stock (begun mark b i).frames s
fetched_stock i (item.Frame _) s = s
fetched_stock i (item.Note _) s = s

-- an item of `Rx`: a frame for another node of a hub is used up at once
abbrev pub caught_stock : PlainIface → ItemShown → PlainSpares → PlainSpares
caught_stock i (item.Frame f) s = if is_for i.heeds f then heard_stock i.receiver f s else with_box s
caught_stock i (item.Packet _ _) s = s
caught_stock i (item.Note _) s = s

-- what each answer makes of it: once a frame is pushed the next is made
abbrev pub answered_stock : PlainIface → IfacePlan → AnswerShown → PlainSpares → PlainSpares
answered_stock i plan.Transmit answer.Pushed s = made_stock i.frames s
answered_stock i plan.Fetch (answer.Popped x) s = fetched_stock i x s
answered_stock i plan.Receive (answer.Popped x) s = caught_stock i x s
answered_stock i _ _ s = s

-- what is left once the frame in hand is read on
abbrev pub read_after_stock : PlainIface → PlainSpares → PlainSpares
read_after_stock i s = going_on_stock (has_packet i) i.receiver s

-- what is left of a stock of boxes once the interface was told this answer
abbrev pub stocks : PlainIface → ℕ → AnswerShown → PlainSpares → PlainSpares
stocks i now a s = read_after_stock (answered i now a).iface (answered_stock i i.doing a s)
