-- what goes by the kind of a link
use Rattle.std.specs.Prelude.{ℕ, true, false, []}
use Rattle.csp_base.specs.Trace.{no_trace}
use Rattle.csp_can.specs.Listening.{silent}
use Rattle.csp_deck.specs.Carried.{IsCarried}
use Rattle.csp_iface.specs.declared.receiver.Receiver.{Receiver}
use Rattle.csp_iface.specs.declared.receiver.Receiver.TheVariants as by
use Rattle.csp_kiss.specs.Reading.{unread}
use Rattle.csp_log.specs.Kinds.{carried_on}
use Rattle.csp_log.specs.declared.frame.Frame.{Frame}
use Rattle.csp_log.specs.declared.places.Carries.{Carries}
use Rattle.csp_log.specs.declared.places.Carries.TheVariants as lane
use Rattle.csp_log.specs.declared.places.LinkKind.{LinkKind}
use Rattle.csp_log.specs.declared.places.LinkKind.TheVariants as link
use Rattle.csp_log.specs.declared.places.Rule.TheVariants as rule
use Rattle.csp_log.specs.declared.shown.ItemShown.TheVariants as item

-- a lane carries this frame
abbrev pub IsFrameIn : Carries → Frame → Type 0
IsFrameIn carries f = IsCarried (rule.Lane carries) (item.Frame f)

-- a link of this kind carries this frame
abbrev pub IsFrameOn : LinkKind → Frame → Type 0
IsFrameOn kind f = IsFrameIn (carried_on kind) f

-- what an interface keeps of it before anything came: it takes packets of at most so many payload bytes, on a KISS link with the CRC of the link's kind
abbrev pub receiver_for : LinkKind → (mtu : ℕ) → Receiver
receiver_for link.Kiss mtu = by.Kiss (record { reading = unread false mtu; rest = []; trace = no_trace })
receiver_for link.KissHeader mtu = by.Kiss (record { reading = unread true mtu; rest = []; trace = no_trace })
receiver_for link.Can mtu = by.Can (silent mtu)

-- what comes to an interface that keeps this
abbrev pub heard_in : Receiver → Carries
heard_in (by.Kiss _) = lane.Kiss
heard_in (by.Can _) = lane.Can
