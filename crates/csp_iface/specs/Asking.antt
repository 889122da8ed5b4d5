-- what an interface asks, and what it is then
use Rattle.std.specs.Prelude.{ℕ, Option, Some, None, drop, slice_get}
use Rattle.csp_buffer.specs.Content.{Content}
use Rattle.csp_deck.specs.Step.{Kind, nothing, taking, giving, pushing, popping}
use Rattle.csp_iface.specs.PlainIface.{PlainIface}
use Rattle.csp_iface.specs.Planning.{plan_of}
use Rattle.csp_iface.specs.declared.plan.IfacePlan.{IfacePlan}
use Rattle.csp_iface.specs.declared.plan.IfacePlan.TheVariants as plan
use Rattle.csp_iface.specs.declared.plan.Side.{Side}
use Rattle.csp_iface.specs.declared.plan.Side.TheVariants as side
use Rattle.csp_log.specs.declared.frame.Frame.{Frame}
use Rattle.csp_log.specs.declared.places.QueueId.TheVariants as queue
use Rattle.csp_log.specs.declared.shown.ItemShown.TheVariants as item
use Rattle.csp_log.specs.declared.shown.OpShown.{OpShown}
use Rattle.csp_log.specs.declared.shown.OpShown.TheVariants as op

-- a buffer goes back to the pool
abbrev pub given : Option Content → OpShown
given (Some b) = op.Give b
given None = op.Nothing

-- an accepted packet goes to the inbox, marked with the interface
abbrev pub delivered : ℕ → Option Content → OpShown
delivered number (Some b) = op.Push queue.Inbox (item.Packet number b)
delivered number None = op.Nothing

-- a frame goes to the link
abbrev pub transmitted : ℕ → Option Frame → OpShown
transmitted number (Some f) = op.Push (queue.Tx number) (item.Frame f)
transmitted number None = op.Nothing

-- the operation of each turn
abbrev pub op_of : PlainIface → IfacePlan → OpShown
op_of s plan.Rest = op.Nothing
op_of s plan.Return = given s.back
op_of s plan.Deliver = delivered s.number s.accepted
op_of s plan.Take = op.Take
op_of s plan.Transmit = transmitted s.number (slice_get s.frames 0)
op_of s plan.Fetch = op.Pop (queue.Out s.number)
op_of s plan.Receive = op.Pop (queue.Rx s.number)

-- what an interface asks in its turn
abbrev pub asks : PlainIface → ℕ → OpShown
asks s now = op_of s (plan_of s)

-- the side of an interface whose turn comes after this one's
abbrev pub other : Side → Side
other side.Sending = side.Receiving
other side.Receiving = side.Sending

-- a turn of a side: the next is the other's, whatever comes of it
abbrev pub turned : PlainIface → PlainIface
turned s = record s { side = other s.side }

-- what it hands over with the operation it has no more
abbrev pub handed : PlainIface → IfacePlan → PlainIface
handed s plan.Rest = s
handed s plan.Return = record s { back = None }
handed s plan.Deliver = record s { accepted = None }
handed s plan.Take = s
handed s plan.Transmit = turned (record s { frames = drop 1 s.frames })
handed s plan.Fetch = turned s
handed s plan.Receive = turned s

-- the interface from its question until the answer
abbrev pub asked : PlainIface → ℕ → PlainIface
asked s now = record (handed s (plan_of s)) { doing = plan_of s }

-- what kind of operation it waits for
abbrev pub kind_of_plan : ℕ → IfacePlan → Kind
kind_of_plan number plan.Rest = nothing
kind_of_plan number plan.Return = giving
kind_of_plan number plan.Deliver = pushing queue.Inbox
kind_of_plan number plan.Take = taking
kind_of_plan number plan.Transmit = pushing (queue.Tx number)
kind_of_plan number plan.Fetch = popping (queue.Out number)
kind_of_plan number plan.Receive = popping (queue.Rx number)

-- what an interface waits for
abbrev pub awaits : PlainIface → Kind
awaits s = kind_of_plan s.number s.doing
