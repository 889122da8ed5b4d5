-- what a hub asks, and what it is until the answer
use Rattle.std.specs.Prelude.{ℕ, Option, Some, None}
use Rattle.std.specs.List.{remove}
use Rattle.csp_deck.specs.Step.{Kind, nothing, pushing, popping}
use Rattle.csp_hub.specs.PlainHub.{PlainEnd, PlainHub, served, with_served}
use Rattle.csp_hub.specs.Planning.{HubPlan, push, pop, wait, plan_of}
use Rattle.csp_hub.specs.declared.doing.Doing.{Doing}
use Rattle.csp_hub.specs.declared.doing.Doing.TheVariants as doing
use Rattle.csp_link.specs.Holding.{first_due}
use Rattle.csp_link.specs.declared.held.Held.{Held}
use Rattle.csp_log.specs.declared.places.QueueId.TheVariants as queue
use Rattle.csp_log.specs.declared.shown.ItemShown.TheVariants as item
use Rattle.csp_log.specs.declared.shown.OpShown.{OpShown}
use Rattle.csp_log.specs.declared.shown.OpShown.TheVariants as op

-- the operation of a turn that serves the end of this number
abbrev pub op_of : ℕ → HubPlan → OpShown
op_of k (push _ h) = op.Push (queue.Rx k) (item.Frame h.frame)
op_of k pop = op.Pop (queue.Tx k)
op_of k wait = op.Nothing

-- what a hub asks in its turn
abbrev pub asks : PlainHub → ℕ → OpShown
asks h now = op_of h.serving (plan_of h now)

-- a frame that is pushed is held no more
abbrev pub without : Option (ℕ × Held) → PlainEnd → PlainEnd
without (Some p) e = record e { held = remove e.held p.0 }
without None e = e

-- what is kept in mind: its place and when it was due
abbrev pub doing_of : HubPlan → Doing
doing_of (push place h) = doing.Push place h.due
doing_of pop = doing.Pop
doing_of wait = doing.Wait

-- the hub from its question until the answer
abbrev pub asked : PlainHub → ℕ → PlainHub
asked h now = record (with_served h (without (first_due now (served h).held) (served h))) { doing = doing_of (plan_of h now) }

-- what kind of operation it waits for
abbrev pub kind_of_doing : ℕ → Doing → Kind
kind_of_doing k doing.Rest = nothing
kind_of_doing k (doing.Push _ _) = pushing (queue.Rx k)
kind_of_doing k doing.Pop = popping (queue.Tx k)
kind_of_doing k doing.Wait = nothing

-- what a hub waits for
abbrev pub awaits : PlainHub → Kind
awaits h = kind_of_doing h.serving h.doing
