-- the turns of a bridge: which one is next, what each asks, the bridge until the answer, and what each answer comes to
use Rattle.std.specs.Prelude.{ℕ, ◌==◌, Option, Some, None, List, [], ◌∷◌, if◌then◌else◌}
use Rattle.csp_bridge.specs.PlainBridge.{PlainBridge}
use Rattle.csp_bridge.specs.declared.doing.Doing.{Doing}
use Rattle.csp_bridge.specs.declared.doing.Doing.TheVariants as doing
use Rattle.csp_buffer.specs.Content.{Content}
use Rattle.csp_deck.specs.Step.{Kind, nothing, giving, pushing, popping}
use Rattle.csp_log.specs.declared.event.Discard.TheVariants as discard
use Rattle.csp_log.specs.declared.event.Event.{Event}
use Rattle.csp_log.specs.declared.event.Event.TheVariants as event
use Rattle.csp_log.specs.declared.places.QueueId.TheVariants as queue
use Rattle.csp_log.specs.declared.places.TheConstants.{UNMARKED}
use Rattle.csp_log.specs.declared.shown.AnswerShown.{AnswerShown}
use Rattle.csp_log.specs.declared.shown.AnswerShown.TheVariants as answer
use Rattle.csp_log.specs.declared.shown.ItemShown.TheVariants as item
use Rattle.csp_log.specs.declared.shown.OpShown.{OpShown}
use Rattle.csp_log.specs.declared.shown.OpShown.TheVariants as op

-- trash is given back; else a packet that is to go out goes; else the inbox is popped
abbrev pub first_rule : (trash out : Option Content) → Doing
first_rule (Some _) _ = doing.Give
first_rule None (Some _) = doing.Send
first_rule None None = doing.Hear

-- ---- the words of the table

-- the interface on the other side of the one with this number
abbrev pub beyond : ℕ → ℕ
beyond mark = (if mark == 0 then 1 else 0)

-- a buffer goes to the pool
abbrev pub given : Option Content → OpShown
given None = op.Nothing
given (Some b) = op.Give b

-- a packet goes on, which has no next hop
abbrev pub sent : ℕ → Option Content → OpShown
sent to None = op.Nothing
sent to (Some b) = op.Push (queue.Out to) (item.Packet UNMARKED b)

-- from a full pool a buffer is trash again
abbrev pub kept : PlainBridge → AnswerShown → PlainBridge
kept s (answer.PoolFull b) = record s { trash = Some b }
kept s _ = s

-- a packet for which there was no room is discarded
abbrev pub discarded : PlainBridge → AnswerShown → PlainBridge
discarded s (answer.Full (item.Packet _ b)) = record s { trash = Some b }
discarded s _ = s

-- which is reported
abbrev pub no_room : AnswerShown → List Event
no_room (answer.Full _) = event.Discarded discard.Full ∷ []
no_room _ = []

-- a packet that came in is to go out at the other side
abbrev pub crossing : PlainBridge → AnswerShown → PlainBridge
crossing s (answer.Popped (item.Packet mark b)) = record s { out = Some b; to = beyond mark }
crossing s _ = s

-- ---- the table

-- what a turn asks, of what kind that is, the bridge until the answer, and what each answer makes of it and has it report
pub record Turn : Type 0 where
  pub asks : OpShown
  pub awaits : Kind
  pub until : PlainBridge
  pub told : AnswerShown → PlainBridge
  pub reports : AnswerShown → List Event

-- what each turn is
abbrev pub turn_of : PlainBridge → Doing → Turn
turn_of s doing.Rest = record { asks = op.Nothing; awaits = nothing; until = s; told = λ a. s; reports = λ a. [] }
turn_of s doing.Give = record { asks = given s.trash; awaits = giving; until = record s { trash = None }; told = kept s; reports = λ a. [] }
turn_of s doing.Send = record { asks = sent s.to s.out; awaits = pushing (queue.Out s.to); until = record s { out = None }; told = discarded s; reports = no_room }
turn_of s doing.Hear = record { asks = op.Pop queue.Inbox; awaits = popping queue.Inbox; until = s; told = crossing s; reports = λ a. [] }

-- ---- a whole turn

-- the first rule that fits a bridge
abbrev pub plan_of : PlainBridge → Doing
plan_of s = first_rule s.trash s.out

-- what a bridge asks in its turn
abbrev pub asks : PlainBridge → OpShown
asks s = (turn_of s (plan_of s)).asks

-- the bridge from its question until the answer
abbrev pub asked : PlainBridge → PlainBridge
asked s = record (turn_of s (plan_of s)).until { doing = plan_of s }

-- what a bridge waits for
abbrev pub awaits : PlainBridge → Kind
awaits s = (turn_of s s.doing).awaits

-- the bridge after an answer
abbrev pub tells : PlainBridge → AnswerShown → PlainBridge
tells s a = record ((turn_of s s.doing).told a) { doing = doing.Rest }

-- what the bridge reports of an answer
abbrev pub events : PlainBridge → AnswerShown → List Event
events s a = (turn_of s s.doing).reports a
