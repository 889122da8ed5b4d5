-- the turns of a link: which one is next, what each asks, the direction until the answer, and what each answer makes of it
use Rattle.std.specs.Prelude.{ℕ, ◌+◌, Bool, true, false, Option, Some, None, List, [], ◌++◌, length, nat_le}
use Rattle.std.specs.List.{insert, remove}
use Rattle.csp_deck.specs.Step.{Kind, nothing, pushing, popping}
use Rattle.csp_link.specs.Copies.{held_copies, held_until}
use Rattle.csp_link.specs.Fates.{fate_at}
use Rattle.csp_link.specs.Holding.{first_due}
use Rattle.csp_link.specs.PlainLink.{PlainDirection, PlainLink, in_turn, with_direction}
use Rattle.csp_link.specs.Ways.{from_queue, other, to_queue}
use Rattle.csp_link.specs.declared.doing.Doing.{Doing}
use Rattle.csp_link.specs.declared.doing.Doing.TheVariants as doing
use Rattle.csp_link.specs.declared.held.Held.{Held}
use Rattle.csp_link.specs.declared.held.TheConstants.{MOST_HELD}
use Rattle.csp_link.specs.declared.way.Way.{Way}
use Rattle.csp_log.specs.declared.event.Event.{Event}
use Rattle.csp_log.specs.declared.frame.Frame.{Frame}
use Rattle.csp_log.specs.declared.shown.AnswerShown.{AnswerShown}
use Rattle.csp_log.specs.declared.shown.AnswerShown.TheVariants as answer
use Rattle.csp_log.specs.declared.shown.ItemShown.{ItemShown}
use Rattle.csp_log.specs.declared.shown.ItemShown.TheVariants as item
use Rattle.csp_log.specs.declared.shown.OpShown.{OpShown}
use Rattle.csp_log.specs.declared.shown.OpShown.TheVariants as op

-- the first held frame that is due is pushed; else, with few frames held, one is popped; else nothing
abbrev pub first_rule : Option (ℕ × Held) → (few : Bool) → Doing
first_rule (Some p) _ = doing.Push p.0 p.1.due
first_rule None true = doing.Pop
first_rule None false = doing.Wait

-- what the turn of a direction is at this time
abbrev pub plan_in : PlainDirection → ℕ → Doing
plan_in d now = first_rule (first_due now d.held) (nat_le (length d.held) MOST_HELD)

-- whether it is a look for a frame
abbrev pub looks : Doing → Bool
looks doing.Pop = true
looks _ = false

-- ---- the words of the table

-- the frame in an item
abbrev pub frame_in : ItemShown → Option Frame
frame_in (item.Packet _ _) = None
frame_in (item.Frame frame) = Some frame
frame_in (item.Note _) = None

-- the frame that is due goes on
abbrev pub sent : Way → Option (ℕ × Held) → OpShown
sent way None = op.Nothing
sent way (Some p) = op.Push (to_queue way) (item.Frame p.1.frame)

-- and is held no more
abbrev pub without : Option (ℕ × Held) → PlainDirection → PlainDirection
without None d = d
without (Some p) d = record d { held = remove d.held p.0 }

-- a frame that comes back is held in its place
abbrev pub kept : ℕ → ℕ → Option Frame → PlainDirection → PlainDirection
kept place due (Some frame) d = record d { held = insert d.held place (held_until due frame) }
kept place due None d = d

-- a direction that popped a frame, the next in number: what the plan makes of it is held
abbrev pub taken : ℕ → Option Frame → PlainDirection → PlainDirection
taken now (Some frame) d = record d { popped = d.popped + 1; held = d.held ++ held_copies (fate_at d.fates (d.popped + 1)) now frame }
taken now None d = d

-- the frame that came back
abbrev pub frame_back : AnswerShown → Option Frame
frame_back (answer.Full i) = frame_in i
frame_back _ = None

-- and the frame that was popped
abbrev pub frame_popped : AnswerShown → Option Frame
frame_popped (answer.Popped i) = frame_in i
frame_popped _ = None

-- ---- the table

-- what a turn asks, of what kind that is, the direction until the answer, and what each answer makes of it
pub record Turn : Type 0 where
  pub asks : OpShown
  pub awaits : Kind
  pub until : PlainDirection
  pub told : AnswerShown → PlainDirection

-- what each turn is, of a direction with this frame due
abbrev pub turn_of : Way → ℕ → Option (ℕ × Held) → PlainDirection → Doing → Turn
turn_of way now due d doing.Rest = record { asks = op.Nothing; awaits = nothing; until = d; told = λ a. d }
turn_of way now due d (doing.Push place time) = record { asks = sent way due; awaits = pushing (to_queue way); until = without due d; told = λ a. kept place time (frame_back a) d }
turn_of way now due d doing.Pop = record { asks = op.Pop (from_queue way); awaits = popping (from_queue way); until = d; told = λ a. taken now (frame_popped a) d }
turn_of way now due d doing.Wait = record { asks = op.Nothing; awaits = nothing; until = d; told = λ a. d }

-- the next turn of a direction
abbrev pub turn_in : Way → ℕ → PlainDirection → Turn
turn_in way now d = turn_of way now (first_due now d.held) d (plan_in d now)

-- the turn that waits for its answer
abbrev pub turn_at : PlainLink → ℕ → Turn
turn_at s now = turn_of s.way now None (in_turn s) s.doing

-- ---- a whole turn

-- what a link asks in its turn
abbrev pub asks : PlainLink → ℕ → OpShown
asks s now = (turn_in s.way now (in_turn s)).asks

-- the link from its question until the answer
abbrev pub asked : PlainLink → ℕ → PlainLink
asked s now = record (with_direction s s.way (turn_in s.way now (in_turn s)).until) { doing = plan_in (in_turn s) now }

-- what a link waits for: that is the same at each time
abbrev pub awaits : PlainLink → Kind
awaits s = (turn_at s 0).awaits

-- the next turn is the other direction's
abbrev pub turned : PlainLink → PlainLink
turned s = record s { way = other s.way; doing = doing.Rest }

-- the link after an answer, with the other direction's turn next
abbrev pub tells : PlainLink → ℕ → AnswerShown → PlainLink
tells s now a = turned (with_direction s s.way ((turn_at s now).told a))

-- a link reports nothing
abbrev pub events : PlainLink → ℕ → AnswerShown → List Event
events s now a = []
