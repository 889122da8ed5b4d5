-- one turn: what it asks, what the application is until the answer, and what each answer comes to
use Rattle.std.specs.Prelude.{ℕ, Option, Some, None}
use Rattle.csp_app.specs.Collecting.{collectors_after}
use Rattle.csp_app.specs.Making.{packet_in, note_in}
use Rattle.csp_app.specs.PlainApp.{PlainApp}
use Rattle.csp_app.specs.Slots.{slots_after, took}
use Rattle.csp_app.specs.ToldApp.{ToldApp, after, not_an_answer}
use Rattle.csp_buffer.specs.Content.{Content}
use Rattle.csp_deck.specs.Step.{Kind, nothing, taking, giving, pushing, popping}
use Rattle.csp_log.specs.declared.note.Note.{Note}
use Rattle.csp_log.specs.declared.places.QueueId.TheVariants as queue
use Rattle.csp_log.specs.declared.shown.AnswerShown.{AnswerShown}
use Rattle.csp_log.specs.declared.shown.AnswerShown.TheVariants as answer
use Rattle.csp_log.specs.declared.shown.ItemShown.{ItemShown}
use Rattle.csp_log.specs.declared.shown.OpShown.{OpShown}
use Rattle.csp_log.specs.declared.shown.OpShown.TheVariants as op

-- the five forms of a turn, each with what every answer comes to
pub data Turn : Type 0 where
  -- it does nothing
  rests : (told : ToldApp) → Turn
  -- it takes a buffer from the pool: one is taken, or there is none
  takes : (taken : Content → ToldApp) → (none : ToldApp) → Turn
  -- it gives a buffer to the pool: it is given, or comes back
  gives : Option Content → (until : PlainApp) → (given : ToldApp) → (back : Content → ToldApp) → Turn
  -- it pushes an item to `Up`: it is pushed, or comes back
  pushes : Option ItemShown → (until : PlainApp) → (pushed : ToldApp) → (back : ItemShown → ToldApp) → Turn
  -- it pops `Down`, and looks what comes of that, with the note that came if one did
  pops : (until : PlainApp) → (look : Option Note → PlainApp → ToldApp) → Turn

-- a buffer goes to the pool
abbrev pub giving_op : Option Content → OpShown
giving_op None = op.Nothing
giving_op (Some b) = op.Give b

-- an item goes to the `Up` of this application
abbrev pub pushing_op : ℕ → Option ItemShown → OpShown
pushing_op number None = op.Nothing
pushing_op number (Some i) = op.Push (queue.Up number) i

-- the operation of an application's turn
abbrev pub op_of : ℕ → Turn → OpShown
op_of number (rests _) = op.Nothing
op_of number (takes _ _) = op.Take
op_of number (gives b _ _ _) = giving_op b
op_of number (pushes i _ _ _) = pushing_op number i
op_of number (pops _ _) = op.Pop (queue.Down number)

-- and its kind
abbrev pub kind_of_turn : ℕ → Turn → Kind
kind_of_turn number (rests _) = nothing
kind_of_turn number (takes _ _) = taking
kind_of_turn number (gives _ _ _ _) = giving
kind_of_turn number (pushes _ _ _ _) = pushing (queue.Up number)
kind_of_turn number (pops _ _) = popping (queue.Down number)

-- the application until the answer: what it hands over with the operation it has no more
abbrev pub until_told : PlainApp → Turn → PlainApp
until_told s (rests _) = s
until_told s (takes _ _) = s
until_told s (gives _ until _ _) = until
until_told s (pushes _ until _ _) = until
until_told s (pops until _) = until

-- an item was popped: a packet is taken on its slot, goes to the slot's collector, and is to be given back
abbrev pub popped : ItemShown → PlainApp → PlainApp
popped i s = record s { taken = packet_in i; slots = slots_after i s.collectors s.slots; collectors = collectors_after i s.collectors }

-- what it looks for when `Down` was popped
abbrev pub looked : Turn → Option Note → PlainApp → ToldApp
looked (rests _) _ s = not_an_answer s
looked (takes _ _) _ s = not_an_answer s
looked (gives _ _ _ _) _ s = not_an_answer s
looked (pushes _ _ _ _) _ s = not_an_answer s
looked (pops _ look) n s = look n s

-- what each answer comes to
abbrev pub told_of : PlainApp → Turn → AnswerShown → ToldApp
told_of s (rests told) answer.Nothing = told
told_of s (takes taken none) (answer.Taken b) = taken b
told_of s (takes taken none) answer.NoBuffer = none
told_of s (gives _ _ given back) answer.Given = given
told_of s (gives _ _ given back) (answer.PoolFull b) = back b
told_of s (pushes _ _ pushed back) answer.Pushed = pushed
told_of s (pushes _ _ pushed back) (answer.Full i) = back i
told_of s (pops _ look) (answer.Popped i) = after (took i s.collectors s.slots) (look (note_in i) (popped i s))
told_of s (pops _ look) answer.Empty = look None s
-- an answer to another operation
told_of s _ _ = not_an_answer s
