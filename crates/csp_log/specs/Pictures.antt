-- pictures of items, operations and answers: the same variants, with a picture of the buffer in place of it
use Rattle.std.specs.Prelude.{◌≡◌, ⊤}
use Rattle.csp_base.specs.declared.turns.Turn.{Turn}
use Rattle.csp_base.specs.declared.turns.Turn.TheVariants.{Did, Idle}
use Rattle.csp_log.specs.declared.item.Item.{Item}
use Rattle.csp_log.specs.declared.item.Item.TheVariants as item
use Rattle.csp_log.specs.declared.operation.Op.{Op}
use Rattle.csp_log.specs.declared.operation.Op.TheVariants as op
use Rattle.csp_log.specs.declared.operation.Answer.{Answer}
use Rattle.csp_log.specs.declared.operation.Answer.TheVariants as answer
use Rattle.csp_log.specs.declared.shown.ItemShown.{ItemShown}
use Rattle.csp_log.specs.declared.shown.ItemShown.TheVariants as item_shown
use Rattle.csp_log.specs.declared.shown.OpShown.{OpShown}
use Rattle.csp_log.specs.declared.shown.OpShown.TheVariants as op_shown
use Rattle.csp_log.specs.declared.shown.AnswerShown.{AnswerShown}
use Rattle.csp_log.specs.declared.shown.AnswerShown.TheVariants as answer_shown

-- an item's picture
abbrev pub shown_item : Item → ItemShown
shown_item (item.Packet mark buffer) = item_shown.Packet mark buffer.picture
shown_item (item.Frame frame) = item_shown.Frame frame
shown_item (item.Note note) = item_shown.Note note

-- an operation's picture
abbrev pub shown_op : Op → OpShown
shown_op op.Nothing = op_shown.Nothing
shown_op op.Take = op_shown.Take
shown_op (op.Give buffer) = op_shown.Give buffer.picture
shown_op (op.Push queue i) = op_shown.Push queue (shown_item i)
shown_op (op.Pop queue) = op_shown.Pop queue

-- an answer's picture
abbrev pub shown_answer : Answer → AnswerShown
shown_answer answer.Nothing = answer_shown.Nothing
shown_answer (answer.Taken buffer) = answer_shown.Taken buffer.picture
shown_answer answer.NoBuffer = answer_shown.NoBuffer
shown_answer answer.Given = answer_shown.Given
shown_answer (answer.PoolFull buffer) = answer_shown.PoolFull buffer.picture
shown_answer answer.Pushed = answer_shown.Pushed
shown_answer (answer.Full i) = answer_shown.Full (shown_item i)
shown_answer (answer.Popped i) = answer_shown.Popped (shown_item i)
shown_answer answer.Empty = answer_shown.Empty

-- a turn is idle exactly where nothing was asked, or the queue or pool was empty or full
abbrev pub turn_of : AnswerShown → Turn
turn_of answer_shown.Nothing = Idle
turn_of (answer_shown.Taken _) = Did
turn_of answer_shown.NoBuffer = Idle
turn_of answer_shown.Given = Did
turn_of (answer_shown.PoolFull _) = Idle
turn_of answer_shown.Pushed = Did
turn_of (answer_shown.Full _) = Idle
turn_of (answer_shown.Popped _) = Did
turn_of answer_shown.Empty = Idle

-- an answer of this operation: what comes back from a full pool or queue is what was handed in
abbrev pub Fits : OpShown → AnswerShown → Type 0
Fits op_shown.Nothing answer_shown.Nothing = ⊤
Fits op_shown.Take (answer_shown.Taken _) = ⊤
Fits op_shown.Take answer_shown.NoBuffer = ⊤
Fits (op_shown.Give _) answer_shown.Given = ⊤
Fits (op_shown.Give buffer) (answer_shown.PoolFull back) = back ≡ buffer
Fits (op_shown.Push _ _) answer_shown.Pushed = ⊤
Fits (op_shown.Push _ i) (answer_shown.Full back) = back ≡ i
Fits (op_shown.Pop _) (answer_shown.Popped _) = ⊤
Fits (op_shown.Pop _) answer_shown.Empty = ⊤
Fits _ _ = ⊥
