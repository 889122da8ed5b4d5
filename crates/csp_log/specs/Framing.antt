-- the frame that a turn moved between its party and a queue, and the mark of the packet that it moved
use Rattle.std.specs.Prelude.{ℕ, Option, Some, None, length}
use Rattle.csp_log.specs.declared.entry.Entry.{Entry}
use Rattle.csp_log.specs.declared.frame.Frame.{Frame}
use Rattle.csp_log.specs.declared.shown.ItemShown.TheVariants as item
use Rattle.csp_log.specs.declared.shown.OpShown.{OpShown}
use Rattle.csp_log.specs.declared.shown.OpShown.TheVariants as op
use Rattle.csp_log.specs.declared.shown.AnswerShown.{AnswerShown}
use Rattle.csp_log.specs.declared.shown.AnswerShown.TheVariants as answer
use Rattle.csp_log.specs.declared.framed.Framed.{Framed}
use Rattle.csp_log.specs.declared.framed.Framed.TheVariants as framed
use Rattle.csp_log.specs.declared.framed.Piece.{Piece}

-- what is told of a frame
abbrev pub piece_of : Frame → Piece
piece_of f = record { can = f.can; len = length f.bytes.items; trace = f.trace }

-- the frame that a turn moved: pushed, or popped
abbrev pub framed_by : OpShown → AnswerShown → Framed
framed_by (op.Push q (item.Frame f)) answer.Pushed = framed.Pushed q (piece_of f)
framed_by (op.Pop q) (answer.Popped (item.Frame f)) = framed.Popped q (piece_of f)
framed_by _ _ = framed.NoFrame

-- the mark of the packet that a turn moved
abbrev pub marked_by : OpShown → AnswerShown → Option ℕ
marked_by (op.Push q (item.Packet mark p)) answer.Pushed = Some mark
marked_by (op.Pop q) (answer.Popped (item.Packet mark p)) = Some mark
marked_by _ _ = None

-- the frame that an entry's turn moved
abbrev pub framed_in : Entry → Framed
framed_in e = framed_by e.op e.answer

-- the mark of the packet that an entry's turn moved
abbrev pub marked_in : Entry → Option ℕ
marked_in e = marked_by e.op e.answer
