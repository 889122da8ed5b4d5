-- the note that a turn moved between its party and a queue
use Rattle.csp_log.specs.declared.entry.Entry.{Entry}
use Rattle.csp_log.specs.declared.noted.Noted.{Noted}
use Rattle.csp_log.specs.declared.noted.Noted.TheVariants as noted
use Rattle.csp_log.specs.declared.shown.ItemShown.TheVariants as item
use Rattle.csp_log.specs.declared.shown.OpShown.{OpShown}
use Rattle.csp_log.specs.declared.shown.OpShown.TheVariants as op
use Rattle.csp_log.specs.declared.shown.AnswerShown.{AnswerShown}
use Rattle.csp_log.specs.declared.shown.AnswerShown.TheVariants as answer

-- a note is moved where its push was answered Pushed, or where it was popped
abbrev pub noted_by : OpShown → AnswerShown → Noted
noted_by (op.Push queue (item.Note note)) answer.Pushed = noted.Pushed queue note
noted_by (op.Pop queue) (answer.Popped (item.Note note)) = noted.Popped queue note
noted_by _ _ = noted.NoNote

-- what an entry's turn moved
abbrev pub noted_in : Entry → Noted
noted_in e = noted_by e.op e.answer
