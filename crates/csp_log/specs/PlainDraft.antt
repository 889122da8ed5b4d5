-- the draft of an entry: what was asked, and what it was answered
use Rattle.csp_log.specs.declared.shown.OpShown.{OpShown}
use Rattle.csp_log.specs.declared.shown.OpShown.TheVariants as op
use Rattle.csp_log.specs.declared.shown.AnswerShown.{AnswerShown}
use Rattle.csp_log.specs.declared.shown.AnswerShown.TheVariants as answer

-- what a turn asked, and what it was answered
pub record PlainDraft : Type 0 where
  pub op : OpShown
  pub answer : AnswerShown

-- the answer of an operation that brings nothing
abbrev pub bare_answer : OpShown → AnswerShown
bare_answer op.Nothing = answer.Nothing
bare_answer op.Take = answer.NoBuffer
bare_answer (op.Give _) = answer.Given
bare_answer (op.Push _ _) = answer.Pushed
bare_answer (op.Pop _) = answer.Empty

-- the draft once this was asked
abbrev pub drafted : OpShown → PlainDraft
drafted o = record { op = o; answer = bare_answer o }
