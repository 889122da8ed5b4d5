use Rattle.csp_ends.proofs.AtHome.{gave_buffer, gave_nowhere}
use Rattle.csp_ends.proofs.serving.give.Goals as goal
use Rattle.csp_ends.proofs.serving.give.Goals.{in-Some, in-None}

pub returns-clause-served : goal.returns-clause-served
returns-clause-served g c = elim c.match-ends.branch [
  | in-Some w ↦ rw (w.result-is, w.ends-inside-is, ← c.ends.view_is) (gave_buffer _ _ w.in-Some.home w.give.new.self c.args.buffer w.give.result w.in-Some.is w.give.ensures.given)
  | in-None w ↦ rw (w.result-is, w.ends-inside-is, ← c.ends.view_is) (gave_nowhere _ _ _ _ w.in-None.is)
]
