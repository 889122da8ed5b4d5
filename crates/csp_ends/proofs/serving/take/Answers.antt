use Rattle.csp_ends.proofs.AtHome.{took_buffer, took_nothing}
use Rattle.csp_ends.proofs.serving.take.Goals as goal
use Rattle.csp_ends.proofs.serving.take.Goals.{in-Some, in-None}

pub returns-clause-served : goal.returns-clause-served
returns-clause-served g c = elim c.match-ends.branch [
  | in-Some w ↦ rw (w.result-is, w.ends-inside-is, ← c.ends.view_is) (took_buffer _ _ w.in-Some.home w.take.new.self w.take.result w.in-Some.is w.take.ensures.taken)
  | in-None w ↦ rw (w.result-is, w.ends-inside-is, ← c.ends.view_is) (took_nothing _ _ w.in-None.is)
]
