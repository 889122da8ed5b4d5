use Rattle.csp_ends.proofs.AtHome.{got_mail, got_nothing}
use Rattle.csp_ends.proofs.serving.receive.Goals as goal
use Rattle.csp_ends.proofs.serving.receive.Goals.{in-Some, in-None}

pub returns-clause-served : goal.returns-clause-served
returns-clause-served g c = elim c.match-ends.branch [
  | in-Some w ↦ rw (w.result-is, w.ends-inside-is, ← c.ends.view_is) (got_mail _ _ w.in-Some.home w.get.new.self w.get.result (rw (← c.ends.view_is) at c.requires.whole) w.in-Some.is w.get.ensures.got)
  | in-None w ↦ rw (w.result-is, w.ends-inside-is, ← c.ends.view_is) (got_nothing _ _ w.in-None.is)
]
