use Rattle.csp_ends.proofs.AtHome.{put_mail, put_nowhere}
use Rattle.csp_ends.proofs.serving.post.Goals as goal
use Rattle.csp_ends.proofs.serving.post.Goals.{in-Some, in-None}

pub returns-clause-served : goal.returns-clause-served
returns-clause-served g c = elim c.match-ends.branch [
  | in-Some w ↦ rw (w.result-is, w.ends-inside-is, ← c.ends.view_is) (put_mail _ _ w.in-Some.home w.put.new.self c.args.item w.put.result (rw (← c.ends.view_is) at c.requires.whole) w.in-Some.is w.put.ensures.put)
  | in-None w ↦ rw (w.result-is, w.ends-inside-is, ← c.ends.view_is) (put_nowhere _ _ _ _ (rw (← c.ends.view_is) at c.requires.whole) w.in-None.is)
]
