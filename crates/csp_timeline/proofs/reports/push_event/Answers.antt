use Rattle.csp_timeline.proofs.reports.push_event.Goals as goal

pub returns-in-GaveUp : goal.returns-in-GaveUp
returns-in-GaveUp c = rw (c.in-GaveUp.is) c.push_step-in-GaveUp.ensures
