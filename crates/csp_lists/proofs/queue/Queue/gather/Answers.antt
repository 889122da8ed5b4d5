use Rattle.csp_lists.proofs.queue.Queue.gather.Goals as goal

pub returns-clause-of_it : goal.returns-clause-of_it
returns-clause-of_it c = rw (← c.self.view_is) (λ all. c.pour_shown.ensures.of_it c.self.inside.token.name c.self.invariant.of_it all)
