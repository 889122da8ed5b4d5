use Rattle.csp_stack.proofs.turn.finish.Goals as goal

pub returns-clause-numbers : goal.returns-clause-numbers
returns-clause-numbers c k = rw c.end_turn-doing.ensures.state at (c.finish_plan.ensures.keeps.numbers k)

pub returns-clause-far : goal.returns-clause-far
returns-clause-far c n = rw c.end_turn-doing.ensures.state at (c.finish_plan.ensures.keeps.far n)
