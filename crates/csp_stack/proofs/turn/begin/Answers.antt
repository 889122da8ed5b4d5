use Rattle.csp_log.specs.Pictures.{shown_op}
use Rattle.csp_stack.proofs.Resting.{timed_then}
use Rattle.csp_stack.proofs.turn.begin.Goals as goal

pub returns-clause-asks : goal.returns-clause-asks
returns-clause-asks c =
    timed_then c.args.facts.now c.args.state.now.state c.try_timers.new.self.state c.begin_plan.new.state.state c.args.now (shown_op c.begin_plan.result) c.try_timers.ensures.numbers c.try_timers.ensures.far c.begin_plan.ensures.asks
