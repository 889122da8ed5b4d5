use Rattle.csp_stack.proofs.Keeping.{far_same, timed_holds}
use Rattle.csp_stack.proofs.state.State.try_timers.Goals as goal

pub returns-then-not-is_quiet-clause-quiet : goal.returns-then-not-is_quiet-clause-quiet
returns-then-not-is_quiet-clause-quiet c = c.tick.ensures.quiet

pub returns-then-not-is_quiet-clause-numbers : goal.returns-then-not-is_quiet-clause-numbers
returns-then-not-is_quiet-clause-numbers c k = timed_holds c.args.self.now _ c.tick.new.self.ports c.tick.new.trash.contents c.tick.new.report.items c.self.view_is c.tick.ensures.keeps k

pub returns-then-not-is_quiet-clause-far : goal.returns-then-not-is_quiet-clause-far
returns-then-not-is_quiet-clause-far c n = rw (← c.self.view_is) (λ h. far_same n c.tick.new.self.ports (c.tick.ensures.keeps.far n h))
