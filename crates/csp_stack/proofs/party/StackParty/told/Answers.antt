use Rattle.std.proofs.Common.{◌-◌, ◌^◌, arith}
use Rattle.csp_log.specs.Pictures.{shown_answer}
use Rattle.csp_stack.proofs.Awaiting.{awaited}
use Rattle.csp_stack.proofs.party.StackParty.told.Goals as goal

pub finish-requires-clause-fits : goal.finish-requires-clause-fits
finish-requires-clause-fits c = awaited _ _ (shown_answer c.args.answer) c.self.view_is c.requires.fits

pub finish-requires-clause-countable : goal.finish-requires-clause-countable
finish-requires-clause-countable c =
    let few = rw (← c.self.view_is) at c.requires.countable in
    c.counts.ensures.all (2 ^ 32 - 2) c.self.inside.state.state.ports (omega (arith, few))

pub invariant_of-self : goal.invariant_of-self
invariant_of-self c = c.finish.ensures.sound

pub returns-clause-holds : goal.returns-clause-holds
returns-clause-holds c k = rw (← c.self.view_is) (c.finish.ensures.numbers k)

pub returns-clause-count : goal.returns-clause-count
returns-clause-count c = rw (← c.self.view_is) (c.counts.ensures.more 1 c.self.inside.state.state.ports c.finish.new.state.state.ports c.finish.ensures.far)
