use Rattle.csp_log.specs.declared.shown.AnswerShown.TheVariants as answer
use Rattle.csp_stack.proofs.Awaiting.{seen_awaited}
use Rattle.csp_stack.proofs.party.StackParty.miss.Goals as goal

pub miss-requires-clause-fits : goal.miss-requires-clause-fits
miss-requires-clause-fits c = seen_awaited _ _ answer.Empty c.self.view_is c.requires.fits

pub invariant_of-self : goal.invariant_of-self
invariant_of-self c = c.miss.ensures.sound

pub returns-clause-holds : goal.returns-clause-holds
returns-clause-holds c k = rw (← c.self.view_is) (c.miss.ensures.numbers k)

pub returns-clause-count : goal.returns-clause-count
returns-clause-count c = rw (← c.self.view_is) (c.counts.ensures.more 1 c.self.inside.state.state.ports c.miss.new.state.state.ports c.miss.ensures.far)
