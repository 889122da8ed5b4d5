use Rattle.std.proofs.Common.{refl}
use Rattle.csp_ends.proofs.Ways.{rests}
use Rattle.csp_ends.proofs.deck.EndsDeckDeck.rest.Goals as goal

pub returns-clause-answer : goal.returns-clause-answer
returns-clause-answer g c = (rests c.args.self.now.queues.now c.args.self.now.ends.now, refl, refl)
