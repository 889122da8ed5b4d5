use Rattle.csp_nodes.proofs.DecksLaws.{rests}
use Rattle.csp_nodes.proofs.decks.DecksDeck.rest.Goals as goal

pub returns-clause-answer : goal.returns-clause-answer
returns-clause-answer c = rests c.args.self.now
