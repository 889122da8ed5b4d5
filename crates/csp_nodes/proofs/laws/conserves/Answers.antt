use Rattle.csp_nodes.proofs.ServingLaws.{changes}
use Rattle.csp_nodes.proofs.laws.conserves.Goals as goal

pub returns : goal.returns
returns c = λ decks links w o node d at. changes c.conserves.ensures decks links w o node d at
