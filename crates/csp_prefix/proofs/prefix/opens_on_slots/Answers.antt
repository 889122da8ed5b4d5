use Rattle.csp_prefix.proofs.OpeningPlaces.{placed_there}
use Rattle.csp_prefix.proofs.prefix.opens_on_slots.Goals as goal

pub returns : goal.returns
returns c = placed_there
