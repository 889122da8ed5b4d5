use Rattle.csp_topology.proofs.PartyPlaces.{parties_apart}
use Rattle.csp_topology.proofs.laws.names_parties_apart.Goals as goal

pub returns : goal.returns
returns c = parties_apart
