use Rattle.csp_topology.proofs.PartyLemmas.{parties_few}
use Rattle.csp_topology.proofs.laws.counts_parties.Goals as goal

pub returns : goal.returns
returns c = parties_few
