use Rattle.csp_peers.proofs.Addresses.{addressed_apart}
use Rattle.csp_peers.proofs.laws.addresses_differ.Goals as goal

pub returns : goal.returns
returns c = addressed_apart
