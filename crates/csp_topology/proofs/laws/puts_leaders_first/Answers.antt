use Rattle.csp_topology.proofs.PartyPlaces.{are_led, hub_stands}
use Rattle.csp_topology.proofs.laws.puts_leaders_first.Goals as goal

pub returns-clause-led : goal.returns-clause-led
returns-clause-led c = are_led

pub returns-clause-hubs : goal.returns-clause-hubs
returns-clause-hubs c = hub_stands
