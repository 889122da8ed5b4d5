use Rattle.csp_standing.proofs.Leaders.{leaders}
use Rattle.csp_standing.proofs.laws.leads_nodes.Goals as goal

pub returns : goal.returns
returns c = leaders c.puts_leaders_first.ensures.led c.names_parties_apart.ensures
