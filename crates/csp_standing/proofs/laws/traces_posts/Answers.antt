use Rattle.csp_standing.proofs.Tracing.{all_traced}
use Rattle.csp_standing.proofs.laws.traces_posts.Goals as goal

pub returns : goal.returns
returns c = all_traced c.puts_leaders_first.ensures.led c.puts_leaders_first.ensures.hubs c.names_parties_apart.ensures
