use Rattle.csp_posts.proofs.Turning.{turns_joined}
use Rattle.csp_posts.proofs.laws.turns_add_up.Goals as goal

pub returns : goal.returns
returns c = turns_joined
