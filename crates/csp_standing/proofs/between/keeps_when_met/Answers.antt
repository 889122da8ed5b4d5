use Rattle.csp_standing.proofs.Heard.{all_kept}
use Rattle.csp_standing.proofs.between.keeps_when_met.Goals as goal

pub returns : goal.returns
returns c = all_kept
