use Rattle.csp_blobs.proofs.AppTurns.{collects}
use Rattle.csp_blobs.proofs.laws.applications_collect.Goals as goal

pub returns : goal.returns
returns c = collects c.applications_are_true.ensures
