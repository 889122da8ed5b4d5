use Rattle.csp_prefix.proofs.AppTurns.{true_apps}
use Rattle.csp_prefix.proofs.apps.applications_are_true.Goals as goal

pub returns : goal.returns
returns c = true_apps
