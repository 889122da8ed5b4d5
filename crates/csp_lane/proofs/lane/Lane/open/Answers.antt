use Rattle.csp_lane.proofs.Keeps.{begins}
use Rattle.csp_lane.proofs.lane.Lane.open.Goals as goal

pub ruled-requires-clause-rule : goal.ruled-requires-clause-rule
ruled-requires-clause-rule c = begins
