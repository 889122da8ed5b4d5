use Rattle.csp_meeting.proofs.Keeping.{marked}
use Rattle.csp_meeting.proofs.laws.meetings_keep_ends.Goals as goal

pub returns-clause-marked : goal.returns-clause-marked
returns-clause-marked c = marked
