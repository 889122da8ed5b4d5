use Rattle.csp_meeting.proofs.Keeping.{none}
use Rattle.csp_meeting.proofs.laws.meetings_add_up.Goals as goal

pub returns-clause-none : goal.returns-clause-none
returns-clause-none c = none
