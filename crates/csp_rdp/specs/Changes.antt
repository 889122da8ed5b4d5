-- what a step changed
use Rattle.csp_rdp.specs.declared.answers.Cause.{Cause}
use Rattle.csp_rdp.specs.declared.answers.Change.{Change}
use Rattle.csp_rdp.specs.declared.answers.Change.TheVariants as change
use Rattle.csp_rdp.specs.declared.answers.State.{State}
use Rattle.csp_rdp.specs.declared.answers.State.TheVariants.{Closed, SynSent, SynRcvd, Open, CloseWait}

-- by a step from the first state to the second that the application did not ask for, a connection is opened, refused for this reason, down, or closed
abbrev pub change_between : State → State → Cause → Change
change_between SynSent Open cause = change.Opened
change_between SynRcvd Open cause = change.Opened
change_between SynSent Closed cause = change.Refused cause
change_between Open CloseWait cause = change.Down
change_between Open Closed cause = change.Down
change_between SynRcvd Closed cause = change.Closed
change_between CloseWait Closed cause = change.Closed
change_between _ _ cause = change.None

-- what the application's close changed
abbrev pub close_change : State → Change
close_change SynSent = change.Closed
close_change _ = change.None
