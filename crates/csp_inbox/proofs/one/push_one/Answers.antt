use Rattle.csp_inbox.proofs.Keeps.{puts, overflows}
use Rattle.csp_inbox.proofs.one.push_one.Goals as goal

pub push_as-requires-clause-push : goal.push_as-requires-clause-push
push_as-requires-clause-push g c = puts _ _ _ _ c.requires.writes c.requires.marked c.requires.carried

pub push_as-requires-clause-full : goal.push_as-requires-clause-full
push_as-requires-clause-full g c = overflows _ _ _
