use Rattle.csp_inbox.proofs.Keeps.{joins}
use Rattle.csp_inbox.proofs.one.join_one.Goals as goal

pub join-requires-clause-rule : goal.join-requires-clause-rule
join-requires-clause-rule c = joins _ _ _ _ c.requires.roles.0 c.requires.roles.1 c.requires.roles.2
