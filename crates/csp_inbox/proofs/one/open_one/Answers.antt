use Rattle.std.proofs.Common.{rules}
use Rattle.csp_inbox.proofs.Keeps.{begins, opens}
use Rattle.csp_inbox.proofs.one.open_one.Goals as goal

pub open-requires-clause-rule : goal.open-requires-clause-rule
open-requires-clause-rule g c = begins

pub split-spent-requires-clause-rule : goal.split-spent-requires-clause-rule
split-spent-requires-clause-rule g c = opens _ _ _ (search rules)
