use Rattle.csp_ends.proofs.Kept.{of_it_kept, whole_kept, rules_kept}
use Rattle.csp_ends.proofs.laws.turns_keep_ends.Goals as goal

pub returns-clause-of_it : goal.returns-clause-of_it
returns-clause-of_it c = of_it_kept

pub returns-clause-whole : goal.returns-clause-whole
returns-clause-whole c = whole_kept

pub returns-clause-rules : goal.returns-clause-rules
returns-clause-rules c = rules_kept
