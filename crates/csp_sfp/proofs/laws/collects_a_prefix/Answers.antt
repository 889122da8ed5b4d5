use Rattle.csp_sfp.proofs.Collecting.{collects_all, collects_beginning, collects_no_part}
use Rattle.csp_sfp.proofs.laws.collects_a_prefix.Goals as goal

pub returns-clause-prefix : goal.returns-clause-prefix
returns-clause-prefix c = collects_beginning

pub returns-clause-all : goal.returns-clause-all
returns-clause-all c = collects_all

pub returns-clause-part : goal.returns-clause-part
returns-clause-part c = collects_no_part
