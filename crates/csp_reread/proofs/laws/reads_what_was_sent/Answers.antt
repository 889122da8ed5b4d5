use Rattle.csp_reread.proofs.Whole.{reads}
use Rattle.csp_reread.proofs.laws.reads_what_was_sent.Goals as goal

pub returns : goal.returns
returns c scene r link end cover name are there covered most words = reads scene r link end cover name are there covered most words
