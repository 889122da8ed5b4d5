use Rattle.csp_blobs.proofs.AnswerTurns.{no_more}
use Rattle.csp_blobs.proofs.asking.answers_no_more.Goals as goal

pub returns : goal.returns
returns c = no_more
