use Rattle.csp_noticed.proofs.WholeFrames.{frame-noticed, frame-skipped}
use Rattle.csp_noticed.proofs.frames.notices_a_plain_bit.Goals as goal

pub returns-clause-noticed : goal.returns-clause-noticed
returns-clause-noticed c = frame-noticed

pub returns-clause-skipped : goal.returns-clause-skipped
returns-clause-skipped c = frame-skipped
