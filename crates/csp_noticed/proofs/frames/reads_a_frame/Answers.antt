use Rattle.csp_noticed.proofs.WholeFrames.{frame-read}
use Rattle.csp_noticed.proofs.frames.reads_a_frame.Goals as goal

pub returns : goal.returns
returns c = frame-read
