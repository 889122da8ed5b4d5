use Rattle.std.proofs.Common.{arith}
use Rattle.csp_base.proofs.TransferLemmas.{took_more}
use Rattle.csp_base.proofs.source.read_up_to.Goals as goal

pub returns-in_err-read_some-clause-stops : goal.returns-in_err-read_some-clause-stops
returns-in_err-read_some-clause-stops g c = took_more _ _ _ _ _ _ c.loop-chunk.invariant.taken c.in_err-read_some.ensures.refused (omega arith)
