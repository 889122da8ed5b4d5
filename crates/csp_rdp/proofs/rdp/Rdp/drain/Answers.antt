use Rattle.csp_rdp.proofs.HoldingLemmas.{drains}
use Rattle.csp_rdp.proofs.rdp.Rdp.drain.Goals as goal

pub returns-clause-all : goal.returns-clause-all
returns-clause-all c = rw (c.hand_out.ensures.buffer, c.hand_out.ensures.state) (drains c.args.self.now)
