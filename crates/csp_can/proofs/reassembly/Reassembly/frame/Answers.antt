use Rattle.std.proofs.Common.{rules}
use Rattle.csp_can.proofs.Sound.{counters_exactly}
use Rattle.csp_can.proofs.Counted.{by_whole_frames}
use Rattle.csp_can.proofs.reassembly.Reassembly.frame.Goals as goal

pub returns-clause-whole : goal.returns-clause-whole
returns-clause-whole c = by_whole_frames c.args.self.now.mtu _ _ _ _ (search rules) (search rules)

pub returns-clause-chain : goal.returns-clause-chain
returns-clause-chain c = counters_exactly c.args.self.now.mtu _ _ c.hear.result (search rules)
