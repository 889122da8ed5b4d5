use Rattle.std.proofs.Common.{ap}
use Rattle.csp_rdp.specs.Holding.{rdp_numbers}
use Rattle.csp_rdp.proofs.rdp.Rdp.fill.Goals as goal

pub returns-in-Rst-clause-packet : goal.returns-in-Rst-clause-packet
returns-in-Rst-clause-packet c = rw c.in-Rst.is (c.fill_rst.ensures.packet c.args.now)

pub returns-in-Rst-clause-state : goal.returns-in-Rst-clause-state
returns-in-Rst-clause-state c = rw c.in-Rst.is (c.fill_rst.ensures.state c.args.now)

pub returns-in-Rst-clause-holds : goal.returns-in-Rst-clause-holds
returns-in-Rst-clause-holds c = ap rdp_numbers (c.fill_rst.ensures.state c.args.now)

pub returns-in-Eak-clause-packet : goal.returns-in-Eak-clause-packet
returns-in-Eak-clause-packet c = rw c.in-Eak.is (c.fill_eak.ensures.packet c.args.now)

pub returns-in-Eak-clause-state : goal.returns-in-Eak-clause-state
returns-in-Eak-clause-state c = rw c.in-Eak.is (c.fill_eak.ensures.state c.args.now)

pub returns-in-Eak-clause-holds : goal.returns-in-Eak-clause-holds
returns-in-Eak-clause-holds c = ap rdp_numbers (c.fill_eak.ensures.state c.args.now)

pub returns-in-Ack-clause-packet : goal.returns-in-Ack-clause-packet
returns-in-Ack-clause-packet c = rw c.in-Ack.is (c.fill_ack.ensures.packet c.args.now)

pub returns-in-Ack-clause-state : goal.returns-in-Ack-clause-state
returns-in-Ack-clause-state c = rw c.in-Ack.is (c.fill_ack.ensures.state c.args.now)

pub returns-in-Ack-clause-holds : goal.returns-in-Ack-clause-holds
returns-in-Ack-clause-holds c = ap rdp_numbers (c.fill_ack.ensures.state c.args.now)

pub returns-in-Syn-clause-packet : goal.returns-in-Syn-clause-packet
returns-in-Syn-clause-packet c = rw c.in-Syn.is (c.fill_syn.ensures.packet c.args.now)
