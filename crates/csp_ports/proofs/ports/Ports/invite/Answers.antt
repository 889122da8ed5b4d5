use Rattle.std.proofs.Common.{[], rules}
use Rattle.csp_ports.proofs.Flowing.{keeps_of}
use Rattle.csp_ports.proofs.Serving.{flows_invited}
use Rattle.csp_ports.specs.Packets.{accepted, invited}
use Rattle.csp_ports.proofs.ports.Ports.invite.Goals as goal

pub returns-clause-comes : goal.returns-clause-comes
returns-clause-comes c = search rules

pub returns-clause-keeps : goal.returns-clause-keeps
returns-clause-keeps c =
    let p = c.args.self.now.ports in
    keeps_of 1 c.args.self.now c.replace.new.self c.args.trash.now c.replace.new.trash [] [] (invited c.args.flows c.args.invitation c.in_ok-seat.seat c.args.now (accepted p c.in_ok-seat.seat c.args.connection c.args.prio c.args.flags)) []
    (returns-clause-comes c) (flows_invited c.args.flows p c.in_ok-seat.seat c.args.connection c.args.prio c.args.flags c.args.invitation c.args.now c.whole.ensures.machines)
