use Rattle.std.proofs.Common.{[], rules}
use Rattle.csp_ports.proofs.Flowing.{keeps_of}
use Rattle.csp_ports.proofs.Serving.{flows_ended}
use Rattle.csp_ports.proofs.Wholes.{there_few}
use Rattle.csp_ports.specs.Asking.{close}
use Rattle.csp_ports.specs.PlainPorts.{is_closing, terms_at}
use Rattle.csp_ports.proofs.ports.Ports.close.Goals as goal

pub returns-clause-comes : goal.returns-clause-comes
returns-clause-comes c = search rules

pub returns-clause-keeps : goal.returns-clause-keeps
returns-clause-keeps c =
    let p = c.args.self.now.ports in
    let few = there_few p c.args.seat c.whole.ensures.machines c.requires.there in
    keeps_of 0 c.args.self.now c.end_in.new.self c.args.trash.now c.close_machine-state.new.trash [] [] (close p c.args.seat c.args.now) []
    (returns-clause-comes c) (flows_ended (is_closing (terms_at p c.args.seat).wish) p c.args.seat c.args.now few c.whole.ensures.machines)
