use Rattle.std.proofs.Common.{[], ◌-◌, ◌^◌, rules, subst, sym}
use Rattle.csp_ports.specs.Counts.{IsCountable}
use Rattle.csp_ports.specs.PlainPorts.{PortsAt}
use Rattle.csp_ports.proofs.Flowing.{keeps_of}
use Rattle.csp_ports.proofs.Serving.{flows_connected}
use Rattle.csp_ports.proofs.Wholes.{whole_seen}
use Rattle.csp_ports.specs.Asking.{connect}
use Rattle.csp_ports.proofs.ports.Ports.connect.Goals as goal

pub ask-requires-clause-countable : goal.ask-requires-clause-countable
ask-requires-clause-countable c =
    let h = subst (λ (x : PortsAt). IsCountable x.ports) (sym c.self.view_is) c.requires.countable in
    c.begin.ensures.far (2 ^ 32 - 2) (record { machines = h.machines; made = h.made; ends = h.ends })

pub returns-in-Ok-clause-comes : goal.returns-in-Ok-clause-comes
returns-in-Ok-clause-comes c = search rules

pub returns-in-Ok-clause-keeps : goal.returns-in-Ok-clause-keeps
returns-in-Ok-clause-keeps c =
    let p = c.args.self.now.ports in
    keeps_of 1 c.args.self.now c.ask.new.self c.args.trash.now c.ask.new.trash c.args.report.now.items c.args.report.now.items (connect c.args.flows p c.args.request c.args.now) []
    (returns-in-Ok-clause-comes c) (flows_connected c.args.flows p c.args.request c.args.now (whole_seen c.self.inside c.args.self.now c.self.view_is c.self.invariant))

pub returns-in-Ok-2-clause-comes : goal.returns-in-Ok-2-clause-comes
returns-in-Ok-2-clause-comes c = search rules

pub returns-in-Ok-2-clause-keeps : goal.returns-in-Ok-2-clause-keeps
returns-in-Ok-2-clause-keeps c =
    let p = c.args.self.now.ports in
    keeps_of 1 c.args.self.now c.owe.new.self c.args.trash.now c.args.trash.now c.args.report.now.items c.push.new.self.items (connect c.args.flows p c.args.request c.args.now) []
    (returns-in-Ok-2-clause-comes c) (flows_connected c.args.flows p c.args.request c.args.now (whole_seen c.self.inside c.args.self.now c.self.view_is c.self.invariant))
