use Rattle.std.proofs.Common.{[], ◌*◌}
use Rattle.std.specs.List.{range_with_len}
use Rattle.csp_base.specs.declared.limits.TheConstants.{SLOTS}
use Rattle.csp_ports.proofs.Conserving.{flows_timed}
use Rattle.csp_ports.proofs.Flowing.{keeps_of}
use Rattle.csp_ports.proofs.Following.{then_comes}
use Rattle.csp_ports.proofs.Quiet.{drops_quietly}
use Rattle.csp_ports.specs.PlainPorts.{PlainPorts}
use Rattle.csp_ports.specs.Steps.{dropped_in, timed, timed_in}
use Rattle.csp_ports.proofs.ports.Ports.tick.Goals as goal

pub returns-clause-comes : goal.returns-clause-comes
returns-clause-comes c =
    let p = c.args.self.now.ports in
    then_comes c.args.self.now c.tick_all.new.self c.drop_all.new.self c.args.trash.now c.tick_all.new.trash c.drop_all.new.trash c.args.report.now.items c.tick_all.new.report.items c.drop_all.new.report.items
    (timed_in c.args.now (range_with_len 0 (p.conns.apps * SLOTS)) p) (λ (q : PlainPorts). dropped_in (range_with_len 0 (q.conns.apps * SLOTS)) q)
    c.tick_all.ensures.comes c.drop_all.ensures.comes

pub returns-clause-keeps : goal.returns-clause-keeps
returns-clause-keeps c =
    keeps_of 0 c.args.self.now c.drop_all.new.self c.args.trash.now c.drop_all.new.trash c.args.report.now.items c.drop_all.new.report.items (timed c.args.now c.args.self.now.ports) []
    (returns-clause-comes c) (flows_timed c.args.now c.args.self.now.ports c.whole.ensures.machines)

pub returns-clause-quiet : goal.returns-clause-quiet
returns-clause-quiet c none =
    drops_quietly c.tick_all.new.self c.drop_all.new.self c.tick_all.new.trash c.drop_all.new.trash c.tick_all.new.report.items c.drop_all.new.report.items
    (range_with_len 0 (c.tick_all.new.self.ports.conns.apps * SLOTS)) c.tick_all.new.self.ports c.drop_all.ensures.comes c.tick_all.ensures.report none
