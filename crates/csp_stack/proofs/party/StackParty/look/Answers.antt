use Rattle.std.proofs.Common.{◌≤◌, arith}
use Rattle.csp_ports.specs.Counts.{greatest}
use Rattle.csp_stack.proofs.Awaiting.{far_plus}
use Rattle.csp_stack.proofs.Resting.{looked_far, looked_numbers}
use Rattle.csp_stack.proofs.party.StackParty.look.Goals as goal

pub returns-clause-holds : goal.returns-clause-holds
returns-clause-holds c k = rw (← c.self.view_is) (looked_numbers c.look.result c.self.inside.facts c.self.inside.state c.look.new.state _ c.args.now c.look.ensures.looks c.look.ensures.asks k)

pub returns-clause-count : goal.returns-clause-count
returns-clause-count c =
    let p = c.self.inside.state.state.ports in
    let q = c.look.new.state.state.ports in
    let more = c.counts.ensures.more 0 p q (λ n h. far_plus n q (looked_far c.look.result c.self.inside.facts c.self.inside.state c.look.new.state _ c.args.now c.look.ensures.looks c.look.ensures.asks n h)) in
    let few : greatest q ≤ greatest p = omega (arith, more) in
    rw (← c.self.view_is) few
