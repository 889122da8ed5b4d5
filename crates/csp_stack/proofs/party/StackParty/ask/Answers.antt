use Rattle.std.proofs.Common.{◌≤◌, arith}
use Rattle.csp_ports.specs.Counts.{greatest}
use Rattle.csp_stack.proofs.Awaiting.{far_plus}
use Rattle.csp_stack.proofs.party.StackParty.ask.Goals as goal

pub invariant_of-self : goal.invariant_of-self
invariant_of-self c = c.begin.ensures.asks.sound

pub returns-clause-holds : goal.returns-clause-holds
returns-clause-holds c k = rw (← c.self.view_is) (c.begin.ensures.asks.numbers k)

pub returns-clause-count : goal.returns-clause-count
returns-clause-count c =
    let p = c.self.inside.state.state.ports in
    let q = c.begin.new.state.state.ports in
    let more = c.counts.ensures.more 0 p q (λ n h. far_plus n q (c.begin.ensures.asks.far n h)) in
    let few : greatest q ≤ greatest p = omega (arith, more) in
    rw (← c.self.view_is) few

pub returns-clause-waiting : goal.returns-clause-waiting
returns-clause-waiting c = c.begin.ensures.asks.waits

pub returns-clause-awaits : goal.returns-clause-awaits
returns-clause-awaits c = c.begin.ensures.asks.kind
