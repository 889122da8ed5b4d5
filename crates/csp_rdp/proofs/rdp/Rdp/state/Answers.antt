use Rattle.std.proofs.Common.{◌∙◌, ap, arith, length, sym}
use Rattle.csp_rdp.specs.Holding.{rdp_numbers, unneeded}
use Rattle.csp_rdp.proofs.HoldingLemmas.{few-numbers, over-empty}
use Rattle.csp_rdp.proofs.rdp.Rdp.state.Goals as goal

pub returns-clause-empty : goal.returns-clause-empty
returns-clause-empty c = λ not_open none.
    let r = c.self.inside in
    sym (ap rdp_numbers c.self.view_is)
    ∙ over-empty r.state r.send.packets r.recv c.self.invariant.packets c.self.invariant.unopened
    (λ e. not_open (sym (ap (λ q. q.state) c.self.view_is) ∙ e)) (ap unneeded c.self.view_is ∙ none)

pub returns-clause-few : goal.returns-clause-few
returns-clause-few c =
    let r = c.self.inside in
    let seen = ap (λ q. length (rdp_numbers q)) c.self.view_is in
    let few = few-numbers r.send.packets r.recv.kept in
    omega (arith, seen, few, c.capacity.ensures.few, c.capacity.ensures.value, c.capacity-2.ensures.few, c.capacity-2.ensures.value)
