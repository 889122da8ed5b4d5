use Rattle.std.proofs.Common.{◌≡◌, ◌∙◌, Some, ap}
use Rattle.csp_lists.specs.DeckParts.{plain_deck}
use Rattle.csp_lists.specs.Order.{position_of}
use Rattle.csp_lists.specs.PlainDeck.{pops_at, rule_at}
use Rattle.csp_lists.specs.Regioned.{shown_pop}
use Rattle.csp_lists.proofs.Answering.{pops_named, pop_keeps}
use Rattle.csp_lists.proofs.Standing.{inbox_there, order_kept, rule_there, stands_within}
use Rattle.csp_lists.proofs.list_deck.ListDeck.pop_from.Goals as goal

pub pop-requires : goal.pop-requires
pop-requires c = stands_within c.self.inside c.self.invariant _ _ c.position-at.ensures

pub invariant_of-self : goal.invariant_of-self
invariant_of-self c =
    let a = c.pop.ensures.answer in
    order_kept c.self.inside c.self.invariant c.position-at.result a.0 a.1 c.pop.new.self a.2 a.3 c.pop.ensures.region (pop_keeps a.0 a.1 (shown_pop c.pop.result) a.4)

pub returns-clause-so : goal.returns-clause-so
returns-clause-so c =
    let d = plain_deck c.self.inside in
    let a = c.pop.ensures.answer in
    let there : position_of c.self.inside.shape (pops_at d c.args.queue) ≡ Some c.position-at.result = rw (c.pops_at.ensures, ← c.self.view_is) at c.position-at.ensures in
    rw (← c.self.view_is, a.3) (
    pops_named d (inbox_there c.self.inside c.self.invariant) c.args.queue c.position-at.result a.0 a.1 (shown_pop c.pop.result) there a.2
    (λ p e. rule_there c.self.inside c.self.invariant (pops_at d c.args.queue) c.position-at.result a.0 there a.2 ∙ ap (rule_at c.self.invariant.links) e) a.4
    )
