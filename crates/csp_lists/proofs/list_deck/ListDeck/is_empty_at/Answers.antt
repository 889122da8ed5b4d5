use Rattle.std.proofs.Common.{◌≡◌, ◌∙◌, Some, ap, not, IsTrue}
use Rattle.csp_lists.specs.DeckParts.{plain_deck}
use Rattle.csp_lists.specs.Order.{position_of}
use Rattle.csp_lists.specs.PlainDeck.{has_items, pops_at, rule_at}
use Rattle.csp_lists.proofs.Answering.{none_pops, without_items}
use Rattle.csp_lists.proofs.Standing.{inbox_there, rule_there, stands, stands_within}
use Rattle.csp_lists.proofs.list_deck.ListDeck.is_empty_at.Goals as goal

pub has_items-requires : goal.has_items-requires
has_items-requires c = stands_within c.self.inside c.self.invariant _ _ c.position-at.ensures

pub returns : goal.returns
returns c = λ empty.
    let d = plain_deck c.self.inside in
    let there : position_of c.self.inside.shape (pops_at d c.args.queue) ≡ Some c.position-at.result = rw (c.pops_at.ensures, ← c.self.view_is) at c.position-at.ensures in
    let (q, here, _) = stands c.self.inside c.self.invariant (pops_at d c.args.queue) c.position-at.result there in
    let none : IsTrue (not (has_items (Some q))) = rw (c.has_items.ensures, here) at empty in
    rw (← c.self.view_is) (
    none_pops d (inbox_there c.self.inside c.self.invariant) c.args.queue c.position-at.result q there here
    (λ p e. rule_there c.self.inside c.self.invariant (pops_at d c.args.queue) c.position-at.result q there here ∙ ap (rule_at c.self.invariant.links) e) (without_items q none)
    )
