use Rattle.std.proofs.Common.{◌≡◌, Some}
use Rattle.csp_deck.specs.Carried.{place_for}
use Rattle.csp_lists.specs.DeckParts.{plain_deck}
use Rattle.csp_lists.specs.Order.{position_of}
use Rattle.csp_lists.specs.Regioned.{shown_push}
use Rattle.csp_log.specs.Pictures.{shown_item}
use Rattle.csp_lists.proofs.Answering.{pushes_so, carries_at, push_keeps}
use Rattle.csp_lists.proofs.Standing.{order_kept}
use Rattle.csp_lists.proofs.list_deck.ListDeck.push_to.Goals as goal

pub push-requires-clause-carried : goal.push-requires-clause-carried
push-requires-clause-carried c =
    let there : position_of c.self.inside.shape (place_for c.args.queue (shown_item c.args.item)) ≡ Some c.position-at.result = rw c.goes_to.ensures at c.position-at.ensures in
    carries_at c.self.inside c.self.invariant c.args.queue (shown_item c.args.item) c.position-at.result there (rw (← c.self.view_is) at c.requires.carried)

pub invariant_of-self : goal.invariant_of-self
invariant_of-self c =
    let a = c.push.ensures.answer in
    order_kept c.self.inside c.self.invariant c.position-at.result a.0 a.1 c.push.new.self a.2 a.3 c.push.ensures.region (push_keeps a.0 (shown_item c.args.item) a.1 (shown_push c.push.result) a.4)

pub returns-clause-so : goal.returns-clause-so
returns-clause-so c =
    let a = c.push.ensures.answer in
    let there : position_of c.self.inside.shape (place_for c.args.queue (shown_item c.args.item)) ≡ Some c.position-at.result = rw c.goes_to.ensures at c.position-at.ensures in
    rw (← c.self.view_is, a.3) (pushes_so (plain_deck c.self.inside) c.args.queue (shown_item c.args.item) c.position-at.result a.0 a.1 (shown_push c.push.result) there a.2 a.4)
