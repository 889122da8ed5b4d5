use Rattle.std.proofs.Common.{◌≡◌, ◌≤◌, ap, sym, ◌∙◌, subst, arith, vec_capacity}
use Rattle.csp_lists.specs.PlainDeck.{DeckAt}
use Rattle.csp_lists.specs.Regioned.{shown_push}
use Rattle.csp_log.specs.Pictures.{shown_item}
use Rattle.csp_nodes.proofs.DecksLaws.{push_kept}
use Rattle.csp_nodes.proofs.node_deck.NodeDeck.push.Goals as goal

pub invariant_of-self : goal.invariant_of-self
invariant_of-self c =
    let room = push_kept c.keeps_shape.ensures.pool c.self.inside.deck.deck c.push.new.self.deck c.args.queue c.args.item c.push.result c.push.ensures.answer in
    let (empty, fits, region, count) = c.self.invariant in (
      empty,
      omega (arith, room, fits),
      region ∙ sym c.push.ensures.region,
      count ∙ sym room,
    )
