use Rattle.std.proofs.Common.{◌∙◌, ap, sym, refl}
use Rattle.csp_log.specs.declared.places.Place.TheVariants as place
use Rattle.csp_lists.specs.DeckParts.{plain_deck}
use Rattle.csp_lists.specs.PlainDeck.{has_items}
use Rattle.csp_lists.proofs.Standing.{queue_there, stands_within}
use Rattle.csp_lists.proofs.list_deck.ListDeck.has_packet.Goals as goal

pub has_items-requires : goal.has_items-requires
has_items-requires c = stands_within c.self.inside c.self.invariant (place.Inbox c.args.prio) _ c.position-at.ensures

pub returns : goal.returns
returns c = rw (← c.self.view_is) (c.has_items.ensures ∙ ap has_items (sym (queue_there (plain_deck c.self.inside) (place.Inbox c.args.prio) c.position-at.result _ c.position-at.ensures refl)))
