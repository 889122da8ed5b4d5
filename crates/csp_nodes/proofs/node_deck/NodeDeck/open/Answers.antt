use Rattle.std.proofs.Common.{◌≡◌, ◌≤◌, [], List, length, map, ap, ap₂, sym, ◌∙◌, refl, subst, arith, vec_capacity}
use Rattle.csp_buffer.specs.Content.{Content}
use Rattle.csp_buffer.specs.Memory.{AreAllOf}
use Rattle.csp_buffer.specs.PlainBuffer.{PlainBuffer}
use Rattle.csp_lists.specs.Gathered.{pictures}
use Rattle.csp_lists.specs.PlainDeck.{DeckAt, PlainDeck, opening_deck}
use Rattle.csp_nodes.proofs.ClosingBuffers.{all_fresh, fresh_long, fresh_pictures, fresh_len}
use Rattle.csp_nodes.specs.Fresh.{fresh_buffers}
use Rattle.csp_nodes.proofs.node_deck.NodeDeck.open.Goals as goal

pub open-requires-2-clause-of_it : goal.open-requires-2-clause-of_it
open-requires-2-clause-of_it c = rw (c.token.ensures, c.in-Ok.ensures.buffers) (all_fresh c.in-Ok.opened.0)

pub close-requires-clause-count : goal.close-requires-clause-count
close-requires-clause-count c = ap length (c.in-Err-open.ensures.err ∙ c.in-Ok.ensures.buffers) ∙ fresh_long c.in-Ok.opened.0

pub close-requires-clause-of_it : goal.close-requires-clause-of_it
close-requires-clause-of_it c = subst (λ (bs : List PlainBuffer). AreAllOf c.in-Ok.opened.0.region bs) (sym (c.in-Err-open.ensures.err ∙ c.in-Ok.ensures.buffers)) (all_fresh c.in-Ok.opened.0)

pub returns-in-Ok-open : goal.returns-in-Ok-open
returns-in-Ok-open c =
    ap (λ (d : DeckAt). d.deck) c.in-Ok-open.ensures.ok
    ∙ ap (λ bs. opening_deck bs c.args.inbox c.args.apps c.args.ifaces.now)
    (ap pictures c.in-Ok.ensures.buffers ∙ fresh_pictures c.in-Ok.opened.0 ∙ ap fresh_buffers c.in-Ok.ensures.count)

pub invariant_of-result : goal.invariant_of-result
invariant_of-result c =
    let room : c.in-Ok-open.deck.deck.pool.room ≡ c.in-Ok.opened.0.count =
    ap (λ (d : DeckAt). d.deck.pool.room) c.in-Ok-open.ensures.ok ∙ ap length (ap pictures c.in-Ok.ensures.buffers ∙ fresh_pictures c.in-Ok.opened.0) ∙ fresh_len c.in-Ok.opened.0.count in (
      c.in_ok-gathered.ensures.items,
      omega (arith, room, c.in-Ok.ensures.count, c.in_ok-gathered.ensures.exact, c.from.ensures),
      sym (ap (λ (d : DeckAt). d.region) c.in-Ok-open.ensures.ok ∙ c.token.ensures),
      sym room,
    )
