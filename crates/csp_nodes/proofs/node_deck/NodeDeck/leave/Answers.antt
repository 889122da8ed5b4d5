use Rattle.std.proofs.Common.{List, length, arith, subst, sym, ap}
use Rattle.csp_buffer.specs.PlainBuffer.{PlainBuffer}
use Rattle.csp_lists.specs.PlainDeck.{DeckAt}
use Rattle.csp_nodes.proofs.Unused.{all_unused, once_unused}
use Rattle.csp_nodes.specs.Unused.{IsUnused}
use Rattle.csp_nodes.proofs.node_deck.NodeDeck.leave.Goals as goal

pub close-requires-clause-room : goal.close-requires-clause-room
close-requires-clause-room c =
    let unused : IsUnused c.self.inside.deck.deck = subst (λ (d : DeckAt). IsUnused d.deck) (sym c.self.view_is) c.requires in
    let fits = unused.complete.fits in
    let none = ap (λ (bs : List PlainBuffer). length bs) c.self.invariant.0 in
    omega (arith, fits, none, c.self.invariant.1, c.self.inside.gathered.ok.0)

pub close-requires-2-clause-count : goal.close-requires-2-clause-count
close-requires-2-clause-count c =
    let unused : IsUnused c.self.inside.deck.deck = subst (λ (d : DeckAt). IsUnused d.deck) (sym c.self.view_is) c.requires in
    all_unused c.self.inside.gathered.items c.close.new.into.items c.self.inside.deck.deck.pool c.self.inside.memory.count c.self.invariant.0 c.close.ensures.items c.self.invariant.3 unused.complete

pub close-requires-2-clause-each_once : goal.close-requires-2-clause-each_once
close-requires-2-clause-each_once c =
    let unused : IsUnused c.self.inside.deck.deck = subst (λ (d : DeckAt). IsUnused d.deck) (sym c.self.view_is) c.requires in
    once_unused c.self.inside.gathered.items c.close.new.into.items c.self.inside.deck.deck.pool c.self.inside.memory.count c.self.invariant.0 c.close.ensures.items c.self.invariant.3 unused.complete
