use Rattle.std.proofs.Common.{rules, tests, ◌≡◌, ◌==◌}
use Rattle.std.specs.List.{list_any}
use Rattle.std.proofs.lemmas.Iterator.Search.{any_from_yields_List}
use Rattle.std.proofs.lemmas.Iterator.Consumers.{YieldsList-from_deque}
use Rattle.csp_deck.proofs.Counting.{any_is_times}
use Rattle.csp_deck.proofs.pile.Pile.holds.Goals as goal

pub returns : goal.returns
returns c =
    let bs = c.self.inside.buffers.items in
    let found : c.any.result ≡ list_any (λ b. b.picture.number == c.args.number) bs
    = any_from_yields_List {v = λ y. y.now} (λ b. b.picture.number == c.args.number) _ _ _ c.any.ensures.ran (YieldsList-from_deque bs cc) (λ x b q k. search (rules, tests)) in
    rw (← c.self.view_is, found) (any_is_times bs c.args.number)
