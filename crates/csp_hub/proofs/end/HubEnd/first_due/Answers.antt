use Rattle.std.proofs.Common.{◌∙◌, ap, List, rules, tests, nat_le}
use Rattle.std.specs.Option.{option_map}
use Rattle.std.proofs.lemmas.Iterator.Search.{position_from_yields_List}
use Rattle.std.proofs.lemmas.Iterator.Consumers.{YieldsList-from_deque}
use Rattle.csp_hub.specs.PlainHub.{PlainEnd}
use Rattle.csp_link.specs.Holding.{first_due}
use Rattle.csp_link.specs.declared.held.Held.{Held}
use Rattle.csp_link.proofs.Public.{place_first_due}
use Rattle.csp_hub.proofs.end.HubEnd.first_due.Goals as goal

pub returns-clause-place : goal.returns-clause-place
returns-clause-place c =
    let held = c.self.inside.held.items in
    position_from_yields_List {v = λ h. h.now} (λ h. nat_le h.due c.args.now) _ _ _ c.position.ensures.ran (YieldsList-from_deque held cc) (λ x b q k. search (rules, tests))
    ∙ place_first_due c.args.now held
    ∙ ap (λ (hs : List Held). option_map (λ p. p.0) (first_due c.args.now hs)) (ap (λ (e : PlainEnd). e.held) c.self.view_is)
