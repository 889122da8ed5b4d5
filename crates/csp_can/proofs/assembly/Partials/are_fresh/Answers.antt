use Rattle.std.proofs.Common.{rules, tests, ◌-◌, ◌∙◌, nat_lt, ap}
use Rattle.std.specs.List.{list_all}
use Rattle.std.proofs.lemmas.Iterator.Search.{all_from_yields_List}
use Rattle.std.proofs.lemmas.Iterator.{YieldsList-from_slice}
use Rattle.csp_can.specs.declared.partials.Partial.{Partial}
use Rattle.csp_can.specs.declared.partials.TheConstants.{GIVE_UP}
use Rattle.csp_can.proofs.assembly.Partials.are_fresh.Goals as goal

pub returns : goal.returns
returns c =
    let fresh : Partial → _ = λ p. nat_lt (c.args.now - p.time) GIVE_UP in
    all_from_yields_List {v = λ y. y.now} fresh _ _ _ c.all.ensures.ran (YieldsList-from_slice c.deref.result.now cc) (λ x b q k. search (rules, tests))
    ∙ ap (list_all fresh) (c.deref.ensures.0 ∙ c.self.view_is)
