use Rattle.std.proofs.Common.{◌≤◌, suc, take, drop, Some, get_or, sym, ap, ◌∙◌}
use Rattle.std.specs.Prelude.{List, remove}
use Rattle.std.proofs.lemmas.List.Elements.{All-same, All-append, All-take, All-drop}
use Rattle.csp_base.specs.declared.limits.TheConstants.{MAX_PAYLOAD}
use Rattle.csp_can.specs.declared.partials.Partial.{Partial}
use Rattle.csp_can.specs.Identifiers.{same_key}
use Rattle.csp_can.proofs.Places.{absent, present}
use Rattle.csp_can.proofs.assembly.Partials.take.Goals as goal

pub returns-in_err-index-clause-found : goal.returns-in_err-index-clause-found
returns-in_err-index-clause-found c =
    let gone = absent (λ (p : Partial). same_key p.key c.args.key.now) c.args.self.now (sym c.place.ensures.first ∙ c.in_err-index.was) in
    c.from_residual.ensures ∙ sym gone.0

pub returns-in_err-index-clause-rest : goal.returns-in_err-index-clause-rest
returns-in_err-index-clause-rest c =
    let gone = absent (λ (p : Partial). same_key p.key c.args.key.now) c.args.self.now (sym c.place.ensures.first ∙ c.in_err-index.was) in
    sym gone.1

pub returns-clause-found : goal.returns-clause-found
returns-clause-found c =
    let there = present (λ (p : Partial). same_key p.key c.args.key.now) c.args.self.now c.in_ok-index.index c.remove.result (sym c.place.ensures.first ∙ c.in_ok-index.was) in
    ap (λ (p : Partial). Some p) (c.remove.ensures.value ∙ ap (λ (ps : List Partial). get_or ps c.in_ok-index.index c.remove.result) c.self.view_is) ∙ sym there.0

pub returns-clause-rest : goal.returns-clause-rest
returns-clause-rest c =
    let there = present (λ (p : Partial). same_key p.key c.args.key.now) c.args.self.now c.in_ok-index.index c.remove.result (sym c.place.ensures.first ∙ c.in_ok-index.was) in
    c.remove.ensures.items ∙ ap (λ (ps : List Partial). remove ps c.in_ok-index.index) c.self.view_is ∙ sym there.1

pub invariant_of-self : goal.invariant_of-self
invariant_of-self c =
    let P : Partial → Type 0 = λ p. p.length ≤ MAX_PAYLOAD in
    let ps = c.self.inside.partials.items in
    let i = c.in_ok-index.index in
    All-same P _ _ c.remove.ensures.items (All-append P (take i ps) (drop (suc i) ps) (All-take P i ps c.self.invariant) (All-drop P (suc i) ps c.self.invariant))
