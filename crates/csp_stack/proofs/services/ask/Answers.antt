use Rattle.std.proofs.Common.{ℕ, length, ap, sym, subst}
use Rattle.std.proofs.lemmas.List.{length-map}
use Rattle.csp_route.specs.Routes.{IsWithin, Routes}
use Rattle.csp_stack.specs.Router.{Facts, StateAt}
use Rattle.csp_stack.proofs.services.ask.Goals as goal

pub returns-clause-within : goal.returns-clause-within
returns-clause-within c h =
    let n = length c.args.facts.now.ifaces in
    let same = ap (λ (f : Facts). length f.ifaces) c.facts.view_is in
    let count = simp length-map at same in
    let P : Routes → Type 0 = λ t. IsWithin n t in
    let old : IsWithin n c.state.inside.routes = subst P (sym (ap (λ (s : StateAt). s.state.routes) c.state.view_is)) h in
    let Q : ℕ → Type 0 = λ k. IsWithin k c.state.inside.routes in
    let R : ℕ → Type 0 = λ k. IsWithin k c.answer.new.routes in
    subst R count (c.answer.ensures.known (subst Q (sym count) old))
