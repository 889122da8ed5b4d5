use Rattle.std.proofs.Common.{◌-◌, ◌≤◌, nat_lt, ap, ◌∙◌, rules}
use Rattle.std.proofs.lemmas.List.Elements.{All-same, All-filter}
use Rattle.arrayvec.proofs.ArrayVecLemmas.{filter-from_retain}
use Rattle.csp_base.specs.declared.limits.TheConstants.{MAX_PAYLOAD}
use Rattle.csp_can.specs.declared.partials.Partial.{Partial}
use Rattle.csp_can.specs.declared.partials.TheConstants.{GIVE_UP}
use Rattle.csp_can.specs.Open.{counters, fresh}
use Rattle.csp_can.proofs.assembly.Partials.give_up.Goals as goal

pub invariant_of-self : goal.invariant_of-self
invariant_of-self c =
    All-same (λ (p : Partial). p.length ≤ MAX_PAYLOAD) _ _
    (filter-from_retain _ (λ (p : Partial). nat_lt (c.args.now - p.time) GIVE_UP) _ (λ x b f' y k. search rules) _ _ c.retain.ensures.filtered)
    (All-filter (λ (p : Partial). nat_lt (c.args.now - p.time) GIVE_UP) (λ (p : Partial). p.length ≤ MAX_PAYLOAD) c.self.inside.partials.items c.self.invariant)

pub returns : goal.returns
returns c =
    filter-from_retain _ (λ (p : Partial). nat_lt (c.args.now - p.time) GIVE_UP) _ (λ x b f' y k. search rules) _ _ c.retain.ensures.filtered
    ∙ ap (fresh counters c.args.now) c.self.view_is
