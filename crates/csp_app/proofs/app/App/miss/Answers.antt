use Rattle.std.proofs.Common.{◌≡◌, Some, ◌∙◌, ap, subst, refl, arith}
use Rattle.std.specs.List.{slice_get}
use Rattle.csp_app.specs.PlainApp.{AppAt}
use Rattle.csp_app.specs.Room.{CanHear, plain_app}
use Rattle.csp_app.specs.declared.plan.AppPlan.TheVariants as plan
use Rattle.csp_app.specs.declared.progress.Progress.{Progress}
use Rattle.csp_app.specs.PlainStep as step
use Rattle.csp_app.proofs.Hearing.{take_ready}
use Rattle.csp_app.proofs.app.App.miss.Goals as goal

pub invariant_of-self : goal.invariant_of-self
invariant_of-self c =
    let d : c.self.inside.doing ≡ plan.Take = ap (λ (a : AppAt). a.app.doing) c.self.view_is ∙ c.requires in
    let h : slice_get c.self.inside.script c.self.inside.progress.done ≡ Some step.Take = subst (CanHear (plain_app c.self.inside)) d c.self.invariant.hears in
    take_ready c.self.inside _ c.self.invariant h refl (ap (λ (p : Progress). p.done) c.advance.ensures) refl (omega arith) refl refl refl (record { taken = refl; made = refl; held = refl })
