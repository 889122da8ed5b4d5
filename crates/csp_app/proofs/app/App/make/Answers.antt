use Rattle.std.proofs.Common.{◌≡◌, Some, length, get_or, ap, sym, ◌∙◌, subst, refl, arith}
use Rattle.std.specs.List.{slice_get}
use Rattle.std.proofs.lemmas.Option.{slice_get_read}
use Rattle.csp_app.specs.PlainApp.{AppAt}
use Rattle.csp_app.specs.Room.{CanHear, IsReady, IsStep, plain_app, app_at}
use Rattle.csp_app.specs.declared.app.App.TheInside.{Inside}
use Rattle.csp_app.specs.declared.plan.AppPlan.TheVariants as plan
use Rattle.csp_app.specs.PlainStep.{PlainStep}
use Rattle.csp_app.specs.Placing.{plain_step}
use Rattle.csp_app.proofs.Blobs.{up_carries}
use Rattle.csp_app.proofs.app.App.make.Goals as goal

-- the present step, whose packet is to be made
record Present (a : Inside) (x : PlainStep) : Type 0 where
  can_be : IsStep x
  found : slice_get a.script a.progress.done ≡ Some x

present : (a : Inside) (w : AppAt) (x : PlainStep) → IsReady a → app_at a ≡ w → w.app.doing ≡ plan.Fill → x ≡ get_or a.script a.progress.done x → Present a x
present a w x r view_at doing at =
    let h : CanHear (plain_app a) plan.Fill = subst (CanHear (plain_app a)) (ap (λ (v : AppAt). v.app.doing) view_at ∙ doing) r.hears in
    record { can_be = subst IsStep (sym at) (r.steps a.progress.done x h.0); found = slice_get_read a.script (length a.script) a.progress.done x refl h.0 at }

pub filled-packet-requires : goal.filled-packet-requires
filled-packet-requires c = (present c.self.inside _ _ c.self.invariant c.self.view_is c.requires.doing c.step-step.ensures).can_be

pub invariant_of-self : goal.invariant_of-self
invariant_of-self c =
    let x : Present c.self.inside (plain_step c.step-step.result) = present c.self.inside _ _ c.self.invariant c.self.view_is c.requires.doing c.step-step.ensures in
    record {
      few = c.self.invariant.few;
      steps = c.self.invariant.steps;
      done = c.self.invariant.done;
      room = omega (arith, c.self.invariant.room);
      hears = tt;
      made = rw (c.put.ensures, c.filled-packet.ensures, c.mark_of-self-inside.ensures) (up_carries (plain_step c.step-step.result) c.self.inside.progress.sent c.args.buffer.picture x.can_be);
      made_of_it = rw c.put.ensures c.self.invariant.made_of_it;
      held_of_it = c.self.invariant.held_of_it;
    }

pub returns : goal.returns
returns c =
    let x : Present c.self.inside (plain_step c.step-step.result) = present c.self.inside _ _ c.self.invariant c.self.view_is c.requires.doing c.step-step.ensures in
    rw (c.put.ensures, c.filled-packet.ensures, c.mark_of-self-inside.ensures, ← c.self.view_is, x.found) refl
