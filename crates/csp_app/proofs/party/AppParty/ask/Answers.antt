use Rattle.std.proofs.Common.{◌≡◌, ◌∙◌, ℕ, false, ap, sym, subst, arith}
use Rattle.std.specs.List.{All}
use Rattle.csp_app.specs.Asking.{asked, awaits}
use Rattle.csp_app.specs.PlainApp.{PlainApp, AppAt, has_ended}
use Rattle.csp_app.specs.Steps.{plan_of}
use Rattle.csp_app.specs.Room.{IsStep, plain_app}
use Rattle.csp_deck.specs.Step.{kind_of}
use Rattle.csp_app.proofs.Hearing.{IsFit, Heard, asked_hears, handed_stays}
use Rattle.csp_app.proofs.StepLaws.{handed_law, same_uses}
use Rattle.csp_app.proofs.party.AppParty.ask.Goals as goal

pub returns-clause-uses : goal.returns-clause-uses
returns-clause-uses c =
    let s : PlainApp = c.args.self.now.app in
    rw c.ask_now.ensures.state (same_uses s (asked s c.args.now) (handed_stays s c.args.now (plan_of s)).number)

pub returns-clause-holds : goal.returns-clause-holds
returns-clause-holds c = λ k. rw (c.ask_now.ensures.state, c.ask_now.ensures.op) (handed_law c.args.self.now.app c.args.now (plan_of c.args.self.now.app) k)

pub returns-clause-count : goal.returns-clause-count
returns-clause-count c =
    let s : PlainApp = c.args.self.now.app in
    rw (c.ask_now.ensures.state, (handed_stays s c.args.now (plan_of s)).slots) (omega arith)

-- what it finds at the answer
heard : (s : PlainApp) (w : AppAt) (now : ℕ) → s ≡ w.app → All IsStep s.steps → IsFit s → has_ended w.app ≡ false → Heard w.app now (plan_of w.app)
heard s w now e steps made goes = asked_hears w.app now (subst (λ (x : PlainApp). All IsStep x.steps) e steps) (subst IsFit e made) goes

pub returns-clause-awaits : goal.returns-clause-awaits
returns-clause-awaits c =
    ap (λ (x : AppAt). awaits x.app) c.ask_now.ensures.state
    ∙ (heard (plain_app c.self.inside) c.args.self.now c.args.now (ap (λ (x : AppAt). x.app) c.self.view_is) c.self.invariant.steps c.self.invariant.made c.requires.goes_on).kind
    ∙ sym (ap kind_of c.ask_now.ensures.op)

pub returns-clause-served : goal.returns-clause-served
returns-clause-served c = rw c.ask_now.ensures.op (heard (plain_app c.self.inside) c.args.self.now c.args.now (ap (λ (x : AppAt). x.app) c.self.view_is) c.self.invariant.steps c.self.invariant.made c.requires.goes_on).served
