use Rattle.std.proofs.Common.{◌≡◌, ◌+◌, subst, arith}
use Rattle.csp_app.specs.PlainApp.{PlainApp, AppAt, holds}
use Rattle.csp_app.specs.Room.{CanHear}
use Rattle.csp_app.specs.Telling.{tells}
use Rattle.csp_deck.specs.Step.{times}
use Rattle.csp_log.specs.declared.shown.AnswerShown.TheVariants as answer
use Rattle.csp_app.proofs.StepLaws.{told_law}
use Rattle.csp_app.proofs.party.AppParty.miss.Goals as goal

pub returns-clause-holds : goal.returns-clause-holds
returns-clause-holds c =
    let s : PlainApp = c.args.self.now.app in
    let hears : CanHear s s.doing = subst (λ (x : AppAt). CanHear x.app x.app.doing) c.self.view_is c.self.invariant.hears in
    λ k.
    let law : times k (holds (tells s c.args.now answer.Empty)) ≡ times k (holds s) + 0 = told_law s c.args.now s.doing answer.Empty c.requires.fits hears k in
    rw c.told_empty.ensures.state (omega (arith, law))
