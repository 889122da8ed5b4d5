use Rattle.std.proofs.Common.{subst}
use Rattle.csp_app.specs.PlainApp.{PlainApp, AppAt}
use Rattle.csp_app.specs.Room.{CanHear}
use Rattle.csp_app.specs.Telling.{tells}
use Rattle.csp_log.specs.Pictures.{shown_answer}
use Rattle.csp_app.proofs.StepLaws.{told_law, told_raises, same_uses}
use Rattle.csp_app.proofs.party.AppParty.told.Goals as goal

pub returns-clause-holds : goal.returns-clause-holds
returns-clause-holds c =
    let s : PlainApp = c.args.self.now.app in
    let hears : CanHear s s.doing = subst (λ (x : AppAt). CanHear x.app x.app.doing) c.self.view_is c.self.invariant.hears in
    λ k. rw c.told_now.ensures.state (told_law s c.args.now s.doing (shown_answer c.args.answer) c.requires.fits hears k)

pub returns-clause-count : goal.returns-clause-count
returns-clause-count c =
    let s : PlainApp = c.args.self.now.app in
    rw c.told_now.ensures.state (told_raises s c.args.now s.doing (shown_answer c.args.answer)).count

pub returns-clause-uses : goal.returns-clause-uses
returns-clause-uses c =
    let s : PlainApp = c.args.self.now.app in
    rw c.told_now.ensures.state (same_uses s (tells s c.args.now (shown_answer c.args.answer)) (told_raises s c.args.now s.doing (shown_answer c.args.answer)).number)
