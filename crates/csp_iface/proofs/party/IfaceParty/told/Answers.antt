use Rattle.std.proofs.Common.{subst}
use Rattle.csp_iface.specs.PlainIface.{PlainIface, IfaceAt}
use Rattle.csp_log.specs.Pictures.{shown_answer}
use Rattle.csp_iface.proofs.StepLaws.{IsFree, hears_free, rests, tells_law, tells_uses}
use Rattle.csp_iface.proofs.party.IfaceParty.told.Goals as goal

pub returns-clause-uses : goal.returns-clause-uses
returns-clause-uses c =
    let s : PlainIface = c.args.self.now.iface in
    rw c.told_now.ensures.state (tells_uses s c.args.now (shown_answer c.args.answer))

pub returns-clause-holds : goal.returns-clause-holds
returns-clause-holds c =
    let s : PlainIface = c.args.self.now.iface in
    let free : IsFree s s.doing = subst (λ (x : IfaceAt). IsFree x.iface x.iface.doing) c.self.view_is (hears_free c.self.inside c.self.inside.doing c.self.invariant.hears) in
    λ k. rw c.told_now.ensures.state (tells_law s c.args.now (shown_answer c.args.answer) c.requires.fits free k)

pub returns-clause-ready : goal.returns-clause-ready
returns-clause-ready c =
    let s : PlainIface = c.args.self.now.iface in
    λ later before early goes_on. rw c.told_now.ensures.state (rests s c.args.now (shown_answer c.args.answer))
