use Rattle.std.proofs.Common.{subst}
use Rattle.csp_bridge.specs.PlainBridge.{PlainBridge, BridgeAt}
use Rattle.csp_bridge.specs.Room.{CanHear}
use Rattle.csp_log.specs.Pictures.{shown_answer}
use Rattle.csp_bridge.proofs.StepLaws.{told_law}
use Rattle.csp_bridge.proofs.party.BridgeParty.told.Goals as goal

pub returns-clause-holds : goal.returns-clause-holds
returns-clause-holds c =
    let s : PlainBridge = c.args.self.now.bridge in
    let hears : CanHear s.doing s = subst (λ (x : BridgeAt). CanHear x.bridge.doing x.bridge) c.self.view_is c.self.invariant.hears in
    λ k. rw c.told_now.ensures.state (told_law k s s.doing (shown_answer c.args.answer) c.requires.fits hears)
