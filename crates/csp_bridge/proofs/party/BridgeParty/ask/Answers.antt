use Rattle.csp_bridge.proofs.StepLaws.{handed_law}
use Rattle.csp_bridge.proofs.party.BridgeParty.ask.Goals as goal

pub returns-clause-holds : goal.returns-clause-holds
returns-clause-holds c = λ k. rw (c.ask_now.ensures.state, c.ask_now.ensures.op) (handed_law k c.args.self.now.bridge)
