use Rattle.csp_iface.specs.Asking.{asked, handed}
use Rattle.csp_iface.specs.PlainIface.{PlainIface}
use Rattle.csp_iface.specs.Planning.{plan_of}
use Rattle.csp_iface.proofs.StepLaws.{Stays, handed_law, handed_stays, same_uses}
use Rattle.csp_iface.proofs.party.IfaceParty.ask.Goals as goal

pub returns-clause-uses : goal.returns-clause-uses
returns-clause-uses c =
    let s : PlainIface = c.args.self.now.iface in
    let h : Stays s (handed s (plan_of s)) = handed_stays s (plan_of s) in
    rw c.ask_now.ensures.state (same_uses s (asked s 0) h.number h.kind)

pub returns-clause-holds : goal.returns-clause-holds
returns-clause-holds c = λ k. rw (c.ask_now.ensures.state, c.ask_now.ensures.op) (handed_law c.args.self.now.iface (plan_of c.args.self.now.iface) k)
