use Rattle.std.proofs.Common.{◌+◌, ◌∙◌, ap, Some}
use Rattle.csp_rdp_window.specs.Numbers.{times}
use Rattle.csp_rdp_window.specs.Offers.{handed_back}
use Rattle.csp_rdp_window.specs.Receiving.{recv_numbers, offered_at}
use Rattle.csp_rdp_window.proofs.ReceiveLemmas.{times-offered}
use Rattle.csp_rdp_window.proofs.receive.RecvWindow.offer.Goals as goal

pub returns-in-Some-clause-holds : goal.returns-in-Some-clause-holds
returns-in-Some-clause-holds c =
    λ k. ap (λ w. times k (recv_numbers w) + times k (handed_back c.keep.result)) c.keep.ensures.state
    ∙ ap (λ o. times k (recv_numbers (offered_at (Some c.in-Some.index) c.args.buffer c.args.self.now).1) + times k (handed_back o)) c.keep.ensures.answer
    ∙ times-offered (Some c.in-Some.index) c.args.buffer c.args.self.now k
