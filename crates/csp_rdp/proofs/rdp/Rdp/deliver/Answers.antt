use Rattle.std.proofs.Common.{◌∙◌, ap}
use Rattle.csp_rdp.specs.Holding.{rdp_numbers}
use Rattle.csp_rdp_window.specs.Numbers.{number_in, times}
use Rattle.csp_rdp_window.specs.Receiving.{recv_numbers}
use Rattle.csp_rdp_window.specs.Sending.{send_numbers}
use Rattle.csp_rdp.proofs.CountLemmas.{gone-right}
use Rattle.csp_rdp.proofs.rdp.Rdp.deliver.Goals as goal

pub returns-in-Open-clause-holds : goal.returns-in-Open-clause-holds
returns-in-Open-clause-holds c = λ k.
    gone-right k (send_numbers c.self.inside.send) (recv_numbers c.self.inside.recv) (recv_numbers c.next.new.self) (number_in c.next.result) (c.next.ensures.holds k)
    ∙ ap (λ r. times k (rdp_numbers r)) c.self.view_is
