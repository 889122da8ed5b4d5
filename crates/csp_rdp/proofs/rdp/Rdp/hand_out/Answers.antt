use Rattle.std.proofs.Common.{◌∙◌, ◌++◌, ap}
use Rattle.csp_rdp.specs.Holding.{rdp_numbers}
use Rattle.csp_rdp_window.specs.Numbers.{times}
use Rattle.csp_rdp_window.specs.Receiving.{recv_numbers}
use Rattle.csp_rdp_window.specs.Sending.{send_numbers}
use Rattle.csp_rdp.proofs.SoundLemmas.{AreShort-drained, packets-drained}
use Rattle.csp_rdp.proofs.rdp.Rdp.hand_out.Goals as goal

pub invariant_of-self : goal.invariant_of-self
invariant_of-self c = record {
  low = c.self.invariant.low;
  high = c.self.invariant.high;
  short = rw c.drain.ensures.state (AreShort-drained c.self.inside.send.packets c.self.invariant.short);
  unopened = c.self.invariant.unopened;
  packets = rw c.drain.ensures.state (packets-drained c.self.inside.state c.self.inside.send.packets c.self.invariant.packets);
  counted = c.self.invariant.counted;
}

pub returns-in-None-clause-holds : goal.returns-in-None-clause-holds
returns-in-None-clause-holds c = λ k.
    c.drain_kept.ensures.holds k
    ∙ ap (λ s. times k (send_numbers s ++ recv_numbers c.self.inside.recv)) c.in-None.ensures.none
    ∙ ap (λ r. times k (rdp_numbers r)) c.self.view_is
