use Rattle.csp_rdp_window.specs.Shown.{shown}
use Rattle.csp_rdp.proofs.SoundLemmas.{AreShort-acked, packets-acked}
use Rattle.csp_rdp.proofs.rdp.Rdp.hear.Goals as goal

pub invariant_of-self : goal.invariant_of-self
invariant_of-self c =
    let send = c.self.inside.send in
    record {
      low = c.self.invariant.low;
      high = c.self.invariant.high;
      short = rw c.acked-inside.ensures.state (AreShort-acked (shown c.args.number.0 send.start send.una) send c.self.invariant.short);
      unopened = c.self.invariant.unopened;
      packets = rw c.acked-inside.ensures.state (packets-acked c.self.inside.state (shown c.args.number.0 send.start send.una) send c.self.invariant.packets);
      counted = c.self.invariant.counted;
    }
