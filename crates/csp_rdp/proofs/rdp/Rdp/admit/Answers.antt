use Rattle.std.proofs.Common.{◌∙◌, ap}
use Rattle.csp_rdp_window.specs.Sending.{admitted}
use Rattle.csp_rdp.proofs.SoundLemmas.{AreShort-admitted, packets-open}
use Rattle.csp_rdp.proofs.rdp.Rdp.admit.Goals as goal

pub invariant_of-self : goal.invariant_of-self
invariant_of-self c = record {
  low = c.self.invariant.low;
  high = c.self.invariant.high;
  short = rw c.in-Ok.ensures.ok (AreShort-admitted c.args.buffer c.self.inside.send c.self.invariant.short c.requires.short);
  unopened = c.self.invariant.unopened;
  packets = rw c.in-Ok.ensures.ok (packets-open c.self.inside.state (admitted c.args.buffer c.self.inside.send).packets (ap (λ r. r.state) c.self.view_is ∙ c.requires.open));
  counted = c.self.invariant.counted;
}
