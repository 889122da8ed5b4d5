use Rattle.csp_rdp.proofs.SoundLemmas.{AreShort-heard, packets-heard}
use Rattle.csp_rdp.proofs.rdp.Rdp.hear_numbers.Goals as goal

pub invariant_of-self : goal.invariant_of-self
invariant_of-self c = record {
  low = c.self.invariant.low;
  high = c.self.invariant.high;
  short = rw c.eak.ensures.state (AreShort-heard c.as_slice.result.now c.args.now c.self.inside.options.packet_timeout c.self.inside.send c.self.invariant.short);
  unopened = c.self.invariant.unopened;
  packets = rw c.eak.ensures.state (packets-heard c.self.inside.state c.as_slice.result.now c.args.now c.self.inside.options.packet_timeout c.self.inside.send c.self.invariant.packets);
  counted = c.self.invariant.counted;
}
