use Rattle.csp_rdp_window.specs.declared.pending.Mark.TheVariants.{Sent}
use Rattle.csp_rdp.proofs.SoundLemmas.{AreShort-marked, packets-marked, short-at}
use Rattle.csp_rdp.proofs.rdp.Rdp.copy.Goals as goal

pub invariant_of-self : goal.invariant_of-self
invariant_of-self c = record {
  low = c.self.invariant.low;
  high = c.self.invariant.high;
  short = rw c.copy.ensures.state (AreShort-marked (Sent c.args.index c.args.now) c.self.inside.send.packets c.self.invariant.short);
  unopened = c.self.invariant.unopened;
  packets = rw c.copy.ensures.state (packets-marked (Sent c.args.index c.args.now) c.self.inside.state c.self.inside.send.packets c.self.invariant.packets);
  counted = c.self.invariant.counted;
}

pub returns-clause-short : goal.returns-clause-short
returns-clause-short c = rw c.copy.ensures.payload (short-at c.self.inside.send c.args.index c.self.invariant.short)
