use Rattle.csp_rdp_window.specs.declared.pending.Mark.TheVariants.{Abandoned}
use Rattle.csp_rdp.proofs.SoundLemmas.{AreShort-marked, packets-left, unopened-over}
use Rattle.csp_rdp.proofs.rdp.Rdp.leave.Goals as goal

pub invariant_of-self : goal.invariant_of-self
invariant_of-self c = record {
  low = c.self.invariant.low;
  high = c.self.invariant.high;
  short = rw c.abandon.ensures.state (AreShort-marked Abandoned c.self.inside.send.packets c.self.invariant.short);
  unopened = unopened-over c.args.state c.self.inside.recv c.requires;
  packets = rw c.abandon.ensures.state (packets-left c.args.state c.self.inside.send.packets c.requires);
  counted = c.self.invariant.counted;
}
