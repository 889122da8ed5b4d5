use Rattle.std.proofs.Common.{refl}
use Rattle.csp_rdp.proofs.HoldingLemmas.{drained-loose, rested-again, rested-still, unneeded-admitted, unneeded-kept, unneeded-rested, unneeded-sent, unneeded-taken}
use Rattle.csp_rdp.proofs.laws.keeps_rest.Goals as goal

pub returns : goal.returns
returns c = record {
  rested = λ r. unneeded-rested r;
  again = λ r. rested-again r;
  still = λ r e. rested-still r e;
  loose = λ r e. drained-loose r e;
  admitted = λ b time r e. unneeded-admitted b time r e;
  sent = λ j time r e. unneeded-sent j time r e;
  taken = λ r e. unneeded-taken r.state r e;
  kept_again = λ b r is_open e. unneeded-kept b r is_open e;
  idle = refl;
  connecting = λ start options node nth time. refl;
  accepting = λ start options other tag node nth time. refl;
}
