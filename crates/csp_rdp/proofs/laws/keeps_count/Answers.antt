use Rattle.std.proofs.Common.{arith}
use Rattle.csp_rdp.specs.Table.{row_of}
use Rattle.csp_rdp.proofs.FarLemmas.{far-after, far-closed, far-delivered, far-rested, far-sent, far-taken, far-taken-out, far-ticked}
use Rattle.csp_rdp.proofs.laws.keeps_count.Goals as goal

pub returns : goal.returns
returns c = record {
  handed = λ n h tag p time r far. far-after n (row_of r h p.picture.payload) h tag p time r far;
  admitted = λ n b time r far. let sent = far.admitted in let cur = far.delivered in record { admitted = omega (arith, sent); delivered = omega (arith, cur) };
  sent = λ n j time r far. far-sent n j time r far;
  taken = λ n r far. far-taken n r.state r far;
  delivered = λ n time r far. far-delivered n time r far;
  kept_again = λ n b r far. record { admitted = far.admitted; delivered = far.delivered };
  ticked = λ n time r far. far-ticked n time r far;
  closed = λ n time r far. far-closed n r.state time r far;
  rested = λ n r far. far-rested n r far;
  taken_out = λ n r far. far-taken-out n r far;
  idle = record { admitted = omega arith; delivered = omega arith };
  connecting = λ start options node nth time. record { admitted = omega arith; delivered = omega arith };
  accepting = λ start options other tag node nth time. record { admitted = omega arith; delivered = omega arith };
  later = λ m n r more far. let sent = far.admitted in let cur = far.delivered in record { admitted = omega (arith, more, sent); delivered = omega (arith, more, cur) };
}
