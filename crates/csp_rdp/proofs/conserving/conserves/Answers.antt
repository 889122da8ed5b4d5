use Rattle.std.proofs.Common.{refl}
use Rattle.csp_rdp_window.specs.Receiving.{confirmed}
use Rattle.csp_rdp_window.specs.Sending.{loose_buffer}
use Rattle.csp_rdp.specs.Jobs.{one_more_delivered}
use Rattle.csp_rdp.specs.Table.{row_of}
use Rattle.csp_rdp.proofs.BalanceLemmas.{admitted-balanced, again-balanced, delivery-balanced, drained-balanced, handed-balanced, numbers-closed, numbers-delivered, numbers-sent, numbers-ticked, parted-balanced}
use Rattle.csp_rdp.proofs.conserving.conserves.Goals as goal

pub returns : goal.returns
returns c = record {
  handed = λ h tag p time r whole. handed-balanced (row_of r h p.picture.payload) h tag p time r refl whole;
  admitted = λ b time r. admitted-balanced b time r;
  sent = λ j time r. numbers-sent j time r;
  taken = λ r whole. delivery-balanced r.state r whole;
  delivered = λ time r. numbers-delivered r.reset_at time (record r { recv = confirmed r.recv; owed = one_more_delivered time r.owed });
  kept_again = λ b r. again-balanced b r;
  ticked = λ time r. numbers-ticked time r;
  closed = λ time r. numbers-closed r.state time r;
  drained = λ r. drained-balanced (loose_buffer r.send) r refl;
  parted = λ r. parted-balanced r;
}
