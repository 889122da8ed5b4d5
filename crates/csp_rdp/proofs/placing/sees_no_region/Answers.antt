use Rattle.std.proofs.Common.{refl, sym}
use Rattle.csp_rdp_window.specs.Receiving.{confirmed}
use Rattle.csp_rdp.specs.Jobs.{one_more_delivered}
use Rattle.csp_rdp.proofs.PlacedLemmas.{placed-admitting, placed-again, placed-back, placed-buffers, placed-closed, placed-delivery, placed-filled, placed-handed, placed-is-kept, placed-job, placed-out, placed-rdp-numbers, placed-reset-after, placed-rested, placed-row, placed-sent, placed-taken, placed-ticked, placed-unneeded}
use Rattle.csp_rdp.proofs.placing.sees_no_region.Goals as goal

pub returns : goal.returns
returns c = record {
  row = λ n h bytes r. placed-row n h bytes r;
  back = λ n y p. placed-back n y p;
  handed = λ n h tag p time r. sym (placed-handed n h tag p time r);
  admitted = λ n b time r. sym (placed-admitting n b time r);
  job = λ n time r. placed-job n time r;
  filled = λ n j time r b. placed-filled n j time r b;
  sent = λ n j time r. sym (placed-sent n j time r);
  delivery = λ n r. placed-delivery n r.state r;
  taken = λ n r. sym (placed-taken n r.state r);
  delivered = λ n time r. sym (placed-reset-after n r.reset_at time (record r { recv = confirmed r.recv; owed = one_more_delivered time r.owed }));
  kept_again = λ n b r. sym (placed-again n b r);
  ticked = λ n time r. sym (placed-ticked n time r);
  closed = λ n time r. sym (placed-closed n r.state time r);
  rested = λ n r. sym (placed-rested n r);
  unneeded = λ n r. placed-unneeded n r;
  taken_out = λ n r. sym (placed-out n r.send.packets r);
  buffers = λ n r. placed-buffers n r;
  numbers = λ n r. placed-rdp-numbers n r;
  full = λ n r. refl;
  kept = λ n r t. placed-is-kept n t r.recv;
}
