use Rattle.csp_rdp_window.specs.Sending.{loose_buffer}
use Rattle.csp_rdp_window.specs.Receiving.{confirmed}
use Rattle.csp_rdp.specs.Jobs.{one_more_delivered}
use Rattle.csp_rdp.specs.Table.{row_of}
use Rattle.std.proofs.Common.{refl}
use Rattle.csp_rdp.proofs.RegionLemmas.{in-admitting, in-after, in-buffers, in-closed, in-delivered, in-handed-out, in-kept-again, in-rested, in-sent, in-taken, in-taken-out, in-ticked}
use Rattle.csp_rdp.proofs.laws.keeps_region.Goals as goal

pub returns : goal.returns
returns c = record {
  handed = λ name h tag p time r all e. in-after name (row_of r h p.picture.payload) h tag p time r all e;
  admitted = λ name b time r all e. record { sending = in-admitting name b r all e; kept = all.kept };
  sent = λ name j time r all. in-sent name j time r all;
  taken = λ name r all. in-taken name r.state r all;
  delivered = λ name time r all.
      in-delivered name r.reset_at time (record r { recv = confirmed r.recv; owed = one_more_delivered time r.owed }) (record { sending = all.sending; kept = all.kept });
  kept_again = λ name b r all e. record { sending = all.sending; kept = in-kept-again name b r all e };
  ticked = λ name time r all. in-ticked name time r all;
  closed = λ name time r all. in-closed name r.state time r all;
  drained = λ name r all. in-handed-out name (loose_buffer r.send) r refl all;
  rested = λ name r all. in-rested name r all;
  taken_out = λ name r all. in-taken-out name r all;
  all = λ name r all. in-buffers name r all;
  idle = λ name. record { sending = tt; kept = tt };
  connecting = λ name start options node nth time. record { sending = tt; kept = tt };
  accepting = λ name start options other tag node nth time. record { sending = tt; kept = tt };
}
