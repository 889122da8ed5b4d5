use Rattle.std.proofs.Common.{refl}
use Rattle.csp_rdp_window.specs.Sending.{loose_buffer}
use Rattle.csp_rdp.specs.Table.{row_of}
use Rattle.csp_rdp.proofs.BalanceLemmas.{missing-taken, whole-again, whole-delivered, whole-drained, whole-handed, whole-out, whole-rested, whole-taken}
use Rattle.csp_rdp.proofs.conserving.keeps_whole.Goals as goal

pub returns-clause-handed : goal.returns-clause-handed
returns-clause-handed c = λ h tag p time r whole. whole-handed (row_of r h p.picture.payload) h tag p time r refl whole

pub returns-clause-taken : goal.returns-clause-taken
returns-clause-taken c = λ r whole. whole-taken r.state r refl whole

pub returns-clause-missing : goal.returns-clause-missing
returns-clause-missing c = λ r e. missing-taken r.state r e

pub returns-clause-delivered : goal.returns-clause-delivered
returns-clause-delivered c = λ time r e none whole. whole-delivered time r e none whole

pub returns-clause-kept_again : goal.returns-clause-kept_again
returns-clause-kept_again c = λ b r e none whole. whole-again b r e none whole

pub returns-clause-drained : goal.returns-clause-drained
returns-clause-drained c = λ r whole. whole-drained (loose_buffer r.send) r whole

pub returns-clause-rested : goal.returns-clause-rested
returns-clause-rested c = λ r whole. whole-rested r whole

pub returns-clause-taken_out : goal.returns-clause-taken_out
returns-clause-taken_out c = λ r whole. whole-out r.send.packets r whole
