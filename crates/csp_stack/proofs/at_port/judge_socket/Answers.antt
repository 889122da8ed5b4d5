use Rattle.std.proofs.Common.{length}
use Rattle.csp_stack.proofs.at_port.judge_socket.Goals.{then-is_packet_lacking, else-is_packet_lacking}
use Rattle.csp_stack.proofs.at_port.judge_socket.Goals as goal

pub returns-clause-keeps : goal.returns-clause-keeps
returns-clause-keeps c = elim c.if-is_packet_lacking.branch [
  | then-is_packet_lacking w ↦ rw (w.state-is, ← w.into_buffer.ensures) (w.discard.ensures.keeps (length c.args.facts.now.ifaces))
  | else-is_packet_lacking w ↦ rw w.state-is w.hear_at.ensures.keeps
]
