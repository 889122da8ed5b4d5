use Rattle.std.proofs.Common.{length}
use Rattle.csp_stack.proofs.at_port.judge_connection.Goals.{then-is_apart, else-is_apart+then-is_packet_lacking, else-is_apart+else-is_packet_lacking}
use Rattle.csp_stack.proofs.at_port.judge_connection.Goals as goal

pub returns-clause-keeps : goal.returns-clause-keeps
returns-clause-keeps c = elim c.if-is_apart.branch [
  | then-is_apart w ↦ rw (w.state-is, ← w.into_buffer.ensures) (w.discard.ensures.keeps (length c.args.facts.now.ifaces))
  | else-is_apart+then-is_packet_lacking w ↦ rw (w.state-is, ← w.into_buffer-then-is_packet_lacking.ensures) (w.discard-then-is_packet_lacking.ensures.keeps (length c.args.facts.now.ifaces))
  | else-is_apart+else-is_packet_lacking w ↦ rw w.state-is w.hear_on.ensures.keeps
]
