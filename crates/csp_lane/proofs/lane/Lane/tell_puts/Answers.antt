use Rattle.std.proofs.Common.{ap}
use Rattle.csp_lane.proofs.Keeps.{notes_puts, reads_puts}
use Rattle.csp_lane.proofs.lane.Lane.tell_puts.Goals as goal

pub another-note-requires-clause-rule : goal.another-note-requires-clause-rule
another-note-requires-clause-rule c = notes_puts _ _ (ap (λ v. v.writes) c.producer.invariant.writes)

pub absorb-requires-clause-rule : goal.absorb-requires-clause-rule
absorb-requires-clause-rule c = reads_puts _ _ _ _
