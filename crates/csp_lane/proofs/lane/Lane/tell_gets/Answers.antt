use Rattle.std.proofs.Common.{ap}
use Rattle.csp_lane.proofs.Keeps.{notes_gets, reads_gets}
use Rattle.csp_lane.proofs.lane.Lane.tell_gets.Goals as goal

pub another-note-requires-clause-rule : goal.another-note-requires-clause-rule
another-note-requires-clause-rule c = notes_gets _ _ (ap (λ v. v.reads) c.consumer.invariant.reads)

pub absorb-requires-clause-rule : goal.absorb-requires-clause-rule
absorb-requires-clause-rule c = reads_gets _ _ _ _
