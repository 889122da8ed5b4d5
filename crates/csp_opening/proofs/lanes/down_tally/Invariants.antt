use Rattle.std.proofs.Common.{◌≡◌, ℕ, ◌<◌, false, Some, slice_get}
use Rattle.csp_consistent.specs.Reading.{is_queue}
use Rattle.csp_log.specs.declared.places.QueueId.TheVariants as queue
use Rattle.csp_opening.specs.declared.lanes.Pair.{Pair}
use Rattle.csp_opening.proofs.lanes.down_tally.Given as goal

-- none before this place goes down there
abbrev pub invariant-loop-at : goal.invariant-loop-at
invariant-loop-at l = (k : ℕ) (x : Pair) → k < l.at → slice_get l.pairs k ≡ Some x → is_queue (queue.Down l.number) x.wire.queue ≡ false
