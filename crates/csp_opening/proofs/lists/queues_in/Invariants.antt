use Rattle.std.proofs.Common.{◌≡◌, ◌≤◌, ◌*◌, take}
use Rattle.csp_opening.specs.Whole.{queue_count}
use Rattle.csp_opening.proofs.lists.queues_in.Given as goal

abbrev pub invariant-loop-here : goal.invariant-loop-here
invariant-loop-here l = record {
  count : l.count ≡ queue_count (take l.here-index l.wires);
  low : l.count ≤ 260 * l.here-index;
}
