use Rattle.std.proofs.Common.{◌≡◌, ◌+◌, ◌-◌, ◌++◌, length}
use Rattle.csp_hub.specs.Circling.{sources}
use Rattle.csp_hub.proofs.hub.push_sources.Given as goal

abbrev pub invariant-loop-number : goal.invariant-loop-number
invariant-loop-number l = record {
  items : l.circle.items ≡ l.initial.circle.items ++ sources l.first (l.number - l.first);
  long : length l.circle.items + l.first ≡ length l.initial.circle.items + l.number;
}
