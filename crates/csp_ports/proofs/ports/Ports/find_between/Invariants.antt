use Rattle.std.proofs.Common.{◌≡◌, ◌-◌}
use Rattle.std.specs.List.{find, range_with_len}
use Rattle.csp_ports.specs.Tasks.{has_task}
use Rattle.csp_ports.proofs.ports.Ports.find_between.Given as goal

-- what is left has the first that all have
abbrev pub invariant-loop-at : goal.invariant-loop-at
invariant-loop-at l = find (has_task l.now l.self.ports) (range_with_len l.at (l.end - l.at)) ≡ find (has_task l.now l.self.ports) (range_with_len l.first (l.end - l.first))
