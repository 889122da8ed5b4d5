use Rattle.std.proofs.Common.{◌≡◌, ◌-◌, ◌*◌}
use Rattle.std.specs.List.{list_any, range_with_len}
use Rattle.csp_base.specs.declared.limits.TheConstants.{SLOTS}
use Rattle.csp_ports.specs.Quiet.{any_due, is_due}
use Rattle.csp_ports.proofs.ports.Ports.any_due.Given as goal

-- what is left says what all say
abbrev pub invariant-loop-at : goal.invariant-loop-at
invariant-loop-at l =
    (list_any (is_due l.now l.self.ports) (range_with_len l.at (l.self.ports.conns.apps * SLOTS - l.at)) ≡ any_due l.now l.self.ports)
    × (l.at-end ≡ l.self.ports.conns.apps * SLOTS)
