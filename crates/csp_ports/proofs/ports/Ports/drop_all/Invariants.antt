use Rattle.std.proofs.Common.{◌≡◌, ◌+◌, ◌-◌, ◌*◌, ◌≤◌, List, length}
use Rattle.std.specs.List.{range_with_len}
use Rattle.csp_base.specs.declared.limits.TheConstants.{MAX_APPS, SLOTS}
use Rattle.csp_deck.specs.Keeping.{PlainPile}
use Rattle.csp_log.specs.declared.event.Event.{Event}
use Rattle.csp_ports.specs.Came.{Comes, at_work}
use Rattle.csp_ports.specs.Kept.{IsRoomy}
use Rattle.csp_ports.specs.PlainPorts.{PortsAt, stalls}
use Rattle.csp_ports.specs.Steps.{dropped_in}
use Rattle.csp_ports.proofs.ports.Ports.drop_all.Given as goal

-- what is left to do comes to what was to do at the start; packets that wait, and those that were reported, are no more than before
abbrev pub invariant-loop-at : goal.invariant-loop-at
invariant-loop-at l =
    ((new : PortsAt) (after : PlainPile) (later : List Event)
    → Comes (at_work l.self l.trash l.report.items) (at_work new after later) (dropped_in (range_with_len l.at (l.fn.self.ports.conns.apps * SLOTS - l.at)) l.self.ports)
    → Comes (at_work l.fn.self l.fn.trash l.fn.report.items) (at_work new after later) (dropped_in (range_with_len 0 (l.fn.self.ports.conns.apps * SLOTS)) l.fn.self.ports))
    × (l.at-end ≡ l.fn.self.ports.conns.apps * SLOTS)
    × (l.self.ports.conns.apps ≡ l.fn.self.ports.conns.apps)
    × IsRoomy 0 l.self l.trash
    × (length l.report.items + stalls l.self.ports.slots ≤ MAX_APPS)
