use Rattle.std.proofs.Common.{◌≡◌, ◌-◌, ◌*◌, List, []}
use Rattle.std.specs.List.{range_with_len}
use Rattle.csp_base.specs.declared.limits.TheConstants.{SLOTS}
use Rattle.csp_deck.specs.Keeping.{PlainPile}
use Rattle.csp_log.specs.declared.event.Event.{Event}
use Rattle.csp_ports.specs.Came.{Comes, at_work}
use Rattle.csp_ports.specs.Kept.{IsRoomy}
use Rattle.csp_ports.specs.PlainPorts.{PortsAt}
use Rattle.csp_ports.specs.Steps.{timed_in}
use Rattle.csp_ports.proofs.ports.Ports.tick_all.Given as goal

-- what is left to do comes to what was to do at the start
abbrev pub invariant-loop-at : goal.invariant-loop-at
invariant-loop-at l =
    ((new : PortsAt) (after : PlainPile) (later : List Event)
    → Comes (at_work l.self l.trash l.report.items) (at_work new after later) (timed_in l.fn.now (range_with_len l.at (l.fn.self.ports.conns.apps * SLOTS - l.at)) l.self.ports)
    → Comes (at_work l.fn.self l.fn.trash l.fn.report.items) (at_work new after later) (timed_in l.fn.now (range_with_len 0 (l.fn.self.ports.conns.apps * SLOTS)) l.fn.self.ports))
    × (l.at-end ≡ l.fn.self.ports.conns.apps * SLOTS)
    × (l.self.ports.conns.apps ≡ l.fn.self.ports.conns.apps)
    × IsRoomy 0 l.self l.trash
    × (l.report.items ≡ [])
