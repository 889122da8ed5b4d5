use Rattle.std.proofs.Common.{◌==◌, ◌&&◌, None, Some, if◌then◌else◌, take}
use Rattle.std.specs.List.{list_any}
use Rattle.csp_record.specs.Table.{Adds}
use Rattle.csp_record.specs.Transmissions.{is_beginning}
use Rattle.csp_record.proofs.transmissions.add_begun.Given as goal

-- the packet was added for the events so far
abbrev pub invariant-loop-event : goal.invariant-loop-event
invariant-loop-event l = Adds l.initial.table l.table (λ n i s. if n == l.node && i == l.iface && list_any (is_beginning s) (take l.event-index l.events) then Some l.packet else None)
