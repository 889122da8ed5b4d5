use Rattle.std.proofs.Common.{◌-◌, ◌≤◌, ◌==◌, ◌&&◌, None, if◌then◌else◌, length, take}
use Rattle.std.specs.List.{slice_get, filter_map}
use Rattle.csp_record.specs.Table.{Adds}
use Rattle.csp_record.specs.Transmissions.{shown_in}
use Rattle.csp_record.proofs.transmissions.add_log.Given as goal

-- what the entries so far show was added
abbrev pub invariant-loop-index : goal.invariant-loop-index
invariant-loop-index l =
    Adds l.initial.table l.table (λ n i s. if n == l.node && i == l.iface then slice_get (filter_map (shown_in s) (take l.index l.log.entries)) 0 else None)
    × (l.index ≤ length l.log.entries)

abbrev pub decreases-loop-index : goal.decreases-loop-index
decreases-loop-index l = length l.log.entries - l.index
