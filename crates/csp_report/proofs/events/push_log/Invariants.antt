use Rattle.std.proofs.Common.{◌≡◌, ◌-◌, ◌≤◌, ◌++◌, length, drop}
use Rattle.std.specs.List.{flat_map}
use Rattle.std.specs.String.{string_bytes}
use Rattle.csp_report.specs.Lines.{text_of}
use Rattle.csp_report.specs.Events.{entry_lines}
use Rattle.csp_report.proofs.events.push_log.Given as goal

-- the text so far, then the lines that are still to come, are those of all entries
abbrev pub invariant-loop-index : goal.invariant-loop-index
invariant-loop-index l =
    (string_bytes l.out ++ text_of (flat_map (entry_lines l.node) (drop l.index l.log.entries))
    ≡ string_bytes l.initial.out ++ text_of (flat_map (entry_lines l.node) l.log.entries))
    × (l.index ≤ length l.log.entries)

abbrev pub decreases-loop-index : goal.decreases-loop-index
decreases-loop-index l = length l.log.entries - l.index
