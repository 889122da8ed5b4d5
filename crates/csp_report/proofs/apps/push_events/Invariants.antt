use Rattle.std.proofs.Common.{◌≡◌, ◌++◌, drop}
use Rattle.std.specs.List.{flat_map}
use Rattle.std.specs.String.{string_bytes}
use Rattle.csp_report.specs.Lines.{text_of}
use Rattle.csp_report.specs.Events.{event_lines}
use Rattle.csp_report.proofs.apps.push_events.Given as goal

-- the text so far, then the lines that are still to come, are those of all these events
abbrev pub invariant-loop-event : goal.invariant-loop-event
invariant-loop-event l = string_bytes l.out ++ text_of (flat_map (event_lines l.node l.app) (drop l.event-index l.events)) ≡ string_bytes l.initial.out ++ text_of (flat_map (event_lines l.node l.app) l.events)
