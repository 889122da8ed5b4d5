use Rattle.std.proofs.Common.{◌≡◌, ◌++◌, map, drop}
use Rattle.std.specs.String.{string_bytes}
use Rattle.csp_report.specs.Blobs.{refusals_on, badblob_line}
use Rattle.csp_report.specs.Lines.{text_of}
use Rattle.csp_report.proofs.blobs.push_refusals.Given as goal

-- the text so far, then the lines of the refusals that are still to come, are those of all refusals
abbrev pub invariant-loop-event : goal.invariant-loop-event
invariant-loop-event l =
    string_bytes l.out ++ text_of (map (badblob_line l.named.node.now l.named.app.now l.named.slot l.named.ordinal) (refusals_on l.named.slot l.named.ordinal (drop l.event-index l.events)))
    ≡ string_bytes l.initial.out ++ text_of (map (badblob_line l.named.node.now l.named.app.now l.named.slot l.named.ordinal) (refusals_on l.named.slot l.named.ordinal l.events))
