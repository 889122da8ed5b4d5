use Rattle.std.proofs.Common.{◌≡◌, ◌+◌, ◌≤◌, ◌++◌, map, drop}
use Rattle.std.specs.List.{enumerate_from}
use Rattle.std.specs.String.{string_bytes}
use Rattle.csp_report.specs.Blobs.{blobs_on, blob_line, blob_lines}
use Rattle.csp_report.specs.Lines.{text_of}
use Rattle.csp_report.proofs.blobs.push_blobs.Given as goal

-- the text so far, then the lines of the blobs that are still to come, are those of all blobs; and there is at most one for each event
abbrev pub invariant-loop-event : goal.invariant-loop-event
invariant-loop-event l =
    (string_bytes l.out ++ text_of (map (λ blob. blob_line l.named.node.now l.named.app.now l.named.slot l.named.ordinal (blob.0 + 1) blob.1) (enumerate_from l.number (blobs_on l.named.slot l.named.ordinal (drop l.event-index l.events))))
    ≡ string_bytes l.initial.out ++ text_of (blob_lines l.named.node.now l.named.app.now l.named.slot l.named.ordinal (blobs_on l.named.slot l.named.ordinal l.events)))
    × (l.number ≤ l.event-index)
