use Rattle.std.proofs.Common.{◌≡◌, ◌++◌, filter, drop}
use Rattle.csp_report.specs.Blobs.{is_of_blobs}
use Rattle.csp_report.proofs.blobs.of_blobs.Given as goal

-- those kept so far, then those still to come that tell of blobs, are those of all these events
abbrev pub invariant-loop-event : goal.invariant-loop-event
invariant-loop-event l = l.told.items ++ filter is_of_blobs (drop l.event-index l.events) ≡ filter is_of_blobs l.events
