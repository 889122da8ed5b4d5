use Rattle.std.proofs.Common.{◌≡◌, ◌-◌, ◌≤◌, length, count_by, take}
use Rattle.std.specs.Option.{is_some}
use Rattle.csp_log.specs.Moving.{moved_in}
use Rattle.csp_record.specs.Passed.{put_in}
use Rattle.csp_report.proofs.ifaces.count_accepted.Given as goal

-- the count of the entries so far, at most one each
abbrev pub invariant-loop-index : goal.invariant-loop-index
invariant-loop-index l = (l.count ≡ count_by (λ entry. is_some (put_in (moved_in entry))) (take l.index l.log.entries)) × (l.count ≤ l.index) × (l.index ≤ length l.log.entries)

abbrev pub decreases-loop-index : goal.decreases-loop-index
decreases-loop-index l = length l.log.entries - l.index
