use Rattle.std.proofs.Common.{◌≡◌, ◌-◌, ◌≤◌, length, count_by, take}
use Rattle.std.specs.List.{filter_map}
use Rattle.csp_log.specs.Moving.{moved_in}
use Rattle.csp_record.specs.Passed.{put_in}
use Rattle.csp_record.specs.Table.{is_unlike}
use Rattle.csp_record.proofs.counts.count_in_log.Given as goal

-- the count of the entries so far, at most one each
abbrev pub invariant-loop-index : goal.invariant-loop-index
invariant-loop-index l = (l.count ≡ count_by (is_unlike l.table) (filter_map (λ e. put_in (moved_in e)) (take l.index l.log.entries))) × (l.count ≤ l.index) × (l.index ≤ length l.log.entries)

abbrev pub decreases-loop-index : goal.decreases-loop-index
decreases-loop-index l = length l.log.entries - l.index
