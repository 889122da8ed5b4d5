use Rattle.std.proofs.Common.{◌≡◌, count_by, take}
use Rattle.std.specs.List.{flat_map}
use Rattle.csp_record.specs.Passed.{accepted_by}
use Rattle.csp_record.specs.Table.{is_unlike}
use Rattle.csp_record.proofs.counts.count_by_parties.Given as goal

-- the count of the parties so far
abbrev pub invariant-loop-party : goal.invariant-loop-party
invariant-loop-party l = l.count ≡ count_by (is_unlike l.table) (flat_map accepted_by (take l.party-index l.parties))
