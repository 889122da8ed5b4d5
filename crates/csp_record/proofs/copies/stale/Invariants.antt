use Rattle.std.proofs.Common.{◌≡◌, ◌-◌, ◌^◌, count_by, min, take}
use Rattle.std.specs.List.{flat_map}
use Rattle.csp_log.specs.PlainLog.{all_events}
use Rattle.csp_record.specs.Stale.{is_stale}
use Rattle.csp_record.proofs.copies.stale.Given as goal

-- the count of the parties so far, as far as 64 bits count
abbrev pub invariant-loop-party : goal.invariant-loop-party
invariant-loop-party l = l.count ≡ min (count_by is_stale (flat_map (λ party. all_events party.entries) (take l.party-index l.run.parties))) (2 ^ 64 - 1)
