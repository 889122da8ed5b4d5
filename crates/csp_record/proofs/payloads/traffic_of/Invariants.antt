use Rattle.std.proofs.Common.{◌≡◌, ℕ, ◌-◌, ◌≤◌, ◌++◌, length, get_or, drop}
use Rattle.csp_base.specs.Seat.{seat}
use Rattle.csp_record.specs.Payloads.{payloads}
use Rattle.csp_record.specs.Traffic.{payloads_on}
use Rattle.csp_record.proofs.Ordinals.{payloads_after}
use Rattle.csp_record.proofs.payloads.traffic_of.Given as goal

-- what the entries so far told, then what those tell that are still to come, is what all entries tell; and no slot has more ends than there were entries
abbrev pub invariant-loop-index : goal.invariant-loop-index
invariant-loop-index l =
    ((slot ordinal : ℕ) → payloads_on l.table.entries slot ordinal ++ payloads_after l.way (seat l.app slot) ordinal (λ s. get_or l.ends s 0) (drop l.index l.log.entries) ≡ payloads l.way (seat l.app slot) ordinal l.log.entries)
    × ((slot : ℕ) → get_or l.ends slot 0 ≤ l.index)
    × (l.index ≤ length l.log.entries)

abbrev pub decreases-loop-index : goal.decreases-loop-index
decreases-loop-index l = length l.log.entries - l.index
