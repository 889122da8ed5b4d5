use Rattle.std.proofs.Common.{◌≡◌, ℕ, ◌-◌, ◌≤◌, ◌++◌, length, get_or, drop}
use Rattle.csp_record.specs.Connections.{openings}
use Rattle.csp_record.proofs.Ordinals.{openings_after}
use Rattle.csp_record.proofs.connections.openings.Given as goal

-- the openings so far, then those of the entries that are still to come, are those of all entries; and no slot has more ends than there were entries
abbrev pub invariant-loop-index : goal.invariant-loop-index
invariant-loop-index l =
    (l.list.items ++ openings_after l.app (λ s. get_or l.ends s 0) (drop l.index l.log.entries) ≡ openings l.app l.log.entries)
    × ((slot : ℕ) → get_or l.ends slot 0 ≤ l.index)
    × (l.index ≤ length l.log.entries)

abbrev pub decreases-loop-index : goal.decreases-loop-index
decreases-loop-index l = length l.log.entries - l.index
