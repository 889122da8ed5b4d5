use Rattle.std.proofs.Common.{◌≡◌, ◌-◌, ◌≤◌, ◌++◌, length, drop}
use Rattle.std.specs.List.{flat_map}
use Rattle.csp_exports.specs.Frames.{written_for}
use Rattle.csp_exports.proofs.frames.push_log.Given as goal

-- what is written so far, then what is still to come, is that for all entries
abbrev pub invariant-loop-index : goal.invariant-loop-index
invariant-loop-index l =
    (l.out.items ++ flat_map (written_for l.form l.link) (drop l.index l.log.entries) ≡ l.initial.out.items ++ flat_map (written_for l.form l.link) l.log.entries)
    × (l.index ≤ length l.log.entries)

abbrev pub decreases-loop-index : goal.decreases-loop-index
decreases-loop-index l = length l.log.entries - l.index
