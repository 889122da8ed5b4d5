use Rattle.std.proofs.Common.{◌≡◌, ◌≤◌, false, length, drop}
use Rattle.std.specs.List.{list_any}
use Rattle.csp_app.specs.Placing.{plain_step}
use Rattle.csp_scene.specs.Sharing.{excludes}
use Rattle.csp_scene.proofs.sharing.is_excluded.Given as goal

-- none of the last steps is one that this step excludes
abbrev pub invariant-loop-number : goal.invariant-loop-number
invariant-loop-number l = (list_any (excludes (plain_step l.step)) (drop l.number l.script) ≡ false) × (l.number ≤ length l.script)

abbrev pub decreases-loop-number : goal.decreases-loop-number
decreases-loop-number l = l.number
