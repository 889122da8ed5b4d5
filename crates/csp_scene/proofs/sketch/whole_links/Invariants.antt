use Rattle.std.proofs.Common.{◌≡◌, ◌++◌, length}
use Rattle.csp_scene.proofs.sketch.whole_links.Given as goal

abbrev pub invariant-loop-link : goal.invariant-loop-link
invariant-loop-link l = l.whole.items ++ l.links.items ≡ l.fn.links.items

abbrev pub decreases-loop-link : goal.decreases-loop-link
decreases-loop-link l = length l.links.items
