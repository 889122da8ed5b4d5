use Rattle.std.proofs.Common.{◌≡◌, drop}
use Rattle.csp_scene.specs.State.{are_joined}
use Rattle.csp_scene.proofs.sketch.are_joined.Given as goal

abbrev pub invariant-loop-place : goal.invariant-loop-place
invariant-loop-place l = are_joined l.links l.place (drop l.place l.nodes) ≡ are_joined l.links 0 l.nodes
