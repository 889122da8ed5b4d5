use Rattle.std.proofs.Common.{◌≡◌, drop}
use Rattle.std.specs.List.{list_all}
use Rattle.csp_scene.specs.Joining.{takes_link}
use Rattle.csp_scene.proofs.sketch.Sketch.take_link.Given as goal

abbrev pub invariant-loop-place : goal.invariant-loop-place
invariant-loop-place l = list_all (takes_link l.self) (drop l.place-index l.places) ≡ list_all (takes_link l.self) l.places
