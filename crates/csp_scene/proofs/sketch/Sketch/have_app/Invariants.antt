use Rattle.std.proofs.Common.{◌≡◌, drop}
use Rattle.std.specs.List.{list_any}
use Rattle.csp_scene.specs.Links.{node_at}
use Rattle.csp_scene.specs.Joining.{has_app}
use Rattle.csp_scene.proofs.sketch.Sketch.have_app.Given as goal

abbrev pub invariant-loop-place : goal.invariant-loop-place
invariant-loop-place l = list_any (λ place. has_app l.name.bytes (node_at l.self.nodes place)) (drop l.place-index l.places) ≡ list_any (λ place. has_app l.name.bytes (node_at l.self.nodes place)) l.places
