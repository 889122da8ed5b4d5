use Rattle.std.proofs.Common.{◌≡◌, ◌≤◌, map, take}
use Rattle.arrayvec.specs.ArrayVec.{array_vec_len}
use Rattle.csp_scene.specs.Joining.{end_at}
use Rattle.csp_scene.proofs.sketch.Sketch.ends_at.Given as goal

abbrev pub invariant-loop-place : goal.invariant-loop-place
invariant-loop-place l = record {
  ends : l.ends.items ≡ map (end_at l.self.links) (take l.place-index l.places);
  few : array_vec_len l.ends ≤ l.place-index;
}
